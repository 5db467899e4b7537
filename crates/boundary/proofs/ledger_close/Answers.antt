-- `boundary::ledger_close`. Two ways out. Assumes nothing.
use Rattle.boundary.proofs.LearningCalls.{close-refused, close-done}
use Rattle.boundary.proofs.ledger_close.Goals as goal

-- where the closing has come back, from each way out
pub returns-then-reply-ne0 : goal.returns-then-reply-ne0
returns-then-reply-ne0 c =
    close-refused _ _ _ _ _ _ c.header_of.ensures _
    c.meter_of.ensures _ _ _ _ _ c.close-closed.result _ _ _ _ _ _ c.close-closed.ensures c.close_reply-reply.ensures
    c.if-reply-ne0.true

pub returns : goal.returns
returns c =
    close-done _ _ _ _ _ _ c.header_of.ensures _
    c.meter_of.ensures _ _ _ _ _ c.close-closed.result _ _ _ _ _ _ c.close-closed.ensures
    c.close_reply-reply.ensures _ _ _
    c.if-reply-ne0.false c.put_header.ensures
    c.put_answer.ensures c.put_meter.ensures
