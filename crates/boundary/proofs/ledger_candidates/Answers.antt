-- `boundary::ledger_candidates`. Two ways out. Assumes nothing.
use Rattle.boundary.proofs.LearningCalls.{candidates-refused, candidates-done}
use Rattle.boundary.proofs.ledger_candidates.Goals as goal

pub returns-then-reply-ne0 : goal.returns-then-reply-ne0
returns-then-reply-ne0 c =
    candidates-refused _ _ _ _ _ _ c.header_of.ensures _
    c.meter_of.ensures _ _ _
    c.candidates-searched.result _ _ c.candidates-searched.ensures
    c.candidates_reply-reply.ensures c.if-reply-ne0.true

pub returns : goal.returns
returns c =
    candidates-done _ _ _ _ _ _ c.header_of.ensures _
    c.meter_of.ensures _ _ _
    c.candidates-searched.result _ _ c.candidates-searched.ensures
    c.candidates_reply-reply.ensures _ _ _ c.if-reply-ne0.false
    c.put_header.ensures c.put_answer.ensures c.put_meter.ensures
