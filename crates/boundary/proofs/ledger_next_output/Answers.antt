-- `boundary::ledger_next_output`. Two ways out. Assumes nothing.
use Rattle.boundary.proofs.Calling.{output-refused, output-done}
use Rattle.boundary.proofs.ledger_next_output.Goals as goal

pub returns-then-reply-ne0 : goal.returns-then-reply-ne0
returns-then-reply-ne0 c =
    output-refused _ _ _ _ _ c.header_of.ensures _ _ _ _ _ _
    c.meter_of.ensures _ _ c.cursor_of.ensures c.next_output-next.result
    c.next_output-next.ensures c.next_reply-reply.ensures c.if-reply-ne0.true

pub returns : goal.returns
returns c =
    output-done _ _ _ _ _ c.header_of.ensures _ _ _ _ _ _
    c.meter_of.ensures _ _ c.cursor_of.ensures c.next_output-next.result
    c.next_output-next.ensures c.next_reply-reply.ensures _ _ _
    c.if-reply-ne0.false c.put_answer.ensures
    c.put_meter.ensures c.put_cursor.ensures
