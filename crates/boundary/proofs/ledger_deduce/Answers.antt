-- `boundary::ledger_deduce`. Two ways out. Assumes nothing.
use Rattle.boundary.proofs.Calling.{deduce-refused, deduce-done}
use Rattle.boundary.proofs.ledger_deduce.Goals as goal

pub returns-then-reply-ne0 : goal.returns-then-reply-ne0
returns-then-reply-ne0 c =
    deduce-refused _ _ _ _ _ c.header_of.ensures _ _ _ _ _ _ c.meter_of.ensures
    c.deduce-deduced.result c.deduce-deduced.ensures c.deduce_reply-reply.ensures c.if-reply-ne0.true

pub returns : goal.returns
returns c =
    deduce-done _ _ _ _ _ c.header_of.ensures _ _ _ _ _ _ c.meter_of.ensures
    c.deduce-deduced.result c.deduce-deduced.ensures c.deduce_reply-reply.ensures _ _
    c.if-reply-ne0.false c.put_answer.ensures c.put_meter.ensures
