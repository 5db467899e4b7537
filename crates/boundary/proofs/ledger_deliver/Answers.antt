-- `boundary::ledger_deliver`. Two ways out. Assumes nothing.
use Rattle.boundary.proofs.SharingCalls.{deliver-refused, deliver-done}
use Rattle.boundary.proofs.ledger_deliver.Goals as goal

pub returns-then-reply-ne0 : goal.returns-then-reply-ne0
returns-then-reply-ne0 c =
    deliver-refused _ _ _ _ _ _ _ _ c.header_of.ensures _
    c.header_of-2.ensures _ c.meter_of.ensures _ _ c.deliver-delivered.result
    c.transfer_reply-reply.ensures _ _ _ c.deliver-delivered.ensures c.if-reply-ne0.true

pub returns : goal.returns
returns c =
    deliver-done _ _ _ _ _ _ _ _ c.header_of.ensures _
    c.header_of-2.ensures _ c.meter_of.ensures _ _ c.deliver-delivered.result
    c.transfer_reply-reply.ensures _ _ _ c.deliver-delivered.ensures _ _ _ _
    c.if-reply-ne0.false
    c.put_header.ensures c.put_header-2.ensures
    c.put_answer.ensures c.put_meter.ensures
