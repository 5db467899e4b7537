-- `boundary::ledger_seed`. Two ways out. Assumes nothing.
use Rattle.boundary.proofs.SharingCalls.{seed-refused, seed-done}
use Rattle.boundary.proofs.ledger_seed.Goals as goal

pub returns-then-reply-ne0 : goal.returns-then-reply-ne0
returns-then-reply-ne0 c =
    seed-refused _ _ _ _ _ _ _ _ c.header_of.ensures _
    c.header_of-2.ensures _ c.meter_of.ensures _ _ c.seed-seeded.result c.transfer_reply-reply.ensures _ _
    c.seed-seeded.ensures c.if-reply-ne0.true

pub returns : goal.returns
returns c =
    seed-done _ _ _ _ _ _ _ _ c.header_of.ensures _
    c.header_of-2.ensures _ c.meter_of.ensures _ _ c.seed-seeded.result c.transfer_reply-reply.ensures _ _
    c.seed-seeded.ensures _ _ _ _ c.if-reply-ne0.false
    c.put_header.ensures c.put_header-2.ensures
    c.put_answer.ensures c.put_meter.ensures
