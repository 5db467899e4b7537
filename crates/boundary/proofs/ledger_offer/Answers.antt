-- `boundary::ledger_offer`. Two ways out. Assumes nothing.
use Rattle.boundary.proofs.LearningCalls.{offer-refused, offer-done}
use Rattle.boundary.proofs.ledger_offer.Goals as goal

pub returns-then-reply-ne0 : goal.returns-then-reply-ne0
returns-then-reply-ne0 c =
    offer-refused _ _ _ _ _ _ c.header_of.ensures _
    c.meter_of.ensures _ _ _ _ c.offer-offered.result
    _ _ c.offer-offered.ensures c.offer_reply-reply.ensures c.if-reply-ne0.true

pub returns : goal.returns
returns c =
    offer-done _ _ _ _ _ _ c.header_of.ensures _
    c.meter_of.ensures _ _ _ _ c.offer-offered.result
    _ _ c.offer-offered.ensures c.offer_reply-reply.ensures _ _ _
    c.if-reply-ne0.false c.put_header.ensures
    c.put_answer.ensures c.put_meter.ensures
