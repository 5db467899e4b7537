-- `boundary::ledger_hit`. Two ways out. Assumes nothing.
use Rattle.boundary.proofs.Calling.{hit-refused, hit-done}
use Rattle.boundary.proofs.ledger_hit.Goals as goal

pub returns-then-reply-ne0 : goal.returns-then-reply-ne0
returns-then-reply-ne0 c =
    hit-refused _ _ _ _ _ c.header_of.ensures _ _ c.hit-done.result _
    c.hit-done.ensures c.done_reply-reply.ensures.hit c.if-reply-ne0.true

pub returns : goal.returns
returns c =
    hit-done _ _ _ _ _ c.header_of.ensures _ _ c.hit-done.result _
    c.hit-done.ensures c.done_reply-reply.ensures.hit _ _ c.if-reply-ne0.false
    c.put_header.ensures c.put_answer.ensures
