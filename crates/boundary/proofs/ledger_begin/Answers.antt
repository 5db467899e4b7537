-- `boundary::ledger_begin`. Two ways out. Assumes nothing.
use Rattle.boundary.proofs.Calling.{begin-refused, begin-done}
use Rattle.boundary.proofs.ledger_begin.Goals as goal

pub returns-then-reply-ne0 : goal.returns-then-reply-ne0
returns-then-reply-ne0 c =
    begin-refused _ _ _ _ _ c.header_of.ensures _ c.begin-begun.result c.begin-begun.ensures
    c.done_reply-reply.ensures.begin c.if-reply-ne0.true

pub returns : goal.returns
returns c =
    begin-done _ _ _ _ _ c.header_of.ensures _ c.begin-begun.result c.begin-begun.ensures
    c.done_reply-reply.ensures.begin _ _ c.if-reply-ne0.false c.put_header.ensures
    c.put_answer.ensures
