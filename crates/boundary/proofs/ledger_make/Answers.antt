-- `boundary::ledger_make`. Two ways out. Assumes nothing.
use Rattle.boundary.proofs.Calling.{make-refused, make-done}
use Rattle.boundary.proofs.ledger_make.Goals as goal

pub returns-then-reply-ne0 : goal.returns-then-reply-ne0
returns-then-reply-ne0 c =
    make-refused _ _ _ _ _ _ _ c.limits_of.ensures
    c.make-made.result _ _ c.make-made.ensures _
    c.make_reply-reply.ensures c.if-reply-ne0.true

pub returns : goal.returns
returns c =
    make-done _ _ _ _ _ _ _ c.limits_of.ensures
    c.make-made.result _ _ c.make-made.ensures _
    c.make_reply-reply.ensures _ _ c.if-reply-ne0.false c.put_made.ensures
    c.put_answer.ensures
