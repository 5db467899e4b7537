-- `boundary::ledger_decide`. Two ways out. Assumes nothing.
use Rattle.boundary.proofs.Calling.{decide-refused, decide-done}
use Rattle.boundary.proofs.ledger_decide.Goals as goal

pub returns-then-reply-ne0 : goal.returns-then-reply-ne0
returns-then-reply-ne0 c =
    decide-refused _ _ _ _ _ _ c.decide-decided.result _ _
    c.decide-decided.ensures _ c.decide_reply-reply.ensures c.if-reply-ne0.true

pub returns : goal.returns
returns c =
    decide-done _ _ _ _ _ _ c.decide-decided.result _ _
    c.decide-decided.ensures _ c.decide_reply-reply.ensures _ c.if-reply-ne0.false
    c.put_answer.ensures
