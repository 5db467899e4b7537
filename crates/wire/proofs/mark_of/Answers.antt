-- `wire::mark_of`. By the first word. Assumes nothing.
use Rattle.wire.proofs.Reading.{mark-none, mark-some}
use Rattle.wire.proofs.mark_of.Goals as goal

pub returns-then-set-eq0 : goal.returns-then-set-eq0
returns-then-set-eq0 c = mark-none _ _ _ c.if-set-eq0.true

pub returns : goal.returns
returns c = mark-some _ _ _ c.if-set-eq0.false
