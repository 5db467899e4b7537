use mathlib.Core.Path.{sym}
use Rattle.slots.proofs.Sides.{condition-scalar, condition-packed}
use Rattle.slots.proofs.conditions.Goals as goal

pub returns-then-slot-eq0 : goal.returns-then-slot-eq0
returns-then-slot-eq0 c = sym (condition-scalar _ c.if-slot-eq0.true)

pub returns-else-slot-eq0 : goal.returns-else-slot-eq0
returns-else-slot-eq0 c = sym (condition-packed _ c.if-slot-eq0.false)
