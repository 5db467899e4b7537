use mathlib.Core.Path.{sym}
use Rattle.slots.proofs.Sides.{output-scalar, output-packed}
use Rattle.slots.proofs.outputs.Goals as goal

pub returns-then-slot-eq0 : goal.returns-then-slot-eq0
returns-then-slot-eq0 c = sym (output-scalar _ c.if-slot-eq0.true)

pub returns-else-slot-eq0 : goal.returns-else-slot-eq0
returns-else-slot-eq0 c = sym (output-packed _ c.if-slot-eq0.false)
