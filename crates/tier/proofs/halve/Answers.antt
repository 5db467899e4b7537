use mathlib.Core.Path.{◌∙◌}
use native.Mathlib.Omega.{arith}
use Rattle.tier.proofs.Halving.{halve-start, halve-step, halve-end}
use Rattle.tier.proofs.halve.Goals as goal

pub loop-i-init : goal.loop-i-init
loop-i-init c = halve-start _ _ c.requires

pub loop-i-preserved : goal.loop-i-preserved
loop-i-preserved c = halve-step _ _ c.requires c.loop-i.i c.loop-i.slots (omega arith) c.loop-i.invariant

pub returns : goal.returns
returns c = c.loop-i.invariant ∙ halve-end _ _ c.requires c.loop-i.i (omega arith)
