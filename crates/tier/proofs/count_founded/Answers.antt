use native.Mathlib.Omega.{arith}
use Rattle.tier.proofs.Victims.{source-most, founded-step, founded-end}
use Rattle.tier.proofs.count_founded.Goals as goal

pub overflow_sub-count : goal.overflow_sub-count
overflow_sub-count c = source-most _ _ c.requires c.loop-i.i (omega arith)

pub loop-i-preserved : goal.loop-i-preserved
loop-i-preserved c =
    let n = founded-step _ _ c.requires c.loop-i.i (omega arith) in
    record { few = omega arith; all = omega arith }

pub returns : goal.returns
returns c =
    let n = founded-end _ _ c.requires c.loop-i.i (omega arith) in
    omega arith
