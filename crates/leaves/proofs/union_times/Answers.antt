-- `union_times`: one, and as many more as were left, less one. Assumes nothing.
use mathlib.Core.Path.{◌≡◌, ◌∙◌}
use Prim.Native.Nat.{◌+◌, ◌-◌, ◌<◌}
use native.Mathlib.Omega.{arith}
use Rattle.leaves.specs.Calls.{payer}
use Rattle.leaves.proofs.union_times.Invariants.{asks}
use Rattle.leaves.proofs.Calling.{again-turn, again-end}
use Rattle.leaves.proofs.union_times.Goals as goal

pub loop-preserved : goal.loop-preserved
loop-preserved c =
    let a = c.args in
    let some : 0 < a.times - c.loop.counter = omega arith in
    let less : a.times - (c.loop.counter + 1) ≡ a.times - c.loop.counter - 1 = omega arith in
    rw less (again-turn (asks a.r.now a.conditions.now a.outputs.now a.most) payer (a.times - c.loop.counter) _ some (c.unite.ensures.0) ∙ c.loop.invariant)

pub returns : goal.returns
returns c =
    let a = c.args in
    let none : a.times - c.loop.counter ≡ 0 = omega arith in
    let asked = asks a.r.now a.conditions.now a.outputs.now a.most in
    (again-end asked payer (a.times - c.loop.counter) _ none c.unite-2.ensures.0 ∙ c.loop.invariant, c.unite-2.ensures.1)
