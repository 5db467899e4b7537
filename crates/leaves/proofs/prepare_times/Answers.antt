-- `prepare_times`: one, and as many more as were left, less one. Assumes nothing.
use mathlib.Core.Path.{◌≡◌, ◌∙◌}
use Prim.Native.Nat.{◌+◌, ◌-◌, ◌<◌}
use native.Mathlib.Omega.{arith}
use Rattle.model.specs.Slots.{row_in}
use Rattle.leaves.specs.Calls.{prepare_once, preparer}
use Rattle.leaves.proofs.Calling.{again-turn, again-end}
use Rattle.leaves.proofs.prepare_times.Goals as goal

pub loop-preserved : goal.loop-preserved
loop-preserved c =
    let a = c.args in
    let some : 0 < a.times - c.loop.counter = omega arith in
    let less : a.times - (c.loop.counter + 1) ≡ a.times - c.loop.counter - 1 = omega arith in
    rw less (again-turn (prepare_once (row_in a.p.now)) preparer (a.times - c.loop.counter) _ some (c.prepare.ensures) ∙ c.loop.invariant)

pub returns : goal.returns
returns c =
    let a = c.args in
    let none : a.times - c.loop.counter ≡ 0 = omega arith in
    again-end (prepare_once (row_in a.p.now)) preparer (a.times - c.loop.counter) _ none c.prepare-2.ensures ∙ c.loop.invariant
