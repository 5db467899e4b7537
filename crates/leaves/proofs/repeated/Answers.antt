-- `repeated`: one call, and as many more as were left, less one. Assumes nothing.
use mathlib.Core.Path.{◌≡◌, refl}
use Prim.Native.Nat.{◌+◌, ◌-◌, ◌<◌}
use native.Mathlib.Omega.{arith}
use Rattle.leaves.proofs.Repeating.{turn, last}
use Rattle.leaves.proofs.repeated.Goals as goal

pub loop-init : goal.loop-init
loop-init g c = λ r y e. e

pub loop-preserved : goal.loop-preserved
loop-preserved g c = λ r y e.
    let some : 0 < c.args.times - c.loop.counter = omega arith in
    let less : c.args.times - (c.loop.counter + 1) ≡ c.args.times - c.loop.counter - 1 = omega arith in
    c.loop.invariant r y (turn g.F.Fn c.args.call _ _ _ _ _ _ _ less some
    record { shown = _; shows = refl; left = _; met = c.call.ensures; leaves = refl } e)

pub returns : goal.returns
returns g c =
    let none : c.args.times - c.loop.counter ≡ 0 = omega arith in
    c.loop.invariant _ _ (last g.F.Fn c.args.call _ _ _ _ none
    record { shown = _; shows = refl; left = _; met = c.call-2.ensures; leaves = refl })
