-- `repeated` meets its contract: what the turns to come do, all of them do. Assumes nothing.
use Prim.Native.Nat.{◌-◌}
use Rattle.leaves.specs.Repeats.{Repeats}
use Rattle.leaves.proofs.repeated.Given as goal

abbrev pub invariant-loop : goal.invariant-loop
invariant-loop g l =
    (r : g.row.R.Denot) (y : g.row.S.Denot)
    → Repeats g.F.Fn l.call (l.times - l.counter) l.state r y → Repeats g.F.Fn l.call (l.times - 1) l.initial.state r y
