-- `prepare_times` meets its contract: each turn prepares with the account, the meter and the slot that the last left. Assumes nothing.
use mathlib.Core.Path.{◌≡◌}
use Prim.Native.Nat.{◌-◌}
use Rattle.model.specs.Slots.{row_in}
use Rattle.leaves.specs.Calls.{again, prepare_once, preparer}
use Rattle.leaves.proofs.prepare_times.Given as goal

abbrev pub invariant-loop : goal.invariant-loop
invariant-loop l =
    again (prepare_once (row_in l.p)) preparer (l.times - l.counter) (l.purse.account, l.purse.meter, l.slot)
    ≡ again (prepare_once (row_in l.p)) preparer (l.times - 1) (l.initial.purse.account, l.initial.purse.meter, l.initial.slot)
