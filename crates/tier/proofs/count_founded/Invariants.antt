-- `tier::count_founded`. The Founded rows met and those still to come are all. Assumes nothing.
use mathlib.Core.Path.{◌≡◌}
use Prim.Native.Nat.{◌+◌, ◌≤◌}
use lib.ListN.{drop}
use Rattle.model.specs.Records.{founded_rows}
use Rattle.model.specs.Slots.{entries_in}
use Rattle.tier.proofs.count_founded.Given as goal

abbrev pub invariant-loop-i : goal.invariant-loop-i
invariant-loop-i l = record {
  few : l.count ≤ l.i;
  all : l.count + founded_rows (drop l.i (entries_in l.rows l.slots)) ≡ founded_rows (entries_in l.rows l.slots);
}
