-- `tier::victim`. What is left to be compared has the same least. Assumes nothing.
use mathlib.Core.Path.{◌≡◌}
use mathlib.Core.Option.{none}
use Prim.Native.Nat.{◌<◌}
use lib.ListN.{drop}
use Rattle.std.specs.Prelude.{IfSome}
use Rattle.model.specs.Slots.{entries_in}
use Rattle.model.specs.Retention.{least_from}
use Rattle.tier.proofs.Victims.{best}
use Rattle.tier.proofs.victim.Given as goal

abbrev pub invariant-loop-i : goal.invariant-loop-i
invariant-loop-i l = record {
  within : IfSome l.least (λ at. at < l.rows);
  same : least_from l.guarded (best (entries_in l.rows l.slots) l.least) l.i (drop l.i (entries_in l.rows l.slots))
      ≡ least_from l.guarded none 0 (entries_in l.rows l.slots);
}
