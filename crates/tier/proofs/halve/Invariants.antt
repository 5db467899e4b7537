use mathlib.Core.Path.{◌≡◌}
use Rattle.model.specs.Slots.{slots_of, entries_in}
use Rattle.slots.specs.Layout.{tier_of}
use Rattle.tier.proofs.Halving.{halved_to}
use Rattle.tier.proofs.halve.Given as goal

abbrev pub invariant-loop-i : goal.invariant-loop-i
invariant-loop-i l = l.slots ≡ slots_of (tier_of l.initial.slots) (halved_to l.i (entries_in l.rows l.initial.slots))
