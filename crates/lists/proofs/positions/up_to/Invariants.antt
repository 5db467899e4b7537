-- The invariant of `up_to`: the positions below i stand in front. Assumes nothing.
use mathlib.Core.Path.{◌≡◌}
use lib.ListN.{take}
use Rattle.lists.specs.Lists.{up_to}
use Rattle.lists.proofs.positions.up_to.Given as goal

abbrev pub invariant-loop-i : goal.invariant-loop-i
invariant-loop-i l = take l.i l.x-items ≡ up_to l.i
