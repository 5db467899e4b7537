-- `copy`: the words still to be written, written from position i on, make the whole. Assumes nothing.
use mathlib.Core.Path.{◌≡◌}
use lib.ListN.{length, drop}
use Rattle.lists.specs.Lists.{put}
use Rattle.lists.proofs.slices.copy.Given as goal

abbrev pub invariant-loop-i : goal.invariant-loop-i
invariant-loop-i l =
    (length l.dst ≡ length l.initial.dst) × (put l.i (drop l.i l.src) l.dst ≡ put 0 l.src l.initial.dst)
