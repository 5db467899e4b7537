-- `contents::by_rows::Search::finds_bits`. The loop: every bit but those left was met. Assumes nothing.
use mathlib.Core.Path.{◌≡◌}
use Prim.Native.Nat.{◌-◌, ◌<◌}
use lib.ListN.{length}
use Rattle.contents.specs.Lent.{one_if}
use Rattle.contents.specs.Placed.{Grown, has_bit}
use Rattle.contents.proofs.by_rows.Search.finds_bits.Given as goal

abbrev pub invariant-loop-left : goal.invariant-loop-left
invariant-loop-left l =
    (length l.places ≡ length l.initial.places) × (l.left < 18446744073709551616)
    × Grown l.self.words.now l.initial.places l.places l.self.position (λ a. one_if (has_bit l.x l.bits a) - one_if (has_bit l.x l.left a))

abbrev pub decreases-loop-left : goal.decreases-loop-left
decreases-loop-left l = l.left
