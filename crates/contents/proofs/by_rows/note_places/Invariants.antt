-- `contents::by_rows::note_places`. The loop: the words from `i` on ascend, and none of them is below the least. Assumes nothing.
use Rattle.std.proofs.Common.{◌≤◌, drop}
use Rattle.lists.specs.Counts.{Each, Sorted}
use Rattle.contents.proofs.by_rows.note_places.Given as goal

abbrev pub invariant-loop-i : goal.invariant-loop-i
invariant-loop-i l = record { sorted : Sorted (drop l.i l.words); least : Each (λ v. l.least ≤ v) (drop l.i l.words) }
