-- `contents::by_postings::codes_have`. The loop: a mark so far, or the atom among the codes left, exactly if it is among all.
-- Assumes nothing.
use Rattle.std.proofs.Common.{◌≡◌, ◌||◌, drop}
use Rattle.std.proofs.Math.Dec.{leb}
use Rattle.contents.specs.Lent.{has_atom, top}
use Rattle.contents.proofs.by_postings.codes_have.Given as goal

abbrev pub invariant-loop-code : goal.invariant-loop-code
invariant-loop-code l = (leb top l.bits || has_atom l.atom (drop l.code-index l.codes)) ≡ has_atom l.atom l.codes
