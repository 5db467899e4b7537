-- `contents::by_postings::groups_have`. The loop: a mark so far, or the atom in the groups left, exactly if it is in all. Assumes nothing.
use Rattle.std.proofs.Common.{◌≡◌, ◌||◌, not}
use Rattle.std.proofs.Math.Dec.{eqb}
use Rattle.std.specs.Slice.Iter.{chunks_exact_rest, chunks_exact_size}
use Rattle.model.specs.Records.{group_length}
use Rattle.model.specs.Slots.{ungroup}
use Rattle.contents.specs.Lent.{has_atom}
use Rattle.contents.proofs.by_postings.groups_have.Given as goal

abbrev pub invariant-loop-group : goal.invariant-loop-group
invariant-loop-group l = record {
  size : chunks_exact_size l.group-iterator ≡ group_length;
  met : (not (eqb l.bits 0) || has_atom l.atom (ungroup (chunks_exact_rest l.group-iterator))) ≡ has_atom l.atom (ungroup l.words);
}
