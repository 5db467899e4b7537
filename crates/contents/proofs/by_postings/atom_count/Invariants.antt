-- `contents::by_postings::atom_count`. The loop: what is counted, and what the groups left hold, make the whole. Assumes nothing.
use Rattle.std.proofs.Common.{◌≡◌, ◌+◌, ◌*◌, ◌≤◌, length}
use Rattle.std.specs.Slice.Iter.{chunks_exact_rest, chunks_exact_size}
use Rattle.model.specs.Records.{group_length}
use Rattle.contents.specs.Lent.{atom_count}
use Rattle.contents.proofs.by_postings.atom_count.Given as goal

abbrev pub invariant-loop-group : goal.invariant-loop-group
invariant-loop-group l = record {
  size : chunks_exact_size l.group-iterator ≡ group_length;
  few : l.count + 64 * length (chunks_exact_rest l.group-iterator) ≤ 64 * length l.words;
  sum : l.count + atom_count (chunks_exact_rest l.group-iterator) ≡ atom_count l.words;
}
