-- `slots_check::group_codes`. The loop: the groups that are left are in order from `least` on exactly if all are, and what is counted, and
-- what they hold, make the whole. Assumes nothing.
use Rattle.std.proofs.Common.{◌≡◌, ◌+◌, ◌*◌, ◌%◌, ◌≤◌, length}
use Rattle.std.specs.Slice.Iter.{chunks_exact_rest, chunks_exact_size}
use Rattle.model.specs.Records.{group_length}
use Rattle.slots_check.specs.Check.{groups_ok, code_count}
use Rattle.slots_check.proofs.group_codes.Given as goal

abbrev pub invariant-loop-group : goal.invariant-loop-group
invariant-loop-group l = record {
  size : chunks_exact_size l.group-iterator ≡ group_length;
  whole : length (chunks_exact_rest l.group-iterator) % group_length ≡ 0;
  order : groups_ok l.apart l.atoms l.least (chunks_exact_rest l.group-iterator) ≡ groups_ok l.apart l.atoms 0 l.words;
  few : l.count + 64 * length (chunks_exact_rest l.group-iterator) ≤ 64 * length l.words;
  sum : l.count + code_count (chunks_exact_rest l.group-iterator) ≡ code_count l.words;
}
