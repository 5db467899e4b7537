-- `contents::by_rows::Search::finds_groups`. The loop: the atoms of every group but those left were met. Assumes nothing.
use Rattle.std.proofs.Common.{◌≡◌, ◌-◌}
use Rattle.std.specs.Slice.Iter.{chunks_exact_rest, chunks_exact_size}
use Rattle.model.specs.Records.{group_length}
use Rattle.model.specs.Slots.{ungroup}
use Rattle.contents.specs.Lent.{has_atom, one_if}
use Rattle.contents.specs.Placed.{Grown}
use Rattle.contents.proofs.by_rows.Search.finds_groups.Given as goal

abbrev pub invariant-loop-group : goal.invariant-loop-group
invariant-loop-group l = record {
  size : chunks_exact_size l.group-iterator ≡ group_length;
  grown : Grown l.self.words.now l.initial.places l.places l.self.position
      (λ a. one_if (has_atom a (ungroup l.groups)) - one_if (has_atom a (ungroup (chunks_exact_rest l.group-iterator))));
}
