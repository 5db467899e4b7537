-- `contents::by_rows::Search::find_codes`. The loop: the atoms of the codes so far were met, the last is one of them, and the postings
-- counted and those left are all. Assumes nothing.
use Rattle.std.proofs.Common.{◌≡◌, true, ◌+◌, ◌≤◌, take, drop}
use Rattle.std.specs.Prelude.{IfSome}
use Rattle.words.specs.Codes.{runs}
use Rattle.contents.specs.Lent.{has_atom, one_if}
use Rattle.contents.specs.Placed.{Grown}
use Rattle.contents.proofs.Places.{later}
use Rattle.contents.proofs.by_rows.Search.find_codes.Given as goal

abbrev pub invariant-loop-code : goal.invariant-loop-code
invariant-loop-code l = record {
  met : IfSome l.last (λ a. has_atom a (take l.code-index l.codes) ≡ true);
  few : l.count ≤ l.code-index;
  sum : l.count + later l.last (drop l.code-index l.codes) ≡ runs 1 l.codes;
  grown : Grown l.self.words.now l.initial.places l.places l.self.position (λ a. one_if (has_atom a (take l.code-index l.codes)));
}
