-- `contents::by_rows::zeros_from`. The loop: what is left ends at `n`, and from there on every word is 0. Assumes nothing.
use Rattle.std.proofs.Common.{◌≡◌, true, ◌≤◌, ◌++◌, length, take, drop}
use Rattle.std.specs.Slice.Exact.{rchunks_exact_rest, rchunks_exact_remainder, rchunks_exact_size}
use Rattle.slots_check.specs.Check.{all_zero}
use Rattle.contents.proofs.by_rows.zeros_from.Given as goal

abbrev pub invariant-loop-block : goal.invariant-loop-block
invariant-loop-block l = record {
  size : rchunks_exact_size l.block-iterator ≡ 64;
  inside : l.n ≤ length l.words;
  left : rchunks_exact_remainder l.block-iterator ++ rchunks_exact_rest l.block-iterator ≡ take l.n l.words;
  zeros : all_zero (drop l.n l.words) ≡ true;
}
