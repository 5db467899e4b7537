-- `contents::by_rows::used`. The loop: from `i` on every word is 0. Assumes nothing.
use Rattle.std.proofs.Common.{◌≡◌, true, drop}
use Rattle.slots_check.specs.Check.{all_zero}
use Rattle.contents.proofs.by_rows.used.Given as goal

abbrev pub invariant-loop-i : goal.invariant-loop-i
invariant-loop-i l = all_zero (drop l.i l.words) ≡ true
