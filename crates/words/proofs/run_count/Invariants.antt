-- `words::run_count`. The loop: the runs counted, and those from the code before on, make one more than the whole. Assumes nothing.
use mathlib.Core.Path.{◌≡◌}
use Prim.Native.Nat.{◌+◌, ◌-◌, ◌≤◌}
use lib.ListN.{drop}
use Rattle.words.specs.Codes.{runs}
use Rattle.words.proofs.run_count.Given as goal

abbrev pub invariant-loop-i : goal.invariant-loop-i
invariant-loop-i l = (l.count ≤ l.i) × (l.count + runs l.shift (drop (l.i - 1) l.codes) ≡ 1 + runs l.shift l.codes)
