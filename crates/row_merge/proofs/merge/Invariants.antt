-- `merge` meets its contract: what is written with what is left is the union, and what is left, counted from there, is the whole count.
-- Assumes nothing.
use mathlib.Core.Path.{◌≡◌}
use mathlib.Core.List.{◌++◌}
use Prim.Native.Nat.{◌-◌, ◌≤◌}
use lib.ListN.{length, take}
use Rattle.model.specs.Union.{union}
use Rattle.slots.specs.Cursor.{list_of}
use Rattle.row_merge.specs.Merge.{left_of, PlacedBoth}
use Rattle.row_merge.proofs.Asking.{counting}
use Rattle.row_merge.proofs.merge.Given as goal

abbrev pub invariant-loop-k : goal.invariant-loop-k
invariant-loop-k l = record {
  placed : PlacedBoth l.sa l.b l.cursor l.i;
  within : l.n ≤ length l.fn.out;
  written : take l.n l.out ++ left_of l.a l.sa l.b l.cursor l.i ≡ union (list_of l.a l.sa) l.b;
  counted : counting (left_of l.a l.sa l.b l.cursor l.i) (length l.fn.out - l.n) l.purse.account l.purse.meter
      ≡ counting (union (list_of l.a l.sa) l.b) (length l.fn.out) l.fn.purse.account l.fn.purse.meter;
}

abbrev pub decreases-loop-k : goal.decreases-loop-k
decreases-loop-k l = length (left_of l.a l.sa l.b l.cursor l.i)
