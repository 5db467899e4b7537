-- `same_literals` meets its contract: what is left of the two sides, asked from there, is the whole question. Assumes nothing.
use mathlib.Core.Path.{◌≡◌}
use lib.ListN.{length}
use Rattle.slots.specs.Cursor.{rest, list_of, Placed}
use Rattle.row_merge.proofs.Asking.{alike}
use Rattle.row_merge.proofs.same_literals.Given as goal

abbrev pub invariant-loop-k : goal.invariant-loop-k
invariant-loop-k l = record {
  left : Placed l.sa l.x;
  right : Placed l.sb l.y;
  long : length (rest l.a l.sa l.x) ≡ length (rest l.b l.sb l.y);
  same : alike (rest l.a l.sa l.x) (rest l.b l.sb l.y) l.purse.account l.purse.meter
      ≡ alike (list_of l.a l.sa) (list_of l.b l.sb) l.fn.purse.account l.fn.purse.meter;
}

abbrev pub decreases-loop-k : goal.decreases-loop-k
decreases-loop-k l = length (rest l.a l.sa l.x)
