-- `includes` meets its contract: at both loops, what is left of the two sides, asked from there, is the whole question. Assumes nothing.
use mathlib.Core.Path.{◌≡◌}
use mathlib.Core.List.{◌∷◌}
use lib.ListN.{length}
use Rattle.slots.specs.Cursor.{rest, list_of, Placed}
use Rattle.row_subsume.proofs.Including.{included}
use Rattle.row_subsume.proofs.includes.Given as goal

abbrev pub invariant-wanted : goal.invariant-wanted
invariant-wanted l = record {
  have : Placed l.candidates l.have;
  want : Placed l.wanted l.want;
  same : included (rest l.a l.candidates l.have) (rest l.b l.wanted l.want) l.purse.account l.purse.meter
      ≡ included (list_of l.a l.candidates) (list_of l.b l.wanted) l.fn.purse.account l.fn.purse.meter;
}

abbrev pub decreases-wanted : goal.decreases-wanted
decreases-wanted l = length (rest l.b l.wanted l.want)

abbrev pub invariant-loop-c : goal.invariant-loop-c
invariant-loop-c l = record {
  have : Placed l.candidates l.have;
  same : included (rest l.a l.candidates l.have) (l.w ∷ rest l.b l.wanted l.want) l.purse.account l.purse.meter
      ≡ included (list_of l.a l.candidates) (list_of l.b l.wanted) l.fn.purse.account l.fn.purse.meter;
}

abbrev pub decreases-loop-c : goal.decreases-loop-c
decreases-loop-c l = length (rest l.a l.candidates l.have)
