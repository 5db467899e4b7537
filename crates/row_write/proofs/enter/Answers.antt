-- `enter` meets its contract. Assumes nothing.
use native.Mathlib.Omega.{arith}
use Prim.Native.Nat.{◌+◌, ◌≤◌}
use lib.ListN.{length-set}
use Rattle.row_write.proofs.Packing.{mask-inside, entered-code}
use Rattle.row_write.proofs.enter.Goals.{After-mask_at-k}
use Rattle.row_write.proofs.enter.Goals as goal

-- the bits of the code's sign stand in the group
inside : (c : After-mask_at-k) → c.mask_at-k.result ≤ c.args.at + 2
inside c =
    let a = c.args in omega (arith, c.mask_at-k.ensures, mask-inside a.at a.code)

pub offset_bounds-out-k : goal.offset_bounds-out-k
offset_bounds-out-k c = omega (arith, inside c)

pub bounds-out-k : goal.bounds-out-k
bounds-out-k c = let i = inside (goal.at.bounds-out-k c).After-mask_at-k in simp length-set (omega arith)

pub offset_bounds-out-k-2 : goal.offset_bounds-out-k-2
offset_bounds-out-k-2 c = omega (arith, inside (goal.at.offset_bounds-out-k-2 c).After-mask_at-k)

pub bounds-out-k-2 : goal.bounds-out-k-2
bounds-out-k-2 c = let i = inside (goal.at.bounds-out-k-2 c).After-mask_at-k in simp length-set (omega arith)

pub returns : goal.returns
returns c =
    let a = c.args in
    entered-code a.out.now a.at a.code c.mask_at-k.result c.locate-place.result c.locate-place.ensures
    c.mask_at-k.ensures
