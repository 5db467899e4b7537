-- `row_deduce::loaded`: the masks of what does not hold yet. Assumes nothing.
use mathlib.Core.Path.{sym, subst}
use Prim.Native.Nat.{◌<◌, ◌^◌}
use native.Mathlib.Omega.{arith}
use lib.Bits.{bit_or}
use lib.ListN.{length}
use Rattle.words.specs.Region.{region}
use Rattle.row_deduce.specs.declared.Group.{Group}
use Rattle.row_deduce.proofs.Publishing.{loaded-is}
use Rattle.row_deduce.proofs.loaded.Goals.{After-group_at-k}
use Rattle.row_deduce.proofs.loaded.Goals as goal

-- the group that was read
module _ (c : After-group_at-k) where
  index-lt : c.group_at-k.result.index < length c.args.held.now
  index-lt =
      subst (λ (k : Group). k.index < length c.args.held.now) (sym c.group_at-k.ensures)
      (c.requires.fact_1.readable.index c.args.next c.requires.fact_2)

pub group_at-k-requires : goal.group_at-k-requires
group_at-k-requires c = (c.requires.fact_1.readable.whole, c.requires.fact_2)

pub offset_bounds-held-index : goal.offset_bounds-held-index
offset_bounds-held-index c = omega (arith, index-lt c)

pub bounds-held-index : goal.bounds-held-index
bounds-held-index c = index-lt (goal.at.bounds-held-index c).After-group_at-k

pub offset_bounds-cut-index : goal.offset_bounds-cut-index
offset_bounds-cut-index c = omega (arith, index-lt (goal.at.offset_bounds-cut-index c).After-group_at-k)

pub bounds-cut-index : goal.bounds-cut-index
bounds-cut-index c = omega (arith, index-lt (goal.at.bounds-cut-index c).After-group_at-k, c.requires.fact_1.readable.same)

pub returns : goal.returns
returns c =
    let a = c.args in
    let g = c.group_at-k.result in
    loaded-is (region a.held.now a.cut.now) a.slot.now a.side a.next g c.requires.fact_1.readable.packed
    c.group_at-k.ensures
    (subst (λ (x : Group). x.present < 2 ^ 64) (sym c.group_at-k.ensures) (c.type_inv.slot _).fits)
    (subst (λ (x : Group). x.absent < 2 ^ 64) (sym c.group_at-k.ensures) (c.type_inv.slot _).fits)
    (subst (λ (x : Group). 0 < bit_or x.absent x.present) (sym c.group_at-k.ensures)
    (c.requires.fact_1.some a.next c.requires.fact_2))
    (c.type_inv.held g.index).fits (c.type_inv.cut g.index).fits
    (c.requires.fact_1.apart g.index)
