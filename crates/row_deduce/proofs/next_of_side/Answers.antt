-- `row_deduce::next_of_side`: by the form of the row. Assumes nothing.
use mathlib.Core.Path.{◌≡◌, sym, ap, ◌∙◌, subst}
use mathlib.Core.Bool.{true}
use Prim.Native.Nat.{◌+◌, ◌-◌, ◌≤◌}
use native.Mathlib.Omega.{arith}
use lib.ListN.{length}
use Rattle.words.specs.Region.{region}
use Rattle.model.specs.Rows.{packed}
use Rattle.model.specs.Slots.{row_in}
use Rattle.model.specs.Deduction.{packed_next}
use Rattle.slots.specs.declared.Side.{Side}
use Rattle.slots.specs.Layout.{output_side, Laid}
use Rattle.slots.proofs.Storing.{laid-stored, form-stored, grouped-stored}
use Rattle.row_deduce.specs.Chunks.{chunks_from, Publishable, SmallCodes}
use Rattle.row_deduce.specs.Publication.{single_next}
use Rattle.row_deduce.proofs.Cursors.{outputs-publishable, output-small, next-packed, next-scalar}
use Rattle.row_deduce.proofs.next_of_side.Goals.{Start}
use Rattle.row_deduce.proofs.next_of_side.Goals as goal

module _ (c : Start) where
  laid : Laid c.args.slot.now
  laid = laid-stored c.requires.fact_1.holds.atoms c.args.slot.now c.requires.fact_1.holds.stored

  form : (output_side c.args.slot.now).packed ≡ c.args.side.packed
  form = ap (λ (x : Side). x.packed) (sym c.requires.fact_3)

  packs : (output_side c.args.slot.now).packed ≡ true → packed (row_in c.args.slot.now) ≡ true
  packs p = sym (form-stored c.requires.fact_1.holds.atoms c.args.slot.now c.requires.fact_1.holds.stored).1 ∙ p

  within : (output_side c.args.slot.now).packed ≡ true → c.args.cursor.now.next ≤ (output_side c.args.slot.now).count
  within p =
      let h = c.requires.fact_2.next (packs p) in
      let e = (grouped-stored c.requires.fact_1.holds.atoms c.args.slot.now c.requires.fact_1.holds.stored (packs p)).1.count in
      omega arith

pub packed_next-requires : goal.packed_next-requires
packed_next-requires c =
    let at_start = (goal.at.packed_next-requires c).Start in
    let a = c.args in
    let p = form at_start ∙ c.if-side.true in record {
      fact_1 = subst (λ (x : Side). Publishable a.slot.now x a.held.now a.cut.now) (sym c.requires.fact_3)
          (outputs-publishable a.slot.now a.held.now a.cut.now c.requires.fact_1 p);
      fact_2 = subst (λ (x : Side). a.cursor.now.next ≤ x.count) (sym c.requires.fact_3) (within at_start p);
      fact_3 = c.requires.fact_2.word (packs at_start p);
    }

pub scalar_next-requires : goal.scalar_next-requires
scalar_next-requires c =
    let at_start = (goal.at.scalar_next-requires c).Start in
    let a = c.args in
    let p = form at_start ∙ c.if-side.false in record {
      fact_1 = c.if-side.false;
      fact_2 = subst (λ (x : Side). x.base + x.count ≤ length a.slot.now) (sym c.requires.fact_3) ((laid at_start).second.single p);
      fact_3 = subst (SmallCodes a.slot.now) (sym c.requires.fact_3)
          (output-small c.requires.fact_1.holds.atoms a.slot.now c.requires.fact_1.holds.stored p);
    }

pub returns-then-side : goal.returns-then-side
returns-then-side c =
    let at_start = (goal.at.returns-then-side c).Start in
    let a = c.args in
    let p = form at_start ∙ c.if-side.true in
    let r = region a.held.now a.cut.now in
    c.packed_next.ensures
    ∙ ap (λ (x : Side). packed_next r (chunks_from a.slot.now x (x.count - a.cursor.now.next) a.cursor.now.next) a.cursor.now
    a.meter.now) c.requires.fact_3
    ∙ next-packed c.requires.fact_1.holds.atoms a.slot.now c.requires.fact_1.holds.stored r a.cursor.now a.meter.now p
    (within at_start p)

pub returns-else-side : goal.returns-else-side
returns-else-side c =
    let a = c.args in
    c.scalar_next.ensures
    ∙ ap (λ (x : Side). single_next a.slot.now x a.cursor.now a.meter.now) c.requires.fact_3
    ∙ next-scalar c.requires.fact_1.holds.atoms a.slot.now c.requires.fact_1.holds.stored (region a.held.now a.cut.now)
    a.cursor.now a.meter.now (form (goal.at.returns-else-side c).Start ∙ c.if-side.false)
