-- `row_deduce::cursor_ok`: by the form of the row and the place of the cursor. Assumes nothing.
use borrow.Author.Tests.{not-true, not-false}
use mathlib.Core.Path.{◌≡◌, sym, ap, ◌∙◌, subst}
use Prim.Native.Nat.{◌+◌, ◌-◌, ◌*◌, ◌≤◌}
use native.Mathlib.Omega.{arith}
use lib.ListN.{length}
use Rattle.model.specs.Records.{group_length}
use Rattle.slots.specs.declared.Side.{Side}
use Rattle.slots.specs.Layout.{output_side, Laid}
use Rattle.slots.proofs.Storing.{laid-stored}
use Rattle.row_deduce.specs.Chunks.{group_at}
use Rattle.row_deduce.specs.Publication.{of_words}
use Rattle.row_deduce.proofs.Cursors.{cursor-past, cursor-scalar, cursor-start, cursor-loaded}
use Rattle.row_deduce.proofs.cursor_ok.Goals.{After-outputs-side, Start, then-not-side-via-then-not-side}
use Rattle.row_deduce.proofs.cursor_ok.Goals.{then-not-side-via-else-not-side+then-next-eq0}
use Rattle.row_deduce.proofs.cursor_ok.Goals as goal

laid : (c : Start) → Laid c.args.slot.now
laid c = laid-stored c.requires.atoms c.args.slot.now c.requires.stored

-- the side that was read
module _ (c : After-outputs-side) where
  form : (output_side c.args.slot.now).packed ≡ c.outputs-side.result.packed
  form = ap (λ (x : Side). x.packed) (sym c.outputs-side.ensures)

  count : (output_side c.args.slot.now).count ≡ c.outputs-side.result.count
  count = ap (λ (x : Side). x.count) (sym c.outputs-side.ensures)

pub outputs-side-requires : goal.outputs-side-requires
outputs-side-requires c =
    let at_start = (goal.at.outputs-side-requires c).Start in record {
      fact_1 = let l = (laid at_start).long in omega arith;
      fact_2 = (laid at_start).counted;
    }

pub returns-then-side-next : goal.returns-then-side-next
returns-then-side-next c =
    cursor-past c.requires.atoms c.args.slot.now c.requires.stored c.args.cursor
    (let e = count (goal.at.returns-then-side-next c).After-outputs-side in let h = c.if-side-next.true in omega arith)

pub returns-then-not-side : goal.returns-then-not-side
returns-then-not-side c =
    let at_after_outputs_side = (goal.at.returns-then-not-side c).After-outputs-side in
    c.is_unloaded.ensures
    ∙ elim c.then-not-side.branch [
      | then-not-side-via-then-not-side w ↦ cursor-scalar c.requires.atoms c.args.slot.now c.requires.stored c.args.cursor
          (form at_after_outputs_side ∙ not-true c.outputs-side.result.packed w.if-not-side.true)
          (let e = count at_after_outputs_side in let h = c.if-side-next.false in omega arith)
      | then-not-side-via-else-not-side+then-next-eq0 w ↦ cursor-start c.requires.atoms c.args.slot.now c.requires.stored c.args.cursor
          w.if-next-eq0.true
    ]

pub overflow_sub-next : goal.overflow_sub-next
overflow_sub-next c = omega (arith, c.if-next-eq0.false)

pub group_at-requires : goal.group_at-requires
group_at-requires c =
    let p = form (goal.at.group_at-requires c).After-outputs-side ∙ not-false c.outputs-side.result.packed c.if-not-side.false in (
      subst (λ (x : Side). x.base + group_length * x.count ≤ length c.args.slot.now) (sym c.outputs-side.ensures)
          ((laid (goal.at.group_at-requires c).Start).second.whole p),
      (let f = c.if-next-eq0.false in let h = c.if-side-next.false in omega arith),
    )

pub returns : goal.returns
returns c =
    let at_after_outputs_side = (goal.at.returns c).After-outputs-side in
    let p = form at_after_outputs_side ∙ not-false c.outputs-side.result.packed c.if-not-side.false in
    c.is_of_group.ensures
    ∙ ap (of_words c.args.cursor) c.group_at.ensures
    ∙ ap (λ (x : Side). of_words c.args.cursor
    (group_at c.args.slot.now x (c.args.cursor.next - 1)))
    c.outputs-side.ensures
    ∙ cursor-loaded c.requires.atoms c.args.slot.now c.requires.stored c.args.cursor p
    c.if-next-eq0.false
    (let e = count at_after_outputs_side in let h = c.if-side-next.false in omega arith)
