-- `operations::next_output`. One law for each way out. Assumes nothing.
use mathlib.Core.Path.{sym, ap, ap₂, ◌∙◌}
use mathlib.Core.Bool.{true}
use mathlib.Core.List.{[], ◌∷◌}
use Prim.Native.Nat.{ℕ}
use Rattle.std.specs.Prelude.{Ok}
use Rattle.model.specs.declared.NextAnswer.{NextAnswer}
use Rattle.model.specs.Deduction.{Published, published}
use Rattle.model.specs.Slots.{row_in}
use Rattle.model.specs.declared.Refusal.TheVariants as refuse
use Rattle.model.specs.Refusals.{ledger_in}
use Rattle.model.specs.Records.{row_at}
use Rattle.slots.proofs.Rows.{slot-code}
use Rattle.contents.specs.Lent.{lent}
use Rattle.contents.proofs.Accepting.{accepted, accept-refused, accept-passed}
use Rattle.operations.specs.Ends.{output_end}
use Rattle.operations.proofs.Tests.{position-no, position-yes, region-no, region-yes}
use Rattle.model.specs.Operations.{position_ok, region_ok, cursor_ok}
use Rattle.operations.proofs.Deducing.{slot-fits, holds, matched, pointed, cursor-no, cursor-yes, next-refused, next-done, published_by}
use borrow.Author.Rules.{rules}
use Rattle.operations.proofs.next_output.Goals as goal

pub returns-in-Err : goal.returns-in-Err
returns-in-Err c =
    let a = c.args in
    let s = lent a.header a.slots.now a.postings.now in
    ap output_end c.next_refused.ensures
    ∙ next-refused a.header a.slots.now a.postings.now a.position a.held.now a.cut.now a.work a.cursor _
    (accept-refused s true
    ((position_ok s a.position, 5) ∷ (region_ok s a.held.now a.cut.now, 6)
    ∷ (cursor_ok (row_at a.position (ledger_in s)) a.cursor, 8) ∷ []) _ c.in-Err.ensures)

pub returns-then-header-position : goal.returns-then-header-position
returns-then-header-position c =
    let a = c.args in
    let s = lent a.header a.slots.now a.postings.now in
    ap output_end c.next_refused-then-header-position.ensures
    ∙ next-refused a.header a.slots.now a.postings.now a.position a.held.now a.cut.now a.work a.cursor refuse.Position
    (accept-passed s true
    ((position_ok s a.position, 5) ∷ (region_ok s a.held.now a.cut.now, 6)
    ∷ (cursor_ok (row_at a.position (ledger_in s)) a.cursor, 8) ∷ []) c.in_default.ensures
    ∙ position-no a.header a.slots.now a.postings.now a.position
    ((region_ok s a.held.now a.cut.now, 6) ∷ (cursor_ok (row_at a.position (ledger_in s)) a.cursor, 8) ∷ []) c.if-header-position.true)

pub returns-then-not-is_region : goal.returns-then-not-is_region
returns-then-not-is_region c =
    let a = c.args in
    let s = lent a.header a.slots.now a.postings.now in
    ap output_end c.next_refused-then-not-is_region.ensures
    ∙ next-refused a.header a.slots.now a.postings.now a.position a.held.now a.cut.now a.work a.cursor refuse.Region
    (accept-passed s true
    ((position_ok s a.position, 5) ∷ (region_ok s a.held.now a.cut.now, 6)
    ∷ (cursor_ok (row_at a.position (ledger_in s)) a.cursor, 8) ∷ []) c.in_default.ensures
    ∙ position-yes a.header a.slots.now a.postings.now a.position
    ((region_ok s a.held.now a.cut.now, 6) ∷ (cursor_ok (row_at a.position (ledger_in s)) a.cursor, 8) ∷ [])
    c.if-header-position.false
    ∙ region-no a.header a.slots.now a.postings.now a.held.now a.cut.now
    ((cursor_ok (row_at a.position (ledger_in s)) a.cursor, 8) ∷ []) (sym c.is_region.ensures ∙ c.if-not-is_region.true))

pub overflow_mul-a : goal.overflow_mul-a
overflow_mul-a c =
    let a = c.args in
    let s = lent a.header a.slots.now a.postings.now in
    let k = accepted a.header a.slots.now a.postings.now true []
    (sym c.in_default.ensures) in
    let f = slot-fits a.header a.slots.now a.postings.now a.position k c.if-header-position.false in
    search rules

pub overflow_add-e : goal.overflow_add-e
overflow_add-e c =
    let a = c.args in
    let s = lent a.header a.slots.now a.postings.now in
    let k = accepted a.header a.slots.now a.postings.now true []
    (sym c.in_default.ensures) in
    let f = slot-fits a.header a.slots.now a.postings.now a.position k c.if-header-position.false in
    search rules

pub offset_bounds-slots-a : goal.offset_bounds-slots-a
offset_bounds-slots-a c =
    let a = c.args in
    let s = lent a.header a.slots.now a.postings.now in
    let k = accepted a.header a.slots.now a.postings.now true []
    (sym c.in_default.ensures) in
    let f = slot-fits a.header a.slots.now a.postings.now a.position k c.if-header-position.false in
    search rules

pub slice_bounds-cursor_ok-end : goal.slice_bounds-cursor_ok-end
slice_bounds-cursor_ok-end c =
    let a = c.args in
    let s = lent a.header a.slots.now a.postings.now in
    let k = accepted a.header a.slots.now a.postings.now true []
    (sym c.in_default.ensures) in
    let f = slot-fits a.header a.slots.now a.postings.now a.position k c.if-header-position.false in
    search rules

pub cursor_ok-requires : goal.cursor_ok-requires
cursor_ok-requires c =
    let a = c.args in
    let s = lent a.header a.slots.now a.postings.now in
    let k = accepted a.header a.slots.now a.postings.now true []
    (sym c.in_default.ensures) in
    holds a.header a.slots.now a.postings.now a.position k c.if-header-position.false

pub returns-then-not-cursor_ok : goal.returns-then-not-cursor_ok
returns-then-not-cursor_ok c =
    let a = c.args in
    let s = lent a.header a.slots.now a.postings.now in
    ap output_end c.next_refused-then-not-cursor_ok.ensures
    ∙ next-refused a.header a.slots.now a.postings.now a.position a.held.now a.cut.now a.work a.cursor refuse.Cursor
    (accept-passed s true
    ((position_ok s a.position, 5) ∷ (region_ok s a.held.now a.cut.now, 6)
    ∷ (cursor_ok (row_at a.position (ledger_in s)) a.cursor, 8) ∷ []) c.in_default.ensures
    ∙ position-yes a.header a.slots.now a.postings.now a.position
    ((region_ok s a.held.now a.cut.now, 6) ∷ (cursor_ok (row_at a.position (ledger_in s)) a.cursor, 8) ∷ [])
    c.if-header-position.false
    ∙ region-yes a.header a.slots.now a.postings.now a.held.now a.cut.now
    ((cursor_ok (row_at a.position (ledger_in s)) a.cursor, 8) ∷ [])
    (sym c.is_region.ensures ∙ c.if-not-is_region.false)
    ∙ cursor-no a.header a.slots.now a.postings.now a.position a.held.now a.cut.now a.work a.cursor
    c.if-header-position.false _ (ap row_in (slot-code a.slots.now a.position))
    (sym c.cursor_ok.ensures ∙ c.if-not-cursor_ok.true))

pub offset_bounds-slots-a-2 : goal.offset_bounds-slots-a-2
offset_bounds-slots-a-2 c =
    let a = c.args in
    let s = lent a.header a.slots.now a.postings.now in
    let k = accepted a.header a.slots.now a.postings.now true []
    (sym c.in_default.ensures) in
    let f = slot-fits a.header a.slots.now a.postings.now a.position k
    c.if-header-position.false in
    search rules

pub slice_bounds-next_publication_output-end : goal.slice_bounds-next_publication_output-end
slice_bounds-next_publication_output-end c =
    let a = c.args in
    let s = lent a.header a.slots.now a.postings.now in
    let k = accepted a.header a.slots.now a.postings.now true []
    (sym c.in_default.ensures) in
    let f = slot-fits a.header a.slots.now a.postings.now a.position k
    c.if-header-position.false in
    search rules

pub next_publication_output-found-requires : goal.next_publication_output-found-requires
next_publication_output-found-requires c =
    let a = c.args in
    let s = lent a.header a.slots.now a.postings.now in
    let k = accepted a.header a.slots.now a.postings.now true []
    (sym c.in_default.ensures) in record {
      fact_1 = matched a.header a.slots.now a.postings.now a.position k c.if-header-position.false
          a.held.now a.cut.now (sym c.is_region.ensures
          ∙ c.if-not-is_region.false);
      fact_2 = pointed a.header a.slots.now a.postings.now a.position k c.if-header-position.false
          a.cursor (sym c.cursor_ok.ensures ∙ c.if-not-cursor_ok.false);
    }

pub returns : goal.returns
unfolding published
returns c =
    let a = c.args in
    let s = lent a.header a.slots.now a.postings.now in
    let n = c.next_publication_output-found.new in
    ap₂ (λ (x : NextAnswer) (t : ℕ). output_end (record { answer = Ok x; cursor = n.cursor; meter = n.meter; ticks = t }))
    c.next_answer.ensures c.made.ensures
    ∙ ap (λ (x : Published). output_end (published_by a.work x)) c.next_publication_output-found.ensures
    ∙ next-done a.header a.slots.now a.postings.now a.position a.held.now a.cut.now a.work a.cursor
    (accept-passed s true
    ((position_ok s a.position, 5) ∷ (region_ok s a.held.now a.cut.now, 6)
    ∷ (cursor_ok (row_at a.position (ledger_in s)) a.cursor, 8) ∷ []) c.in_default.ensures
    ∙ position-yes a.header a.slots.now a.postings.now a.position
    ((region_ok s a.held.now a.cut.now, 6) ∷ (cursor_ok (row_at a.position (ledger_in s)) a.cursor, 8) ∷ [])
    c.if-header-position.false
    ∙ region-yes a.header a.slots.now a.postings.now a.held.now a.cut.now
    ((cursor_ok (row_at a.position (ledger_in s)) a.cursor, 8) ∷ [])
    (sym c.is_region.ensures
    ∙ c.if-not-is_region.false)
    ∙ cursor-yes a.header a.slots.now a.postings.now a.position a.held.now a.cut.now a.work a.cursor
    c.if-header-position.false _ (ap row_in (slot-code a.slots.now a.position))
    (sym c.cursor_ok.ensures ∙ c.if-not-cursor_ok.false))
    c.if-header-position.false _ (ap row_in (slot-code a.slots.now a.position))
