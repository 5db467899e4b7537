-- Deduce and Next output, by the ways that they end. Assumes nothing.
use mathlib.Core.Path.{◌≡◌, refl, sym, ap, ◌∙◌, subst}
use mathlib.Core.Bool.{Bool, true, false}
use mathlib.Core.List.{List, [], ◌∷◌}
use mathlib.Core.Option.{none, some}
use Prim.Native.Nat.{ℕ, ◌+◌, ◌-◌, ◌*◌, ◌≤◌, ◌<◌}
use native.Mathlib.Omega.{arith}
use lib.Dec.{T}
use lib.ListN.{length, take, drop}
use Rattle.words.specs.Region.{is_region, region}
use Rattle.meter.specs.declared.Meter.{Meter}
use Rattle.meter.specs.Tick.{Tick, Ticked, Stopped}
use Rattle.meter.specs.Meter.{made, ticks}
use Rattle.model.specs.declared.Header.{Header}
use Rattle.model.specs.declared.Deduction.{Deduction}
use Rattle.model.specs.declared.Deduction.TheVariants.{Nothing}
use Rattle.model.specs.declared.OutputCursor.{OutputCursor}
use Rattle.model.specs.declared.DeduceAnswer.TheVariants as deduce-answer
use Rattle.std.specs.Prelude.{Ok, Err}
use Rattle.model.specs.declared.Refusal.{Refusal}
use Rattle.model.specs.Answers.{number_of}
use Rattle.model.specs.declared.NextResult.{NextResult}
use Rattle.model.specs.Records.{Row, rows_of, row_at, slot_words, max_rows}
use Rattle.model.specs.Slots.{row_in}
use Rattle.model.specs.Deduction.{deduction, deduction_ticks, Published, next_output as publish_next}
use Rattle.model.specs.Refusals.{Lent, refusal, accepts, ledger_in}
use Rattle.model.specs.Operations.{DeduceEnd, deduce_end as end_of, deduce, next_answer, next_output, position_ok, region_ok, cursor_ok}
use Rattle.slots.specs.Layout.{Stored, slot_at, rows_in, Holds}
use Rattle.row_deduce.specs.Chunks.{Matched}
use Rattle.row_deduce.specs.Walks.{once}
use Rattle.row_deduce.specs.Publication.{Pointed}
use Rattle.row_deduce.proofs.Cursors.{pointed-ok}
use Rattle.contents.specs.Lent.{lent}
use Rattle.contents.specs.Accepted.{Accepted}
use Rattle.slots.proofs.Rows.{rows_at, slot-code}
use Rattle.operations.specs.Ends.{refused_by, deduced_by, deduce_end, output_end}

-- what is published, as the result of a call that began at m
abbrev pub published_by : Meter → Published → NextResult
published_by m x = record { answer = Ok (next_answer x.next); cursor = x.cursor; meter = x.meter; ticks = made m x.meter }

module _ (h : Header) (slots postings : List ℕ) (p : ℕ) where
  abbrev s : Lent
  s = lent h slots postings

  pub row_is : p < h.rows → row_at p (ledger_in s) ≡ row_in (slot_at slots p)
  unfolding row_at rows_of ledger_in rows_in
  row_is l = rows_at h.rows slots p (record { conditions = []; outputs = [] }) l

  -- the slot that the code lends
  module _ (a : Accepted h slots postings) (l : p < h.rows) where
    pub slot-fits : (p < max_rows) × (slot_words * p + slot_words ≤ length slots)
    slot-fits = let f = a.stands.held.over.few in let n = a.stands.held.over.long in (omega arith, omega arith)

    abbrev part : List ℕ
    part = take ((slot_words * p + slot_words) - slot_words * p) (drop (slot_words * p) slots)

    stored-part : Stored h.limits.atoms part
    stored-part = subst (Stored h.limits.atoms) (sym (slot-code slots p)) (a.stands.held.over.stored p l)

    pub holds : Holds part
    holds = record { atoms = h.limits.atoms; stored = stored-part }

    pub matched : (held cut : List ℕ) → is_region h.limits.atoms (region held cut) ≡ true → Matched part held cut
    matched held cut e = record { holds = record { atoms = h.limits.atoms; stored = stored-part }; region = subst T (sym e) tt }

    pub pointed : (k : OutputCursor) → cursor_ok (row_in part) k ≡ true → Pointed (row_in part) k
    pointed k e = pointed-ok h.limits.atoms (row_in part) stored-part.row stored-part.atoms k e

  module _ (held cut : List ℕ) (m : Meter) where
    -- ---- Deduce
    abbrev two : List (Bool × ℕ)
    two = (position_ok s p, 5) ∷ (region_ok s held cut, 6) ∷ []

    pub deduce-refused : (r : Refusal) → refusal (accepts s true two) ≡ some (number_of r) →
        deduce_end (refused_by r m) ≡ deduce s p held cut m
    unfolding deduce
    deduce-refused r e = rw (e, deduce)

    by-tick : (d : Deduction) (t : Tick) →
        deduce_end (deduced_by m (once d t))
        ≡ (elim t as (λ k. DeduceEnd) [
          | Stopped k ↦ end_of deduce-answer.Stopped Nothing m k
          | Ticked k ↦ end_of deduce-answer.Done d m k
        ])
    unfolding end_of
    by-tick d (Stopped k) = refl
    by-tick d (Ticked k) = refl

    pub deduce-done : refusal (accepts s true two) ≡ none → p < h.rows → (t : Row) → t ≡ row_in (slot_at slots p) →
        deduce_end (deduced_by m (once (deduction (region held cut) t) (ticks (deduction_ticks (region held cut) t) m)))
        ≡ deduce s p held cut m
    unfolding deduce
    deduce-done e l t q =
        ap (λ (t : Row). deduce_end (deduced_by m (once (deduction (region held cut) t) (ticks (deduction_ticks (region held cut) t) m))))
        (q ∙ sym (row_is l))
        ∙ by-tick (deduction (region held cut) (row_at p (ledger_in s)))
        (ticks (deduction_ticks (region held cut) (row_at p (ledger_in s))) m)
        ∙ sym (rw (e, deduce))

    -- ---- Next output
    module _ (k : OutputCursor) where
      abbrev three : List (Bool × ℕ)
      three = (position_ok s p, 5) ∷ (region_ok s held cut, 6) ∷ (cursor_ok (row_at p (ledger_in s)) k, 8) ∷ []

      pub cursor-no : p < h.rows → (t : Row) → t ≡ row_in (slot_at slots p) → cursor_ok t k ≡ false
          → refusal ((cursor_ok (row_at p (ledger_in s)) k, 8) ∷ []) ≡ some 8
      unfolding refusal
      cursor-no l t r e =
          let q : cursor_ok (row_at p (ledger_in s)) k ≡ false = ap (λ (t : Row). cursor_ok t k) (row_is l ∙ sym r) ∙ e in rw q

      pub cursor-yes : p < h.rows → (t : Row) → t ≡ row_in (slot_at slots p) → cursor_ok t k ≡ true
          → refusal ((cursor_ok (row_at p (ledger_in s)) k, 8) ∷ []) ≡ none
      unfolding refusal
      cursor-yes l t r e =
          let q : cursor_ok (row_at p (ledger_in s)) k ≡ true = ap (λ (t : Row). cursor_ok t k) (row_is l ∙ sym r) ∙ e in rw q

      pub next-refused : (r : Refusal) → refusal (accepts s true three) ≡ some (number_of r) →
          output_end (record { answer = Err r; cursor = k; meter = m; ticks = 0 }) ≡ next_output s p k held cut m
      unfolding next_output
      next-refused r e = rw (e, next_output)

      pub next-done : refusal (accepts s true three) ≡ none → p < h.rows → (t : Row) → t ≡ row_in (slot_at slots p) →
          output_end (published_by m (publish_next (region held cut) t k m)) ≡ next_output s p k held cut m
      unfolding next_output
      next-done e l t q =
          ap (λ (t : Row). output_end (published_by m (publish_next (region held cut) t k m))) (q ∙ sym (row_is l))
          ∙ sym (rw (e, next_output))
