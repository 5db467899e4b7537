-- `retain` by the ways that it ends. Assumes nothing.
use mathlib.Core.Path.{◌≡◌, refl, sym, ap, ◌∙◌}
use mathlib.Core.Bool.{Bool, true, false}
use mathlib.Core.List.{List}
use Rattle.std.specs.Prelude.{Option, Some, None, Result, Ok, Err}
use Prim.Native.Nat.{ℕ, ◌+◌, ◌≤◌}
use native.Mathlib.Omega.{arith}
use Rattle.meter.specs.declared.Purse.{Purse}
use Rattle.meter.specs.declared.Unpaid.{Unpaid}
use Rattle.meter.proofs.Payments.{unpaid-more}
use Rattle.meter.specs.Read.{Read}
use Rattle.meter.specs.Read as read
use Rattle.meter.specs.Meter.{and_then, pay}
use Rattle.meter.proofs.Laws.{pay-add, pay-none}
use Rattle.model.specs.declared.Header.{Header}
use Rattle.model.specs.declared.Source.{Source}
use Rattle.model.specs.Records.{Row, Entry, Ledger, is_row, max_outputs}
use Rattle.model.specs.Slots.{entries_in}
use Rattle.model.specs.Retention.{Pass, passed, Placement, subsumed, protected, placing, evicting, Subsumes, first_pass}
use Rattle.model.specs.Retention.{placement_after, placement, place_reads, retain_reads, carry_out, retained, retain}
use Rattle.model.specs.Refusals.{Lent, ledger_in}
use Rattle.contents.specs.Lent.{lent}
use Rattle.contents.specs.Accepted.{Accepted}
use Rattle.retain_compare.specs.Passes.{examined_by}
use Rattle.retain_compare.specs.Turns.{comparison, comparison_end, both_passes, compare_reads}
use Rattle.retain_compare.proofs.Outcomes.{compares-replaces, compares-subsumed, compares-unpaid}
use Rattle.retain.specs.declared.Kept.{Kept}
use Rattle.retain.specs.declared.Kept.TheVariants.{Subsumed}
use Rattle.retain.specs.Ends.{End, retain_end, end_of, carried, admit_end}
use Rattle.retain.proofs.Admitting.{as-untaken}
use Rattle.contents.proofs.Lending.{accepted-lent}
use Rattle.retain.proofs.Rising.{both-placement_after, both-row}

-- ---- the definition, the two passes apart
as-carried : (l : Ledger) (most hits : ℕ) (source : Source) (t : Row) (r : Read)
    → carried l t hits source (placement l.header.limits most t l.entries) r ≡ retained l most hits source t r
unfolding retained
as-carried l most hits source t (read.Paid a m) = refl
as-carried l most hits source t (read.Declined a m) = refl
as-carried l most hits source t (read.Stopped a m) = refl

-- the row that was offered shows only in what is taken
other_row : (l : Ledger) (t u : Row) (hits : ℕ) (source : Source) (v : Placement) (r : Read)
    → end_of (carried l t hits source v r) ≡ end_of (carried l u hits source v r)
unfolding carry_out
other_row l t u hits source v (read.Declined a m) = refl
other_row l t u hits source v (read.Stopped a m) = refl
other_row l t u hits source (subsumed p) (read.Paid a m) = refl
other_row l t u hits source protected (read.Paid a m) = refl
other_row l t u hits source (placing ks p) (read.Paid a m) = refl
other_row l t u hits source (evicting v p) (read.Paid a m) = refl

module _ (h : Header) (slots postings : List ℕ) (acc : Accepted h slots postings) (p : Row) (most hits : ℕ)
    (source : Source) (w : Purse) where
  abbrev s : Lent
  s = lent h slots postings

  abbrev es : List Entry
  es = entries_in h.rows slots

  abbrev x : Pass
  x = first_pass most p es

  abbrev v : Placement
  v = placement h.limits most p es

  -- the whole, by how the reads of the comparison went
  abbrev ended : Read → End
  ended r = end_of (carried (ledger_in s) p hits source v (and_then r (pay (place_reads es v))))

  abbrev whole : End
  whole = end_of (retain (ledger_in s) most hits source p (read.Paid w.account w.meter))

  abbrev n : ℕ
  n = compare_reads most p es

  all : end_of (carried (ledger_in s) p hits source v (pay (n + place_reads es v) w.account w.meter)) ≡ whole
  unfolding retain retain_reads compare_reads ledger_in
  all = ap end_of (as-carried (ledger_in s) most hits source p (pay (n + place_reads es v) w.account w.meter))

  by_read : {r : Read} → r ≡ pay n w.account w.meter → ended r ≡ whole
  by_read q =
      ap ended q
      ∙ ap (λ (r : Read). end_of (carried (ledger_in s) p hits source v r)) (sym (pay-add n (place_reads es v) w.account w.meter)) ∙ all

  -- how the comparison ends, v beside the purse b after it
  abbrev Compares : Result (Option ℕ) Unpaid → Purse → Type 0
  Compares v b = comparison_end v b ≡ comparison x (pay n w.account w.meter)

  pub retain-unpaid : (r : Result Kept Unpaid) (b : Purse) {u : Unpaid} → r ≡ Err u → Compares (Err u) b
      → retain_end r h slots postings b ≡ whole
  retain-unpaid r b {u} d q =
      let more : n ≤ n + place_reads es v = omega arith in
      rw d (as-untaken h slots postings acc (λ j. false) p hits source w v u b
      ∙ ap (λ (y : Read). end_of (carried (ledger_in s) p hits source v y))
      (unpaid-more n (n + place_reads es v) w.account w.meter u b more (compares-unpaid x (pay n w.account w.meter) u b q)) ∙ all)

  -- a row subsumes it
  pub retain-subsumed : {found : Option ℕ} (b : Purse) → Compares (Ok found) b → {at : ℕ} → found ≡ Some at
      → retain_end (Ok (Subsumed at)) h slots postings b ≡ whole
  unfolding carry_out place_reads placement placement_after
  retain-subsumed {found} b q {at} y =
      let k = compares-subsumed x (pay n w.account w.meter) (ap (λ (o : Option ℕ). comparison_end (Ok o) b) (sym y) ∙ q) refl in
      let f : v ≡ subsumed at = ap (placement_after h.limits es) k.0 in
      ap {B = End} (λ (z : Lent). record { outcome = Subsumes at; ledger = z; account = b.account; meter = b.meter })
      (accepted-lent h slots postings acc)
      ∙ ap (λ (r : Read). end_of (carried (ledger_in s) p hits source (subsumed at) r)) (sym (pay-none b.account b.meter))
      ∙ ap (λ (u : Placement). end_of (carried (ledger_in s) p hits source u (pay (place_reads es u) b.account b.meter))) (sym f)
      ∙ by_read (sym k.1)

  -- none does
  pub retain-row : (f : ℕ → Bool) (q : Row) → both_passes x ≡ passed (examined_by f 0 es) q
      → most ≤ max_outputs → is_row h.limits.atoms p ≡ true → is_row h.limits.atoms q ≡ true
  retain-row f q b l r = both-row h most p es l r acc.entries b

  pub retain-admits : {found : Option ℕ} (b : Purse) → Compares (Ok found) b → found ≡ None
      → (f : ℕ → Bool) (q : Row) → both_passes x ≡ passed (examined_by f 0 es) q
      → {z : End} → z ≡ admit_end s f q hits source b.account b.meter → z ≡ whole
  unfolding placement ledger_in
  retain-admits {found} b c y f q d g =
      let k = compares-replaces x (pay n w.account w.meter) (ap (λ (o : Option ℕ). comparison_end (Ok o) b) (sym y) ∙ c) refl in
      g
      ∙ ap (λ (u : Placement). end_of (carried (ledger_in s) q hits source u (pay (place_reads es u) b.account b.meter)))
      (both-placement_after h.limits es x d)
      ∙ other_row (ledger_in s) q p hits source v (pay (place_reads es v) b.account b.meter)
      ∙ by_read (sym k)
