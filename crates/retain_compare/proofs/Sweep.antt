-- 01, module 5: 'then a second pass for dominated rows'. What its loop keeps from one position to the next. Assumes nothing.
use mathlib.Core.Path.{◌≡◌, refl, sym, ap, ◌∙◌, subst}
use mathlib.Core.Bool.{Bool, true, ◌||◌}
use mathlib.Core.List.{List}
use mathlib.Core.Logic.{◌⊎◌, inl, inr}
use Prim.Native.Nat.{ℕ, suc, ◌+◌, ◌/◌, ◌≤◌, ◌<◌}
use native.Mathlib.Nat.{zero-add}
use native.Mathlib.Numerals.{add-one}
use native.Mathlib.Omega.{arith}
use lib.ListN.{length, get_or, drop, drop_of_length-le}
use lib.Seq.{drop-cons}
use Rattle.lists.proofs.Counts.{same_or}
use Rattle.words.specs.Region.{has}
use Rattle.meter.specs.declared.Meter.{Meter}
use Rattle.meter.specs.declared.Account.{Account}
use Rattle.meter.specs.declared.Purse.{Purse}
use Rattle.meter.specs.declared.Unpaid.{Unpaid}
use Rattle.meter.specs.Judged.{Judged}
use Rattle.meter.specs.Verdict.{Verdict}
use Rattle.meter.specs.Verdict as verdict
use Rattle.meter.specs.Read as read
use Rattle.meter.specs.Meter.{pay, judged}
use Rattle.meter.specs.Results.{unpaid_end}
use Rattle.meter.proofs.Laws.{pay-none}
use Rattle.meter.proofs.Payments.{unpaid-more, paid-more, on_yes, ask-both}
use Rattle.model.specs.Records.{Row, Entry}
use Rattle.model.specs.Rows.{subsumes}
use Rattle.model.specs.Retention.{second_pass, second_reads}
use Rattle.slots.proofs.Holding.{no-entry}
use Rattle.retain_compare.specs.Passes.{examined_by}
use Rattle.retain_compare.specs.Turns.{sweep_reads, swept_marks}
use Rattle.retain_compare.proofs.Marking.{swept-length, swept-here, swept-other}
use Rattle.retain_compare.proofs.Passing.{second-step, second-marks}

-- an answer that is not Yes is the whole
alone : (v : Verdict) (i j : Judged) → (v ≡ verdict.Yes → ⊥) → i ≡ on_yes v i j
alone verdict.Yes i j t = absurd (t refl)
alone verdict.No i j t = refl
alone verdict.Declined i j t = refl
alone verdict.Stopped i j t = refl

-- no entry is left from the end on
none_left : (f : ℕ → Bool) (p : Row) (i : ℕ) (es : List Entry) → length es ≤ i → second_reads p (examined_by f i (drop i es)) ≡ 0
unfolding second_reads examined_by
none_left f p i es h = ap (λ (l : List Entry). second_reads p (examined_by f i l)) (drop_of_length-le es h)

module _ (p : Row) (es : List Entry) (old : List ℕ) (a₀ : Account) (m₀ : Meter) where
  -- the reads of the pass from position i on
  abbrev left : ℕ → ℕ
  left i = second_reads p (examined_by (has old) i (drop i es))

  -- position i is reached
  pub record Sweep (marks : List ℕ) (a : Account) (m : Meter) (i : ℕ) : Type 0 where
    pub far : i ≤ length es
    pub same : length marks ≡ length old
    pub passed : (j : ℕ) → j < i → has marks j ≡ (has old j || subsumes p (get_or es j no-entry).row)
    pub ahead : (j : ℕ) → i ≤ j → has marks j ≡ has old j
    pub reads : pay (left i) a m ≡ pay (second_reads p (examined_by (has old) 0 es)) a₀ m₀

  pub sweep-start : Sweep old a₀ m₀ 0
  sweep-start = record { far = omega arith; same = refl; passed = λ j h. absurd (omega arith); ahead = λ j h. refl; reads = refl }

  module _ (marks : List ℕ) (a : Account) (m : Meter) (i : ℕ) (s : Sweep marks a m i) (l : i < length es) where
    abbrev row : Row
    row = (get_or es i no-entry).row

    -- the reads of this position, then those of the later ones
    split : pay (left i) a m ≡ pay (sweep_reads (has marks i) p row + left (suc i)) a m
    split =
        ap (λ (n : ℕ). pay n a m)
        (ap (λ (q : List Entry). second_reads p (examined_by (has old) i q)) (drop-cons es i no-entry l)
        ∙ second-step (has old) p i (get_or es i no-entry) (drop (suc i) es)
        ∙ ap (λ (b : Bool). sweep_reads b p row + left (suc i)) (sym (s.ahead i (omega arith))))

    pub sweep-turn : (after : List ℕ) {b : Account} {k : Meter} → i / 64 < length marks
        → read.Paid b k ≡ pay (sweep_reads (has marks i) p row) a m → after ≡ swept_marks (has marks i) marks i p row
        → Sweep after b k (i + 1)
    sweep-turn after {b} {k} w paid e =
        record {
          far = omega arith;
          same = ap length e ∙ swept-length (has marks i) marks i p row ∙ s.same;
          passed = λ j b. subst (λ (x : List ℕ). has x j ≡ (has old j || subsumes p (get_or es j no-entry).row)) (sym e)
              (before j b (same_or j i));
          ahead = λ j b. subst (λ (x : List ℕ). has x j ≡ has old j) (sym e) (later j b);
          reads = ap (λ (n : ℕ). pay (left n) b k) (add-one i) ∙ paid-more (sweep_reads (has marks i) p row) (left (suc i)) a m paid
              ∙ sym split ∙ s.reads;
        }
      where
        before : (j : ℕ) → j < i + 1 → (j ≡ i) ⊎ (j ≡ i → ⊥)
            → has (swept_marks (has marks i) marks i p row) j ≡ (has old j || subsumes p (get_or es j no-entry).row)
        before j b (inl q) =
            subst (λ (k : ℕ). has (swept_marks (has marks i) marks i p row) k ≡ (has old k || subsumes p (get_or es k no-entry).row))
            (sym q)
            (swept-here p row marks i w (has marks i) refl ∙ ap (λ (x : Bool). x || subsumes p row) (s.ahead i (omega arith)))
        before j b (inr n) =
            let k : j < i = omega arith in
            swept-other p row marks i w (has marks i) j n ∙ s.passed j k

        later : (j : ℕ) → i + 1 ≤ j → has (swept_marks (has marks i) marks i p row) j ≡ has old j
        later j b =
            let n : (j ≡ i → ⊥) = λ q. omega arith in
            let k : i ≤ j = omega arith in
            swept-other p row marks i w (has marks i) j n ∙ s.ahead j k

    pub sweep-not : (v : Judged) → v ≡ judged true (pay (sweep_reads (has marks i) p row) a m) → (v.verdict ≡ verdict.Yes → ⊥)
        → v ≡ judged true (pay (second_reads p (examined_by (has old) 0 es)) a₀ m₀)
    sweep-not v h t =
        alone v.verdict v (judged true (pay (left (suc i)) v.account v.meter)) t
        ∙ ap (λ (j : Judged). on_yes j.verdict j (judged true (pay (left (suc i)) j.account j.meter))) h
        ∙ ask-both true true (sweep_reads (has marks i) p row) (left (suc i)) a m
        ∙ ap (judged true) (sym split ∙ s.reads)

    pub sweep-unpaid : (e : Unpaid) (u : Purse) → unpaid_end e u ≡ pay (sweep_reads (has marks i) p row) a m
        → unpaid_end e u ≡ pay (second_reads p (examined_by (has old) 0 es)) a₀ m₀
    sweep-unpaid e u f =
        unpaid-more (sweep_reads (has marks i) p row) (sweep_reads (has marks i) p row + left (suc i)) a m e u (omega arith) f
        ∙ sym split ∙ s.reads

  module _ (marks : List ℕ) (a : Account) (m : Meter) (i : ℕ) (s : Sweep marks a m i) (l : length es ≤ i) where
    pub sweep-paid : read.Paid a m ≡ pay (second_reads p (examined_by (has old) 0 es)) a₀ m₀
    sweep-paid = sym (rw (none_left (has old) p i es l) (pay-none a m)) ∙ s.reads

    pub sweep-marks : examined_by (has marks) 0 es ≡ second_pass p (examined_by (has old) 0 es)
    sweep-marks = second-marks (has old) (has marks) p 0 es no-entry (λ j b. at j b)
      where
        at : (j : ℕ) → j < length es → has marks (0 + j) ≡ (has old (0 + j) || subsumes p (get_or es j no-entry).row)
        at j b =
            let k : j < i = omega arith in
            subst (λ (n : ℕ). has marks n ≡ (has old n || subsumes p (get_or es j no-entry).row)) (sym (zero-add j)) (s.passed j k)
