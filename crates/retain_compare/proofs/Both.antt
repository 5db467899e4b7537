-- 01, module 5: both passes, one after the other. Assumes nothing.
use mathlib.Core.Path.{◌≡◌, refl, sym, ap, ap₂, ◌∙◌, subst}
use mathlib.Core.List.{List}
use Prim.Native.Nat.{ℕ, ◌+◌}
use native.Mathlib.Omega.{arith}
use Rattle.std.specs.Prelude.{Ok, Err, Some, None}
use Rattle.words.specs.Region.{has}
use Rattle.meter.specs.declared.Meter.{Meter}
use Rattle.meter.specs.declared.Account.{Account}
use Rattle.meter.specs.declared.Purse.{Purse}
use Rattle.meter.specs.declared.Unpaid.{Unpaid}
use Rattle.meter.specs.Read.{Read, Paid}
use Rattle.meter.specs.Read as read
use Rattle.meter.specs.Meter.{and_then, pay}
use Rattle.meter.specs.Results.{unpaid_end}
use Rattle.meter.proofs.Laws.{pay-add, pay-none}
use Rattle.meter.proofs.Payments.{unpaid-more, paid-more}
use Rattle.model.specs.Records.{Row, Entry}
use Rattle.model.specs.Slots.{row_in}
use Rattle.model.specs.Retention.{Examined, Pass, found, passed, first_pass, first_reads, second_pass, second_reads, later_reads}
use Rattle.row_propose.specs.Proposed.{Proposed}
use Rattle.retain_compare.specs.Compared.{Compared, Comparison}
use Rattle.retain_compare.specs.Compared as compared
use Rattle.retain_compare.specs.Passes.{examined_by}
use Rattle.retain_compare.specs.Turns.{comparison, comparison_end, WhereReplaces, both_passes, compare_reads}
use Rattle.retain_compare.proofs.Outcomes.{compares-subsumed, compares-replaces, compares-unpaid, unpaid-compares}

-- ---- what a comparison tells
pub other-than : (c : Compared) (P : Type 0) → (c ≡ compared.Replaces → ⊥) → WhereReplaces c P
other-than compared.Replaces P t = absurd (t refl)
other-than (compared.Subsumed n) P t = tt
other-than compared.Declined P t = tt
other-than compared.Stopped P t = tt

-- the first pass that ends the whole
pub ends-first : (x : Pass) (r : Read) → ((comparison x r).compared ≡ compared.Replaces → ⊥)
    → comparison x r ≡ comparison x (and_then r (pay (later_reads x)))
unfolding later_reads
ends-first (found n) (Paid a m) t = ap (comparison (found n)) (sym (pay-none a m))
ends-first (passed ks p) (Paid a m) t = absurd (t refl)
ends-first (found n) (read.Declined a m) t = refl
ends-first (passed ks p) (read.Declined a m) t = refl
ends-first (found n) (read.Stopped a m) t = refl
ends-first (passed ks p) (read.Stopped a m) t = refl

module _ (most : ℕ) (p : Row) (es : List Entry) (a : Account) (m : Meter) where
  abbrev x : Pass
  x = first_pass most p es

  abbrev first : Read
  first = pay (first_reads most p es) a m

  abbrev pub both : Read
  both = pay (compare_reads most p es) a m

  abbrev pub Ends : Comparison → List ℕ → List ℕ → Type 0
  Ends v words marks =
      (v ≡ comparison x (pay (compare_reads most p es) a m))
      × WhereReplaces v.compared ((both_passes x ≡ passed (examined_by (has marks) 0 es) (row_in words)) × Proposed words)

  -- where no second pass follows the first
  pub both_first : {f : Comparison} → f ≡ comparison x (pay (first_reads most p es) a m) → (words marks : List ℕ)
      → (f.compared ≡ compared.Replaces → ⊥) → Ends f words marks
  unfolding compare_reads
  both_first {f} e words marks t = (
    e
        ∙ ends-first x (pay (first_reads most p es) a m)
        (subst (λ (c : Comparison). c.compared ≡ compared.Replaces → ⊥) e t)
        ∙ ap (comparison x) (sym (pay-add (first_reads most p es) (later_reads x) a m)),
    other-than f.compared _ t,
  )

  -- the first pass is not paid
  pub both-unpaid : (e : Unpaid) (u : Purse) → comparison_end (Err e) u ≡ comparison x first → comparison_end (Err e) u ≡ comparison x both
  unfolding compare_reads
  both-unpaid e u c =
      unpaid-compares x both e u
      (unpaid-more (first_reads most p es) (first_reads most p es + later_reads x) a m e u (omega arith) (compares-unpaid x first e u c))

  -- a row subsumes the proposal
  pub both-found : (n : ℕ) (u : Purse) → comparison_end (Ok (Some n)) u ≡ comparison x first
      → comparison_end (Ok (Some n)) u ≡ comparison x both
  unfolding compare_reads later_reads
  both-found n u c =
      let f = compares-subsumed x first c refl in
      let none : pay (later_reads x) u.account u.meter ≡ Paid u.account u.meter
      = ap (λ (z : Pass). pay (later_reads z) u.account u.meter) f.0 ∙ pay-none u.account u.meter in
      sym (ap₂ comparison f.0 (sym (paid-more (first_reads most p es) (later_reads x) a m (sym f.1)) ∙ none))

  -- no row does: the second pass
  module _ (words marks : List ℕ) (u : Purse) (c : comparison_end (Ok None) u ≡ comparison x first)
      (q : x ≡ passed (examined_by (has marks) 0 es) (row_in words)) where
    abbrev ks : List Examined
    ks = examined_by (has marks) 0 es

    split : pay (second_reads (row_in words) ks) u.account u.meter ≡ both
    unfolding compare_reads later_reads
    split =
        ap (λ (z : Pass). pay (later_reads z) u.account u.meter) (sym q)
        ∙ paid-more (first_reads most p es) (later_reads x) a m (sym (compares-replaces x first c refl))

    pub second-unpaid : (e : Unpaid) (w : Purse) → unpaid_end e w ≡ pay (second_reads (row_in words) ks) u.account u.meter
        → comparison_end (Err e) w ≡ comparison x both
    second-unpaid e w f = unpaid-compares x both e w (f ∙ split)

    pub second-paid : (w : Purse) → Paid w.account w.meter ≡ pay (second_reads (row_in words) ks) u.account u.meter
        → comparison_end (Ok None) w ≡ comparison x both
    second-paid w f = sym (ap₂ comparison q (sym (f ∙ split)))

    pub second-passes : {js : List Examined} → js ≡ second_pass (row_in words) ks → both_passes x ≡ passed js (row_in words)
    second-passes s = ap both_passes q ∙ ap (λ (js : List Examined). passed js (row_in words)) (sym s)
