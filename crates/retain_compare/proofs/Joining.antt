-- 01, module 5: 'subsumption and union position by position'. One position of the first pass by the ways that it ends. Assumes nothing.
use mathlib.Core.Path.{◌≡◌, refl, sym, ap, ◌∙◌}
use mathlib.Core.Bool.{Bool, true, false}
use mathlib.Core.List.{List}
use Prim.Native.Nat.{ℕ, suc, ◌+◌}
use native.Mathlib.Nat.{add-zero}
use native.Mathlib.Omega.{arith}
use Rattle.words.specs.Region.{mark}
use Rattle.std.specs.Prelude.{Result, Ok, Err}
use Rattle.meter.specs.declared.Meter.{Meter}
use Rattle.meter.specs.declared.Account.{Account}
use Rattle.meter.specs.declared.Purse.{Purse}
use Rattle.meter.specs.declared.Unpaid.{Unpaid}
use Rattle.meter.specs.declared.Unpaid.TheVariants as unpaid
use Rattle.meter.specs.Judged.{Judged}
use Rattle.meter.specs.Verdict.{Verdict}
use Rattle.meter.specs.Verdict as verdict
use Rattle.meter.specs.Read.{Read}
use Rattle.meter.specs.Read as read
use Rattle.meter.specs.Meter.{and_then, pay_one, pay, judged}
use Rattle.meter.specs.Results.{unpaid_end, judged_end, verdict_of}
use Rattle.meter.proofs.Laws.{pay-add}
use Rattle.meter.proofs.Payments.{ask-one, ask-ended, paid-one, answered}
use Rattle.model.specs.Records.{Row}
use Rattle.model.specs.Rows.{subsumes, subsumes_reads}
use Rattle.model.specs.Union.{joins, join_reads, grown}
use Rattle.slots.specs.Layout.{proposal}
use Rattle.retain_compare.specs.Passes.{row_reads, proposal_after}
use Rattle.retain_compare.specs.Turns.{marked_if, WhereNo}

-- ---- what is told where a question says No
pub no_all : (v : Verdict) {P : Type 0} → P → WhereNo v P
no_all verdict.Yes p = tt
no_all verdict.No p = p
no_all verdict.Declined p = tt
no_all verdict.Stopped p = tt

pub no_other : (v : Verdict) (P : Type 0) → (v ≡ verdict.No → ⊥) → WhereNo v P
no_other verdict.No P t = absurd (t refl)
no_other verdict.Yes P t = tt
no_other verdict.Declined P t = tt
no_other verdict.Stopped P t = tt

-- ---- a second question is asked where the first says No, and says No too
abbrev on_no : Verdict → Judged → Judged → Judged
on_no verdict.Yes i j = i
on_no verdict.No i j = j
on_no verdict.Declined i j = i
on_no verdict.Stopped i j = i

pub not-no : (v : Verdict) (i j : Judged) → (v ≡ verdict.No → ⊥) → i ≡ on_no v i j
not-no verdict.No i j t = absurd (t refl)
not-no verdict.Yes i j t = refl
not-no verdict.Declined i j t = refl
not-no verdict.Stopped i j t = refl

-- nor where the first is not answered
unpaid-alone : (e : Unpaid) (i j : Judged) → i ≡ on_no (verdict_of (Err e)) i j
unpaid-alone unpaid.Declined i j = refl
unpaid-alone unpaid.Stopped i j = refl

ask-other : (b : Bool) (n k : ℕ) (a : Account) (m : Meter)
    → let i : Judged = judged b (pay n a m) in
    on_no i.verdict i (judged false (pay k i.account i.meter)) ≡ judged b (pay (n + (elim b [ true ↦ 0 | false ↦ k ])) a m)
ask-other true n k a m = go (pay n a m) ∙ ap (λ (x : ℕ). judged true (pay x a m)) (sym (add-zero n))
  where
    go : (r : Read) → let i : Judged = judged true r in on_no i.verdict i (judged false (pay k i.account i.meter)) ≡ judged true r
    go (read.Paid p q) = refl
    go (read.Declined p q) = refl
    go (read.Stopped p q) = refl
ask-other false n k a m = go (pay n a m) ∙ sym (ap (judged false) (pay-add n k a m))
  where
    go : (r : Read) → let i : Judged = judged false r in
        on_no i.verdict i (judged false (pay k i.account i.meter)) ≡ judged false (and_then r (pay k))
    go (read.Paid p q) = refl
    go (read.Declined p q) = refl
    go (read.Stopped p q) = refl

-- ---- the proposal and the marks after one position
module _ (most : ℕ) (r p : Row) (marks : List ℕ) (i : ℕ) where
  abbrev pub Joins : List ℕ → List ℕ → Type 0
  Joins words after = (words ≡ proposal (proposal_after most r p)) × (after ≡ marked_if (joins most r p) marks i)

  joins-as : {b : Bool} (words after : List ℕ) → joins most r p ≡ b
      → words ≡ proposal (elim b as (λ k. Row) [ true ↦ grown r p | false ↦ p ]) → after ≡ marked_if b marks i → Joins words after
  unfolding proposal_after
  joins-as words after e q s = (
    q ∙ ap (λ (b : Bool). proposal (elim b as (λ k. Row) [ true ↦ grown r p | false ↦ p ])) (sym e),
    s ∙ ap (λ (b : Bool). marked_if b marks i) (sym e),
  )

  pub joins-both : {words after : List ℕ} → joins most r p ≡ true → words ≡ proposal (grown r p) → after ≡ mark marks i → Joins words after
  joins-both {words} {after} e q s = joins-as words after e q s

  pub joins-alone : {words : List ℕ} → joins most r p ≡ false → words ≡ proposal p → Joins words marks
  joins-alone {words} e q = joins-as words marks e q refl

-- ---- the reads of one position: one, then those of the two questions
module _ (most : ℕ) (r p : Row) (a : Account) (m : Meter) where
  abbrev pub beside : Judged
  beside = judged (subsumes r p) (pay (row_reads most r p) a m)

  pub beside-unpaid : (u : Purse) {s : Result Bool Unpaid} {e : Unpaid} → s ≡ Err e → unpaid_end e u ≡ pay_one a m → judged_end s u ≡ beside
  unfolding row_reads
  beside-unpaid u h f = ask-one (subsumes r p) (row_reads most r p) a m u h (omega arith) f

  module _ {c : Account} {k : Meter} (q : read.Paid c k ≡ pay_one a m) where
    -- what is left of the whole
    left : judged (subsumes r p) (pay (subsumes_reads r p + (elim (subsumes r p) [ true ↦ 0 | false ↦ join_reads most r p ])) c k) ≡ beside
    unfolding row_reads
    left =
        let z : ℕ = elim (subsumes r p) [ true ↦ 0 | false ↦ join_reads most r p ] in
        let s : suc (subsumes_reads r p + z) ≡ suc (subsumes_reads r p) + z = omega arith in
        ap (judged (subsumes r p)) (paid-one (subsumes_reads r p + z) a m q) ∙ ap (λ (n : ℕ). judged (subsumes r p) (pay n a m)) s

    -- an answer i to the first question, then the second
    both : (i : Judged) → i ≡ judged (subsumes r p) (pay (subsumes_reads r p) c k)
        → on_no i.verdict i (judged false (pay (join_reads most r p) i.account i.meter)) ≡ beside
    both i e =
        ap (λ (f : Judged). on_no f.verdict f (judged false (pay (join_reads most r p) f.account f.meter))) e
        ∙ ask-other (subsumes r p) (subsumes_reads r p) (join_reads most r p) c k ∙ left

    pub beside-unasked : (u : Purse) {s : Result Bool Unpaid} {e : Unpaid} → s ≡ Err e
        → judged_end (Err e) u ≡ judged (subsumes r p) (pay (subsumes_reads r p) c k) → judged_end s u ≡ beside
    beside-unasked u {s} {e} h f = rw h (unpaid-alone e (judged_end (Err e) u) _ ∙ both (judged_end (Err e) u) f)

    module _ (u : Purse) {v : Bool} (f : judged_end (Ok v) u ≡ judged (subsumes r p) (pay (subsumes_reads r p) c k)) where
      pub beside-found : v ≡ true → judged_end (Ok true) u ≡ beside
      beside-found y = both (judged_end (Ok true) u) (rw y at f)

      module _ (y : v ≡ false) where
        pub beside-unjoined : (w : Purse) {s : Result Bool Unpaid} {e : Unpaid} → s ≡ Err e
            → judged_end (Err e) w ≡ judged (joins most r p) (pay (join_reads most r p) u.account u.meter) → judged_end s w ≡ beside
        beside-unjoined w h g =
            ask-ended (joins most r p) false (join_reads most r p) (join_reads most r p) u.account u.meter w h (omega arith) g
            ∙ both (judged_end (Ok false) u) (rw y at f)

        pub beside-joined : (w : Purse) (b : Bool)
            → judged_end (Ok b) w ≡ judged (joins most r p) (pay (join_reads most r p) u.account u.meter)
            → judged_end (Ok false) w ≡ beside
        beside-joined w b g =
            ap (judged false) (answered (joins most r p) b (join_reads most r p) u.account u.meter w g).1
            ∙ both (judged_end (Ok false) u) (rw y at f)
