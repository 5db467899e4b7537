-- The questions of a union, read by read: equal conditions, the count, the growth, the whole. Assumes nothing.
use mathlib.Core.Path.{◌≡◌, refl, sym, ◌∙◌, ap, ap₂}
use mathlib.Core.Bool.{Bool, true, false, ◌&&◌, and-true}
use mathlib.Core.List.{List, [], ◌∷◌}
use Prim.Native.Nat.{ℕ, zero, suc, ◌+◌, ◌-◌, ◌≤◌, ◌<◌, min}
use native.Mathlib.Omega.{arith}
use lib.Dec.{eqb, leb, leb-zero, leb-suc-suc}
use lib.ListN.{length}
use borrow.Author.Tests.{eq-eqb, ne_eqb, le-leb, lt-leb, leb-true}
use Rattle.lists.specs.Lists.{same}
use Rattle.meter.specs.declared.Meter.{Meter}
use Rattle.meter.specs.declared.Account.{Account}
use Rattle.meter.specs.declared.Purse.{Purse}
use Rattle.meter.specs.declared.Unpaid.{Unpaid}
use Rattle.meter.specs.Judged.{Judged}
use Rattle.meter.specs.Verdict.{Verdict}
use Rattle.meter.specs.Verdict as verdict
use Rattle.meter.specs.Read.{Read}
use Rattle.meter.specs.Read as read
use Rattle.std.specs.Prelude.{Result, Err}
use Rattle.meter.specs.Meter.{pay_one, pay, judged}
use Rattle.meter.specs.Results.{unpaid_end, judged_end}
use Rattle.model.specs.Records.{Row}
use Rattle.model.specs.Union.{grown, may_join, joins, same_reads, union_reads, join_reads}
use Rattle.meter.proofs.Payments.{ask-one, paid-one, on_yes, ask-both}
use Rattle.row_subsume.proofs.Subsuming.{other_than_yes}

-- ---- equal conditions, asked of what is left of both lists
abbrev pub alike : List ℕ → List ℕ → Account → Meter → Judged
alike xs ys a m = judged (same xs ys) (pay (same_reads xs ys) a m)

pub alike-end : (ys : List ℕ) (a : Account) (m : Meter) {l : List ℕ} → [] ≡ l → length l ≡ length ys
    → judged true (read.Paid a m) ≡ alike l ys a m
unfolding same same_reads pay
alike-end ys a m {l} e f = none ys (omega (arith, ap length e)) ∙ ap (λ (q : List ℕ). alike q ys a m) e
  where
    none : (ys : List ℕ) → length ys ≡ 0 → judged true (read.Paid a m) ≡ alike [] ys a m
    none [] z = refl
    none (y ∷ ys) z = absurd (omega arith)

pub alike-short : (x : ℕ) (xs : List ℕ) (a : Account) (m : Meter) → judged false (pay 0 a m) ≡ alike (x ∷ xs) [] a m
unfolding same same_reads
alike-short x xs a m = refl

module _ (x y : ℕ) (xs ys : List ℕ) (a : Account) (m : Meter) {l r : List ℕ} (f : x ∷ xs ≡ l) (g : y ∷ ys ≡ r) where
  abbrev compared : Bool → Judged
  compared b = judged (elim b [ true ↦ same xs ys | false ↦ false ]) (pay (elim b [ true ↦ suc (same_reads xs ys) | false ↦ 1 ]) a m)

  compare-as : {b : Bool} → eqb x y ≡ b → compared b ≡ alike l r a m
  unfolding same same_reads
  compare-as e = ap compared (sym e) ∙ ap₂ (λ (p q : List ℕ). alike p q a m) f g

  reads-some : 0 < same_reads (x ∷ xs) (y ∷ ys)
  unfolding same_reads
  reads-some = go (eqb x y)
    where
      go : (b : Bool) → 0 < (elim b [ true ↦ suc (same_reads xs ys) | false ↦ 1 ])
      go true = omega arith
      go false = omega arith

  pub alike-unpaid : (p : Purse) {s : Result Bool Unpaid} {e : Unpaid} → s ≡ Err e → unpaid_end e p ≡ pay_one a m
      → judged_end s p ≡ alike l r a m
  alike-unpaid p h e =
      ask-one (same (x ∷ xs) (y ∷ ys)) (same_reads (x ∷ xs) (y ∷ ys)) a m p h reads-some e
      ∙ ap₂ (λ (p q : List ℕ). alike p q a m) f g

  module _ {p : Account} {q : Meter} (e : read.Paid p q ≡ pay_one a m) where
    pub alike-equal : x ≡ y → alike xs ys p q ≡ alike l r a m
    alike-equal h = ap (judged (same xs ys)) (paid-one (same_reads xs ys) a m e) ∙ compare-as (eq-eqb x y h)

    pub alike-differs : (x ≡ y → ⊥) → judged false (read.Paid p q) ≡ alike l r a m
    unfolding pay
    alike-differs h = ap (judged false) (paid-one 0 a m e) ∙ compare-as (ne_eqb x y h)

-- ---- the count of l, with room for k more
abbrev pub counting : List ℕ → ℕ → Account → Meter → Judged
counting l k a m = judged (leb (length l) k) (pay (suc (min (length l) k)) a m)

module _ (a : Account) (m : Meter) where
  pub count-unpaid : (l : List ℕ) (k : ℕ) (p : Purse) {s : Result Bool Unpaid} {e : Unpaid} → s ≡ Err e → unpaid_end e p ≡ pay_one a m
      → judged_end s p ≡ counting l k a m
  count-unpaid l k p h e = ask-one (leb (length l) k) (suc (min (length l) k)) a m p h (omega arith) e

  module _ {p : Account} {q : Meter} (e : read.Paid p q ≡ pay_one a m) where
    -- one read of as many as the count asks
    counted : (l : List ℕ) (b : Bool) (n k : ℕ) → b ≡ leb (length l) k → suc n ≡ suc (min (length l) k)
        → judged b (pay n p q) ≡ counting l k a m
    counted l b n k f z = ap (judged b) (paid-one n a m e) ∙ ap₂ (λ (b : Bool) (n : ℕ). judged b (pay n a m)) f z

    pub count-end : (k : ℕ) {l : List ℕ} → [] ≡ l → judged true (read.Paid p q) ≡ counting l k a m
    unfolding pay
    count-end k {l} f =
        let g = ap length f in
        counted l true 0 k (sym (leb-zero k) ∙ ap (λ (n : ℕ). leb n k) g) (omega arith)

    pub count-full : (k x : ℕ) (xs : List ℕ) {l : List ℕ} → x ∷ xs ≡ l → k ≡ 0 → judged false (read.Paid p q) ≡ counting l k a m
    unfolding pay
    count-full k x xs {l} f h =
        let g = ap length f in
        counted l false 0 k (sym (lt-leb (length l) k (omega arith))) (omega arith)

    pub count-more : (k x : ℕ) (xs : List ℕ) {l : List ℕ} → x ∷ xs ≡ l → 0 < k → counting xs (k - 1) p q ≡ counting l k a m
    count-more zero x xs {l} f h = absurd (omega arith)
    count-more (suc k) x xs {l} f h =
        let g = ap length f in
        let s : suc k - 1 ≡ k = omega arith in
        counted l (leb (length xs) (suc k - 1)) (suc (min (length xs) (suc k - 1))) (suc k)
        (ap (leb (length xs)) s ∙ sym (leb-suc-suc (length xs) k) ∙ ap (λ (n : ℕ). leb n (suc k)) g) (omega arith)

-- ---- the count, then the growth
-- an answer Yes has nothing left to pay
pub yes-is : (i : Judged) → i.verdict ≡ verdict.Yes → i ≡ judged true (pay 0 i.account i.meter)
unfolding pay
yes-is i e = ap (λ (v : Verdict). record { verdict = v; account = i.account; meter = i.meter }) e

-- and is an answer to a question that holds
pub yes_true : (b : Bool) (r : Read) → (judged b r).verdict ≡ verdict.Yes → b ≡ true
yes_true true r e = refl
yes_true false (read.Paid a m) e = let z : ◌≡◌ {A = ℕ} 0 1 = cc in absurd (omega arith)
yes_true false (read.Declined a m) e = let z : ◌≡◌ {A = ℕ} 0 1 = cc in absurd (omega arith)
yes_true false (read.Stopped a m) e = let z : ◌≡◌ {A = ℕ} 0 1 = cc in absurd (omega arith)

module _ (most : ℕ) (l : List ℕ) (before : ℕ) (a : Account) (m : Meter) where
  abbrev pub united : Judged
  united = judged (leb (length l) most) (pay (union_reads most before (length l)) a m)

  module _ (i : Judged) (c : i ≡ counting l most a m) where
    abbrev grows : Bool → Judged
    grows b = judged true (pay (elim b [ true ↦ 0 | false ↦ length l ]) i.account i.meter)

    pub unite-both : on_yes i.verdict i (grows (eqb (length l) before)) ≡ united
    unfolding union_reads
    unite-both =
        ap (λ (j : Judged). on_yes j.verdict j
        (judged true (pay (elim (eqb (length l) before) [ true ↦ 0 | false ↦ length l ]) j.account j.meter))) c
        ∙ ask-both (leb (length l) most) true (suc (min (length l) most)) (elim (eqb (length l) before) [ true ↦ 0 | false ↦ length l ]) a m
        ∙ ap (λ (b : Bool). judged b (pay (union_reads most before (length l)) a m)) (and-true (leb (length l) most))

    pub unite-not : (i.verdict ≡ verdict.Yes → ⊥) → i ≡ united
    unite-not k = other_than_yes i.verdict i (grows (eqb (length l) before)) k ∙ unite-both

    module _ (y : i.verdict ≡ verdict.Yes) where
      -- the union is within the maximum
      pub unite-fits : length l ≤ most
      unite-fits =
          leb-true (length l) most
          (yes_true (leb (length l) most) (pay (suc (min (length l) most)) a m) (sym (ap (λ (j : Judged). j.verdict) c) ∙ y))

      pub unite-same : length l ≡ before → i ≡ united
      unite-same e =
          yes-is i y ∙ ap grows (sym (eq-eqb (length l) before e))
          ∙ ap (λ (v : Verdict). on_yes v i (grows (eqb (length l) before))) (sym y) ∙ unite-both

      pub unite-grows : (length l ≡ before → ⊥) → judged true (pay (length l) i.account i.meter) ≡ united
      unite-grows n =
          ap grows (sym (ne_eqb (length l) before n))
          ∙ ap (λ (v : Verdict). on_yes v i (grows (eqb (length l) before))) (sym y) ∙ unite-both

-- ---- the whole
module _ (most : ℕ) (r p : Row) (a : Account) (m : Meter) where
  abbrev pub joined : Judged
  joined = judged (joins most r p) (pay (join_reads most r p) a m)

  -- the question, the unpaid tests apart
  abbrev if_may : Bool → Judged
  if_may b =
      judged (b && (same r.conditions p.conditions && leb (length (grown r p).outputs) most))
      (pay
      (elim b [
        | false ↦ 0
        | true ↦ same_reads r.conditions p.conditions
            + (elim (same r.conditions p.conditions)
            [ true ↦ union_reads most (length p.outputs) (length (grown r p).outputs) | false ↦ 0 ])
      ])
      a m)

  may : {b : Bool} → may_join most r p ≡ b → if_may b ≡ joined
  unfolding joins join_reads
  may e = ap if_may (sym e)

  abbrev tests : Bool → Bool → Bool → Bool
  tests x y z = x && (y && z)

  pub join-other : (length r.conditions ≡ length p.conditions → ⊥) → judged false (read.Paid a m) ≡ joined
  unfolding may_join pay
  join-other h =
      may (ap (λ (b : Bool). tests b (leb (length r.outputs) most) (leb (length p.outputs) most))
      (ne_eqb (length r.conditions) (length p.conditions) h))

  module _ (e : length r.conditions ≡ length p.conditions) where
    pub join-left : most < length r.outputs → judged false (read.Paid a m) ≡ joined
    unfolding may_join pay
    join-left h =
        may
        (ap₂ (λ (b c : Bool). tests b c (leb (length p.outputs) most)) (eq-eqb (length r.conditions) (length p.conditions) e)
        (lt-leb (length r.outputs) most h))

    module _ (l : length r.outputs ≤ most) where
      pub join-right : most < length p.outputs → judged false (read.Paid a m) ≡ joined
      unfolding may_join pay
      join-right h =
          may
          (ap₂ (λ (b c : Bool). tests b c (leb (length p.outputs) most)) (eq-eqb (length r.conditions) (length p.conditions) e)
          (le-leb (length r.outputs) most l)
          ∙ lt-leb (length p.outputs) most h)

      pub join-both : {i : Judged} → i ≡ alike r.conditions p.conditions a m → length p.outputs ≤ most
          → on_yes i.verdict i (united most (grown r p).outputs (length p.outputs) i.account i.meter) ≡ joined
      unfolding may_join
      join-both c h =
          ap (λ (i : Judged). on_yes i.verdict i (united most (grown r p).outputs (length p.outputs) i.account i.meter)) c
          ∙ ask-both (same r.conditions p.conditions) (leb (length (grown r p).outputs) most)
          (same_reads r.conditions p.conditions)
          (union_reads most (length p.outputs) (length (grown r p).outputs)) a m
          ∙ may
          (ap₂ (λ (b c : Bool). tests b c (leb (length p.outputs) most)) (eq-eqb (length r.conditions) (length p.conditions) e)
          (le-leb (length r.outputs) most l)
          ∙ le-leb (length p.outputs) most h)
