-- Questions that are paid for read by read: what a result and the purse after it say, how one payment, and one answer before another, move
-- what is left to pay. Where a `?` ends a function, what it returns is an error, and `IsErrAnd` says which. Assumes nothing.
use mathlib.Core.Path.{◌≡◌, refl, sym, ◌∙◌, ap}
use mathlib.Core.Bool.{Bool, true, false, ◌&&◌}
use Prim.Native.Nat.{ℕ, suc, ◌+◌, ◌-◌, ◌<◌, ◌≤◌}
use native.Mathlib.Nat.{add-zero}
use native.Mathlib.Omega.{arith}
use Rattle.std.specs.Prelude.{Result, Ok, Err}
use Rattle.std.specs.Result.{IsErrAnd, OnOk}
use Rattle.meter.specs.declared.Meter.{Meter}
use Rattle.meter.specs.declared.Account.{Account}
use Rattle.meter.specs.declared.Purse.{Purse}
use Rattle.meter.specs.declared.Unpaid.{Unpaid}
use Rattle.meter.specs.declared.Unpaid.TheVariants as unpaid
use Rattle.meter.specs.Judged.{Judged}
use Rattle.meter.specs.Verdict.{Verdict}
use Rattle.meter.specs.Verdict as verdict
use Rattle.meter.specs.Read.{Read}
use Rattle.meter.specs.Read as read
use Rattle.meter.specs.Meter.{and_then, pay_one, pay, judged}
use Rattle.meter.specs.Results.{unpaid_end, read_end, judged_end, verdict_of}
use Rattle.meter.proofs.Laws.{pay-add, pay-left, pay-suc}

-- what a `?` returns is the error that it met
pub passed : {A E : Type 0} {r : Result A E} {e : E} → IsErrAnd r (λ (y : E). y ≡ e) → r ≡ Err e
passed {r = Ok x} h = absurd h
passed {r = Err y} h = ap Err h

-- ---- reads that are not all paid end as many reads and more
then-unpaid : (e : Unpaid) (p : Purse) (k : Account → Meter → Read) → and_then (unpaid_end e p) k ≡ unpaid_end e p
then-unpaid unpaid.Declined p k = refl
then-unpaid unpaid.Stopped p k = refl

judged-end : (b : Bool) (e : Unpaid) (p : Purse) → judged b (unpaid_end e p) ≡ judged_end (Err e) p
judged-end b unpaid.Declined p = refl
judged-end b unpaid.Stopped p = refl

pub unpaid-one : (t : ℕ) (a : Account) (m : Meter) (e : Unpaid) (p : Purse)
    → 0 < t → unpaid_end e p ≡ pay_one a m → unpaid_end e p ≡ pay t a m
unpaid-one t a m e p l f = sym (then-unpaid e p (pay (t - 1))) ∙ sym (pay-left t a m l f)

pub unpaid-more : (n t : ℕ) (a : Account) (m : Meter) (e : Unpaid) (p : Purse)
    → n ≤ t → unpaid_end e p ≡ pay n a m → unpaid_end e p ≡ pay t a m
unpaid-more n t a m e p l f =
    let s : n + (t - n) ≡ t = omega arith in
    sym (then-unpaid e p (pay (t - n))) ∙ ap (λ (r : Read). and_then r (pay (t - n))) f ∙ sym (pay-add n (t - n) a m)
    ∙ ap (λ (x : ℕ). pay x a m) s

-- what a function returns there, by the count t of the reads that it has to pay
pub read-one : {A : Type 0} (t : ℕ) (a : Account) (m : Meter) (p : Purse) {r : Result A Unpaid} {e : Unpaid}
    → r ≡ Err e → 0 < t → unpaid_end e p ≡ pay_one a m → read_end r p ≡ pay t a m
read-one t a m p {r} {e} h l f = rw h (unpaid-one t a m e p l f)

pub read-more : {A : Type 0} (n t : ℕ) (a : Account) (m : Meter) (p : Purse) {r : Result A Unpaid} {e : Unpaid}
    → r ≡ Err e → n ≤ t → unpaid_end e p ≡ pay n a m → read_end r p ≡ pay t a m
read-more n t a m p {r} {e} h l f = rw h (unpaid-more n t a m e p l f)

pub ask-one : (b : Bool) (t : ℕ) (a : Account) (m : Meter) (p : Purse) {r : Result Bool Unpaid} {e : Unpaid}
    → r ≡ Err e → 0 < t → unpaid_end e p ≡ pay_one a m → judged_end r p ≡ judged b (pay t a m)
ask-one b t a m p {r} {e} h l f = rw h (sym (judged-end b e p) ∙ ap (judged b) (unpaid-one t a m e p l f))

pub ask-more : (b : Bool) (n t : ℕ) (a : Account) (m : Meter) (p : Purse) {r : Result Bool Unpaid} {e : Unpaid}
    → r ≡ Err e → n ≤ t → unpaid_end e p ≡ pay n a m → judged_end r p ≡ judged b (pay t a m)
ask-more b n t a m p {r} {e} h l f = rw h (sym (judged-end b e p) ∙ ap (judged b) (unpaid-more n t a m e p l f))

-- a question that is not answered: its reads are not all paid
pub unanswered : (b : Bool) (n : ℕ) (a : Account) (m : Meter) (e : Unpaid) (p : Purse)
    → judged_end (Err e) p ≡ judged b (pay n a m) → unpaid_end e p ≡ pay n a m
unanswered b n a m e p f =
    go b e (pay n a m) (ap (λ (j : Judged). j.verdict) f) (ap (λ (j : Judged). j.account) f) (ap (λ (j : Judged). j.meter) f)
  where
    go : (b : Bool) (e : Unpaid) (r : Read) → verdict_of (Err e) ≡ (judged b r).verdict → p.account ≡ (judged b r).account
        → p.meter ≡ (judged b r).meter → unpaid_end e p ≡ r
    go true unpaid.Declined (read.Paid c k) v a m = cc
    go false unpaid.Declined (read.Paid c k) v a m = cc
    go true unpaid.Stopped (read.Paid c k) v a m = cc
    go false unpaid.Stopped (read.Paid c k) v a m = cc
    go b unpaid.Declined (read.Declined c k) v a m = cc
    go b unpaid.Stopped (read.Declined c k) v a m = cc
    go b unpaid.Declined (read.Stopped c k) v a m = cc
    go b unpaid.Stopped (read.Stopped c k) v a m = cc

-- one that is answered: they are, and the answer is the question's
pub answered : (b v : Bool) (n : ℕ) (a : Account) (m : Meter) (p : Purse)
    → judged_end (Ok v) p ≡ judged b (pay n a m) → (v ≡ b) × (read.Paid p.account p.meter ≡ pay n a m)
answered b v n a m p f =
    go b v (pay n a m) (ap (λ (j : Judged). j.verdict) f) (ap (λ (j : Judged). j.account) f) (ap (λ (j : Judged). j.meter) f)
  where
    go : (b v : Bool) (r : Read) → verdict_of (Ok v) ≡ (judged b r).verdict → p.account ≡ (judged b r).account
        → p.meter ≡ (judged b r).meter → (v ≡ b) × (read.Paid p.account p.meter ≡ r)
    go true true (read.Paid c k) v a m = (refl, cc)
    go true false (read.Paid c k) v a m = (cc, cc)
    go false true (read.Paid c k) v a m = (cc, cc)
    go false false (read.Paid c k) v a m = (refl, cc)
    go b true (read.Declined c k) v a m = (cc, cc)
    go b false (read.Declined c k) v a m = (cc, cc)
    go b true (read.Stopped c k) v a m = (cc, cc)
    go b false (read.Stopped c k) v a m = (cc, cc)

-- an answer that ends a question asked before others
pub ask-ended : (b c : Bool) (n t : ℕ) (a : Account) (m : Meter) (p : Purse) {r : Result Bool Unpaid} {e : Unpaid}
    → r ≡ Err e → n ≤ t → judged_end (Err e) p ≡ judged b (pay n a m) → judged_end r p ≡ judged c (pay t a m)
ask-ended b c n t a m p {r} {e} h l f = ask-more c n t a m p h l (unanswered b n a m e p f)

-- ---- reads that are paid leave as many less
pub paid-one : (n : ℕ) (a : Account) (m : Meter) {c : Account} {k : Meter} → read.Paid c k ≡ pay_one a m → pay n c k ≡ pay (suc n) a m
paid-one n a m e = sym (pay-suc n a m e)

pub paid-more : (n k : ℕ) (a : Account) (m : Meter) {c : Account} {l : Meter} → read.Paid c l ≡ pay n a m → pay k c l ≡ pay (n + k) a m
paid-more n k a m e = ap (λ (r : Read). and_then r (pay k)) e ∙ sym (pay-add n k a m)

-- ---- one question after another: the second is asked where the first says Yes
abbrev pub on_yes : Verdict → Judged → Judged → Judged
on_yes verdict.Yes i j = j
on_yes verdict.No i j = i
on_yes verdict.Declined i j = i
on_yes verdict.Stopped i j = i

pub not_yes : (v : Verdict) (i j : Judged) → (v ≡ verdict.Yes → ⊥) → i ≡ on_yes v i j
not_yes verdict.Yes i j t = absurd (t refl)
not_yes verdict.No i j t = refl
not_yes verdict.Declined i j t = refl
not_yes verdict.Stopped i j t = refl

pub unpaid-first : (e : Unpaid) (i j : Judged) → i ≡ on_yes (verdict_of (Err e)) i j
unpaid-first unpaid.Declined i j = refl
unpaid-first unpaid.Stopped i j = refl

pub ask-both : (b c : Bool) (n k : ℕ) (a : Account) (m : Meter)
    → let i : Judged = judged b (pay n a m) in
    on_yes i.verdict i (judged c (pay k i.account i.meter))
    ≡ judged (b && c) (pay (n + (elim b [ true ↦ k | false ↦ 0 ])) a m)
ask-both true c n k a m = go (pay n a m) ∙ sym (ap (judged c) (pay-add n k a m))
  where
    go : (r : Read) → let i : Judged = judged true r in
        on_yes i.verdict i (judged c (pay k i.account i.meter)) ≡ judged c (and_then r (pay k))
    go (read.Paid p q) = refl
    go (read.Declined p q) = refl
    go (read.Stopped p q) = refl
ask-both false c n k a m = go (pay n a m) ∙ ap (λ (x : ℕ). judged false (pay x a m)) (sym (add-zero n))
  where
    go : (r : Read) → let i : Judged = judged false r in
        on_yes i.verdict i (judged c (pay k i.account i.meter)) ≡ judged false r
    go (read.Paid p q) = refl
    go (read.Declined p q) = refl
    go (read.Stopped p q) = refl

-- ---- what is told where a question is answered
pub where-all : {A E : Type 0} (r : Result A E) {P : Type 0} → P → OnOk r P
where-all (Ok x) p = p
where-all (Err e) p = tt
