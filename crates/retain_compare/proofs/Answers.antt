-- 01, Meter: what an answer tells of the reads that were paid for it. Assumes nothing.
use mathlib.Core.Path.{◌≡◌, refl, sym, ap, ◌∙◌, subst}
use mathlib.Core.Bool.{Bool, true, false}
use Rattle.meter.specs.declared.Meter.{Meter}
use Rattle.meter.specs.declared.Account.{Account}
use Rattle.meter.specs.Judged.{Judged}
use Rattle.meter.specs.Verdict.{Verdict}
use Rattle.meter.specs.Verdict as verdict
use Rattle.meter.specs.Read.{Read}
use Rattle.meter.specs.Read as read
use Rattle.meter.specs.Meter.{pay, judged}
use Rattle.meter.proofs.Laws.{pay-none}

-- how the reads of an answer went, and what it says of the question
abbrev read_of : Verdict → Account → Meter → Read
read_of verdict.Yes a m = read.Paid a m
read_of verdict.No a m = read.Paid a m
read_of verdict.Declined a m = read.Declined a m
read_of verdict.Stopped a m = read.Stopped a m

abbrev Says : Verdict → Bool → Type 0
Says verdict.Yes b = b ≡ true
Says verdict.No b = b ≡ false
Says verdict.Declined b = Unit {0}
Says verdict.Stopped b = Unit {0}

told : (b : Bool) (r : Read) → (r ≡ read_of (judged b r).verdict (judged b r).account (judged b r).meter) × Says (judged b r).verdict b
told true (read.Paid a m) = (refl, refl)
told false (read.Paid a m) = (refl, refl)
told b (read.Declined a m) = (refl, tt)
told b (read.Stopped a m) = (refl, tt)

module _ (b : Bool) (r : Read) {j : Judged} (e : j ≡ judged b r) where
  all_told : (r ≡ read_of j.verdict j.account j.meter) × Says j.verdict b
  all_told = subst (λ (i : Judged). (r ≡ read_of i.verdict i.account i.meter) × Says i.verdict b) (sym e) (told b r)

  went : {v : Verdict} → j.verdict ≡ v → r ≡ read_of v j.account j.meter
  went y = all_told.0 ∙ ap (λ (v : Verdict). read_of v j.account j.meter) y

  pub told-yes : j.verdict ≡ verdict.Yes → (b ≡ true) × (r ≡ read.Paid j.account j.meter)
  told-yes y = (subst (λ (v : Verdict). Says v b) y all_told.1, went y)

  pub told-no : j.verdict ≡ verdict.No → (b ≡ false) × (r ≡ read.Paid j.account j.meter)
  told-no y = (subst (λ (v : Verdict). Says v b) y all_told.1, went y)

  pub told-declined : j.verdict ≡ verdict.Declined → r ≡ read.Declined j.account j.meter
  told-declined y = went y

  pub told-stopped : j.verdict ≡ verdict.Stopped → r ≡ read.Stopped j.account j.meter
  told-stopped y = went y

-- a read that is not paid answers every question alike
pub same-declined : (b c : Bool) {r : Read} {a : Account} {m : Meter} → r ≡ read.Declined a m → judged b r ≡ judged c r
same-declined b c e = ap (judged b) e ∙ sym (ap (judged c) e)

pub same-stopped : (b c : Bool) {r : Read} {a : Account} {m : Meter} → r ≡ read.Stopped a m → judged b r ≡ judged c r
same-stopped b c e = ap (judged b) e ∙ sym (ap (judged c) e)

-- an answer that has nothing left to pay
pub answer-paid : (b : Bool) {r : Read} {a : Account} {m : Meter} → r ≡ read.Paid a m → judged b (pay 0 a m) ≡ judged b r
answer-paid b {a = a} {m = m} e = ap (judged b) (pay-none a m ∙ sym e)
