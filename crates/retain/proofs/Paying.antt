-- 01, module 5: reads in two parts, the second paid where the first is. Assumes nothing.
use mathlib.Core.Path.{◌≡◌, sym, ap, ◌∙◌}
use mathlib.Core.Bool.{true, true≢false}
use Prim.Native.Nat.{ℕ, ◌+◌}
use Rattle.meter.specs.declared.Meter.{Meter}
use Rattle.meter.specs.declared.Account.{Account}
use Rattle.meter.specs.Judged.{Judged}
use Rattle.meter.specs.Verdict as verdict
use Rattle.meter.specs.Read.{Read}
use Rattle.meter.specs.Read as read
use Rattle.meter.specs.Meter.{and_then, pay, judged}
use Rattle.meter.proofs.Laws.{pay-add}
use Rattle.retain_compare.proofs.Answers.{told-yes, told-no, told-declined, told-stopped}

module _ (n k : ℕ) (a : Account) (m : Meter) {j : Judged} (e : j ≡ judged true (pay n a m)) where
  after : {r : Read} → pay n a m ≡ r → and_then r (pay k) ≡ pay (n + k) a m
  after q = ap (λ (x : Read). and_then x (pay k)) (sym q) ∙ sym (pay-add n k a m)

  pub pay-rest : {r : Read} → j.verdict ≡ verdict.Yes → r ≡ pay k j.account j.meter → r ≡ pay (n + k) a m
  pay-rest y q = q ∙ after (told-yes true (pay n a m) e y).1

  pub never-no : j.verdict ≡ verdict.No → ⊥
  never-no y = true≢false (told-no true (pay n a m) e y).0

  pub pay-declined : j.verdict ≡ verdict.Declined → read.Declined j.account j.meter ≡ pay (n + k) a m
  pay-declined y = after (told-declined true (pay n a m) e y)

  pub pay-stopped : j.verdict ≡ verdict.Stopped → read.Stopped j.account j.meter ≡ pay (n + k) a m
  pay-stopped y = after (told-stopped true (pay n a m) e y)
