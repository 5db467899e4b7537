-- The tests of a call one after the other, and a call that is made several times. Assumes nothing.
use mathlib.Core.Path.{◌≡◌, refl, sym, ap, ap₂, ◌∙◌}
use mathlib.Core.Bool.{Bool, true, false}
use mathlib.Core.List.{List, [], ◌∷◌}
use Prim.Native.Nat.{ℕ, zero, suc, ◌-◌, ◌≤◌, ◌<◌}
use native.Mathlib.Omega.{arith}
use Rattle.std.specs.Prelude.{Result, Ok, Err}
use Rattle.meter.specs.declared.Meter.{Meter}
use Rattle.meter.specs.declared.Stopped as error
use Rattle.meter.specs.declared.Account.{Account}
use Rattle.meter.specs.Judged.{Judged}
use Rattle.meter.specs.Tick.{Tick, Ticked, Stopped}
use Rattle.meter.specs.Meter.{ticks, pay, judged}
use Rattle.meter.specs.Counting.{TickLimit}
use Rattle.meter.proofs.Counting.{ticks-limit, judged-limit}
use Rattle.words.specs.Region.{Region}
use Rattle.model.specs.Records.{Row}
use Rattle.model.specs.Rows.{prepare_reads}
use Rattle.model.specs.Deduction.{deduction, deduction_ticks}
use Rattle.model.specs.declared.Deduction.{Deduction}
use Rattle.row_deduce.specs.Walks.{Walked, walked, once}
use Rattle.wire.specs.Replies.{left}
use Rattle.leaves.specs.Calls.{unless, again, asked, payer, Prepared, prepared, prepare_once, preparer, deduce_once, meter_after}

-- ---- the tests
module _ {b : Bool} (n : ℕ) (ts : List (Bool × ℕ)) (old new : List (List ℕ)) where
  pub fails : b ≡ false → left n old ≡ unless ((b, n) ∷ ts) old new
  unfolding unless
  fails e = rw e

  pub passes : b ≡ true → unless ts old new ≡ unless ((b, n) ∷ ts) old new
  unfolding unless
  passes e = rw e

pub passed : (old new : List (List ℕ)) → left 0 new ≡ unless [] old new
unfolding unless
passed old new = refl

-- ---- several times
module _ {S E : Type 0} (f : S → E) (next : E → S) where
  again-suc : (n : ℕ) (s : S) → 0 < n → again f next (n - 1) (next (f s)) ≡ again f next n s
  unfolding again
  again-suc zero s h = absurd (omega arith)
  again-suc (suc n) s h = let e : suc n - 1 ≡ n = omega arith in ap (λ (k : ℕ). again f next k (next (f s))) e

  pub again-turn : (left : ℕ) (s : S) {e : E} → 0 < left → e ≡ f s → again f next (left - 1) (next e) ≡ again f next left s
  again-turn left s l e = ap (λ (x : E). again f next (left - 1) (next x)) e ∙ again-suc left s l

  pub again-end : (left : ℕ) (s : S) {e : E} → left ≡ 0 → e ≡ f s → e ≡ again f next left s
  unfolding again
  again-end left s z e = e ∙ sym (ap (λ (n : ℕ). again f next n s) z)

  pub again-more : (left : ℕ) (s : S) {e : E} → 1 < left → e ≡ f s → again f next (left - 1 - 1) (next e) ≡ again f next (left - 1) s
  again-more left s l e = again-turn (left - 1) s (omega arith) e

  pub again-last : (left : ℕ) (s : S) {e : E} → left ≤ 1 → e ≡ f s → e ≡ again f next (left - 1) s
  again-last left s l e = again-end (left - 1) s (omega arith) e

-- a question: the next has the account and the meter
module _ (b : Bool) (n left : ℕ) (a : Account) (m : Meter) {j : Judged} (e : j ≡ judged b (pay n a m)) where
  pub asked-more : {c : Account} {k : Meter} → 1 < left → c ≡ j.account → k ≡ j.meter
      → again (asked b n) payer (left - 1 - 1) (c, k) ≡ again (asked b n) payer (left - 1) (a, m)
  asked-more l f g =
      ap₂ (λ (x : Account) (y : Meter). again (asked b n) payer (left - 1 - 1) (x, y)) f g
      ∙ again-more (asked b n) payer left (a, m) l e

  pub asked-last : left ≤ 1 → j ≡ again (asked b n) payer (left - 1) (a, m)
  asked-last l = again-last (asked b n) payer left (a, m) l e

pub asked-limit : (b : Bool) (n : ℕ) (a : Account) (m : Meter) {j : Judged} {w : ℕ} → j ≡ judged b (pay n a m) → m.limit ≡ w
    → j.meter.limit ≡ w
asked-limit b n a m e l = ap (λ (x : Judged). x.meter.limit) e ∙ judged-limit b n a m ∙ l

-- the next meter keeps the limit too
pub next-limit : {k m : Meter} {w : ℕ} → k ≡ m → m.limit ≡ w → k.limit ≡ w
next-limit g l = ap (λ (x : Meter). x.limit) g ∙ l

-- prepare, with the slot besides
module _ (r : Row) (left : ℕ) (a : Account) (m : Meter) (s : List ℕ) {j : Judged} {t : List ℕ}
    (e : prepared j t ≡ prepare_once r (a, m, s)) where
  pub prepare-more : {c : Account} {k : Meter} → 1 < left → c ≡ j.account → k ≡ j.meter
      → again (prepare_once r) preparer (left - 1 - 1) (c, k, t) ≡ again (prepare_once r) preparer (left - 1) (a, m, s)
  prepare-more l f g =
      ap₂ (λ (x : Account) (y : Meter). again (prepare_once r) preparer (left - 1 - 1) (x, y, t)) f g
      ∙ again-more (prepare_once r) preparer left (a, m, s) l e

  pub prepare-last : left ≤ 1 → prepared j t ≡ again (prepare_once r) preparer (left - 1) (a, m, s)
  prepare-last l = again-last (prepare_once r) preparer left (a, m, s) l e

  pub prepare-judged : j ≡ judged true (pay (prepare_reads r) a m)
  prepare-judged = ap (λ (x : Prepared). x.judged) e

-- a deduction
module _ (q : Region) (r : Row) (left : ℕ) (m : Meter) {d : Walked Deduction} (e : d ≡ deduce_once q r m) where
  pub deduce-more : {k : Meter} → 1 < left → k ≡ meter_after d
      → again (deduce_once q r) meter_after (left - 1 - 1) k ≡ again (deduce_once q r) meter_after (left - 1) m
  deduce-more l g =
      ap (again (deduce_once q r) meter_after (left - 1 - 1)) g ∙ again-more (deduce_once q r) meter_after left m l e

  pub deduce-last : left ≤ 1 → d ≡ again (deduce_once q r) meter_after (left - 1) m
  deduce-last l = again-last (deduce_once q r) meter_after left m l e

  pub deduce-limit : {w : ℕ} → m.limit ≡ w → (meter_after d).limit ≡ w
  deduce-limit l =
      ap (λ (x : Walked Deduction). (meter_after x).limit) e ∙ go (ticks (deduction_ticks q r) m) (ticks-limit (deduction_ticks q r) m) ∙ l
    where
      go : (t : Tick) → TickLimit m.limit t → (meter_after (once (deduction q r) t)).limit ≡ m.limit
      go (Ticked k) h = h
      go (Stopped k) h = h

-- the meter after a deduction, whatever it was
pub meter-walked : (x : Result Deduction error.Stopped) (m : Meter) → meter_after (walked x m) ≡ m
meter-walked (Ok d) m = refl
meter-walked (Err e) m = refl
