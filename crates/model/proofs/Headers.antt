-- Headers as the code makes them, `Header { field, ..h }`, and the changes of the definitions that these are. Assumes nothing.
-- A field more in a header changes Records, this file, and the words of crate wire.
use mathlib.Core.Path.{◌≡◌, refl, ap}
use mathlib.Core.Bool.{true}
use Prim.Native.Nat.{ℕ, ◌+◌}
use native.Mathlib.Numerals.{add-one}
use Rattle.meter.specs.declared.Capture.{Capture}
use Rattle.meter.specs.declared.Sharing.{Sharing}
use Rattle.meter.specs.declared.Account.TheVariants.{Remaining, Share}
use Rattle.model.specs.declared.Header.{Header}
use Rattle.model.specs.Records.{header, saturating_add, attempted, with_account, with_seeded, with_deliveries, with_counts, with_added}

module _ (h : Header) where
  open h use {limits, number, rows, born, epoch, attempts, remaining, sharing}
  open h use {evicted, deliveries, seeded, founded, stale, full, mark}

  -- ---- one field set
  abbrev pub set_attempts : ℕ → Header
  set_attempts n = header limits number rows born epoch n remaining sharing evicted deliveries seeded founded stale full mark

  abbrev pub set_remaining : Capture → Header
  set_remaining c = header limits number rows born epoch attempts c sharing evicted deliveries seeded founded stale full mark

  abbrev pub set_sharing : Sharing → Header
  set_sharing c = header limits number rows born epoch attempts remaining c evicted deliveries seeded founded stale full mark

  abbrev pub set_deliveries : ℕ → Header
  set_deliveries n = header limits number rows born epoch attempts remaining sharing evicted n seeded founded stale full mark

  abbrev pub set_seeded : ℕ → Header
  set_seeded n = header limits number rows born epoch attempts remaining sharing evicted deliveries n founded stale full mark

  -- a row was added: rows, born, epoch, evicted, founded; stale and full
  abbrev pub set_added : ℕ → ℕ → ℕ → ℕ → ℕ → Header
  set_added n b e v k = header limits number n b e attempts remaining sharing v deliveries seeded k true true mark

  -- ---- what they are
  pub attempts-in : set_attempts (attempts + 1) ≡ attempted h
  unfolding attempted
  attempts-in = ap set_attempts (add-one attempts)

  pub remaining-in : (c : Capture) → set_remaining c ≡ with_account h (Remaining c)
  unfolding with_account
  remaining-in c = refl

  pub sharing-in : (c : Sharing) → set_sharing c ≡ with_account h (Share c)
  unfolding with_account
  sharing-in c = refl

  pub deliveries-in : {n : ℕ} (k : ℕ) → n ≡ saturating_add deliveries k → set_deliveries n ≡ with_deliveries h k
  unfolding with_deliveries
  deliveries-in k e = ap set_deliveries e

  pub seeded-in : {n : ℕ} (k : ℕ) → n ≡ saturating_add seeded k → set_seeded n ≡ with_seeded h k
  unfolding with_seeded
  seeded-in k e = ap set_seeded e

  pub added-in : {b : ℕ} (n e v k : ℕ) → b ≡ saturating_add born 1 → set_added n b e v k ≡ with_counts (with_added h e v) n k
  unfolding with_counts with_added
  added-in n e v k b = ap (λ (x : ℕ). set_added n x e v k) b
