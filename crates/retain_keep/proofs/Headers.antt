-- Changes of a header that leave its limits and what the words say. Assumes nothing.
use mathlib.Core.Path.{◌≡◌, refl, sym, ap, ap₂, ◌∙◌}
use mathlib.Core.Bool.{Bool}
use mathlib.Core.List.{List}
use Prim.Native.Nat.{ℕ}
use lib.ListN.{length}
use Rattle.meter.specs.declared.Account.{Account}
use Rattle.model.specs.declared.LearningLimits.{LearningLimits}
use Rattle.model.specs.declared.Header.{Header}
use Rattle.model.specs.Records.{Ledger, rows_of, with_counts, founded_rows, with_account, with_mark, with_seeded, with_deliveries}
use Rattle.model.specs.Slots.{slots_of}
use Rattle.model.specs.Postings.{filed}
use Rattle.model.specs.Refusals.{Lent, lent_of}
use Rattle.contents.specs.Lent.{lent}

module _ (f : Header → Header) (limits : (h : Header) → (f h).limits ≡ h.limits) (stale : (h : Header) → (f h).stale ≡ h.stale)
    (counts : (h : Header) (n k : ℕ) → f (with_counts h n k) ≡ with_counts (f h) n k) where
  changed-lent : (k : Header) (ws ps : List ℕ) (l : Ledger) → lent k ws ps ≡ lent_of l
      → lent (f k) ws ps ≡ lent_of (record { header = f l.header; entries = l.entries })
  unfolding lent_of rows_of
  changed-lent k ws ps l e =
      let h : Header = l.header in
      ap (λ (x : Lent). lent (f x.header) x.slots x.postings) e
      ∙ ap (λ (x : Header). lent x (lent_of l).slots (lent_of l).postings) (counts h (length l.entries) (founded_rows l.entries))
      ∙ ap₂ (λ (x : LearningLimits) (y : Bool). lent (with_counts (f h) (length l.entries) (founded_rows l.entries))
      (slots_of x.tier_rows l.entries) (filed x.tier_rows y (rows_of l))) (sym (limits h)) (sym (stale h))

module _ (k : Header) (ws ps : List ℕ) (l : Ledger) (e : lent k ws ps ≡ lent_of l) where
  pub account-lent : (a : Account)
      → lent (with_account k a) ws ps ≡ lent_of (record { header = with_account l.header a; entries = l.entries })
  unfolding with_account with_counts
  account-lent a = changed-lent (λ h. with_account h a) (λ h. refl) (λ h. refl) (λ h n i. refl) k ws ps l e

  pub mark-lent : (n b : ℕ) → lent (with_mark k n b) ws ps ≡ lent_of (record { header = with_mark l.header n b; entries = l.entries })
  unfolding with_mark with_counts
  mark-lent n b = changed-lent (λ h. with_mark h n b) (λ h. refl) (λ h. refl) (λ h i j. refl) k ws ps l e

  pub seeded-lent : (n : ℕ) → lent (with_seeded k n) ws ps ≡ lent_of (record { header = with_seeded l.header n; entries = l.entries })
  unfolding with_seeded with_counts
  seeded-lent n = changed-lent (λ h. with_seeded h n) (λ h. refl) (λ h. refl) (λ h i j. refl) k ws ps l e

  pub deliveries-lent : (n : ℕ)
      → lent (with_deliveries k n) ws ps ≡ lent_of (record { header = with_deliveries l.header n; entries = l.entries })
  unfolding with_deliveries with_counts
  deliveries-lent n = changed-lent (λ h. with_deliveries h n) (λ h. refl) (λ h. refl) (λ h i j. refl) k ws ps l e
