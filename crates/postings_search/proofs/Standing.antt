-- A ledger whose postings were filed anew is what it is read as. Assumes nothing.
use mathlib.Core.Path.{◌≡◌, sym, ap, ◌∙◌}
use mathlib.Core.List.{List}
use Prim.Native.Nat.{ℕ}
use Rattle.model.specs.declared.Header.{Header}
use Rattle.model.specs.Records.{founded_rows}
use Rattle.model.specs.Slots.{entries_in}
use Rattle.model.specs.Postings.{filed}
use Rattle.model.specs.Refusals.{ledger_in, lent_of}
use Rattle.slots.specs.Layout.{rows_in}
use Rattle.contents.specs.Lent.{lent}
use Rattle.contents.specs.Accepted.{Accepted}
use Rattle.contents.proofs.Lending.{stands-lent}
use Rattle.slots.proofs.Holding.{stands-under}

module _ (h : Header) (slots words : List ℕ) (a : Accepted h slots words) where
  -- under a header k with the same limits and rows, and with the postings that it asks for
  pub lent-under : (k : Header) (ps : List ℕ) → k.limits ≡ h.limits → k.rows ≡ h.rows → k.founded ≡ h.founded →
      ps ≡ filed h.limits.tier_rows k.stale (rows_in h.rows slots) →
      lent k slots ps ≡ lent_of (record { header = k; entries = entries_in h.rows slots })
  unfolding ledger_in
  lent-under k ps l r c p =
      stands-lent k slots ps (stands-under h k slots words ps a.stands l r p)
      (c ∙ a.founded ∙ ap (λ (n : ℕ). founded_rows (entries_in n slots)) (sym r))
      ∙ ap (λ (n : ℕ). lent_of (record { header = k; entries = entries_in n slots })) r
