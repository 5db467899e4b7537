-- A change of one entry that leaves its row, its birth and its source. Assumes nothing.
use mathlib.Core.Path.{◌≡◌, sym, ap₂, ◌∙◌, subst}
use mathlib.Core.Bool.{◌&&◌}
use mathlib.Core.List.{List}
use Prim.Native.Nat.{ℕ, ◌≤◌}
use lib.Dec.{leb}
use Rattle.lists.specs.Lists.{adjust}
use Rattle.lists.proofs.Selects.{length-adjust, map-adjust}
use Rattle.model.specs.Records.{Row, Entry, Ledger, is_row, rows_of, with_counts}
use Rattle.model.specs.Slots.{slots_of}
use Rattle.model.specs.Postings.{filed}
use Rattle.model.specs.Transfers.{change_at}
use Rattle.model.specs.Refusals.{entry_ok, lent_of}
use Rattle.model.proofs.Entries.{founded-adjust}
use Rattle.contents.specs.Lent.{lent}
use Rattle.tier.proofs.Buffer.{all-adjust}
use Rattle.retain_keep.specs.Good.{Good}

module _ (f : Entry → Entry) (row : (e : Entry) → (f e).row ≡ e.row) (born : (e : Entry) → (f e).born ≡ e.born)
    (source : (e : Entry) → (f e).source ≡ e.source) (p : ℕ) (l : Ledger) where
  ok_same : (e : Entry) → entry_ok l.header (f e) ≡ entry_ok l.header e
  unfolding entry_ok
  ok_same e = ap₂ (λ (r : Row) (b : ℕ). is_row l.header.limits.atoms r && (leb 1 b && leb b l.header.born)) (row e) (born e)

  pub change-good : Good l → Good (change_at p f l)
  unfolding change_at
  change-good g = record {
    limits = g.limits;
    few = subst (λ (n : ℕ). n ≤ l.header.limits.tier_rows) (sym (length-adjust f p l.entries)) g.few;
    epoch = g.epoch;
    attempts = g.attempts;
    born = g.born;
    entries = all-adjust (entry_ok l.header) f p l.entries ok_same ∙ g.entries;
  }

  pub change-lent : lent (lent_of l).header (slots_of l.header.limits.tier_rows (adjust f p l.entries)) (lent_of l).postings
      ≡ lent_of (change_at p f l)
  unfolding lent_of change_at rows_of
  change-lent =
      ap₂ (λ (n : ℕ × ℕ) (rs : List Row). lent (with_counts l.header n.0 n.1)
      (slots_of l.header.limits.tier_rows (adjust f p l.entries))
      (filed l.header.limits.tier_rows l.header.stale rs))
      (ap₂ (λ (n k : ℕ). (n, k)) (sym (length-adjust f p l.entries)) (sym (founded-adjust f source p l.entries)))
      (sym (map-adjust f (λ e. e.row) p l.entries row))
