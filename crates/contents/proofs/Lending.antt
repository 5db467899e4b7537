-- Words that stand are those of the ledger that is read from them. Assumes nothing.
use mathlib.Core.Path.{◌≡◌, sym, ap₂, ◌∙◌}
use mathlib.Core.List.{List, map}
use Prim.Native.Nat.{ℕ}
use lib.ListN.{length}
use Rattle.model.specs.declared.Header.{Header}
use Rattle.model.specs.Records.{Entry, rows_of, with_counts, founded_rows}
use Rattle.model.specs.Slots.{slots_of, entries_in}
use Rattle.model.specs.Postings.{filed}
use Rattle.model.specs.Refusals.{ledger_in, lent_of}
use Rattle.model.proofs.Slots.{entries-length}
use Rattle.slots.specs.Layout.{rows_in}
use Rattle.slots.specs.Standing.{Stands}
use Rattle.slots.proofs.Holding.{stands-laying}
use Rattle.contents.specs.Lent.{lent}
use Rattle.contents.specs.Accepted.{Accepted}

-- entries as many as the header says, laid out and filed
pub lent-entries : (h : Header) (es : List Entry) → length es ≡ h.rows → founded_rows es ≡ h.founded →
    lent h (slots_of h.limits.tier_rows es) (filed h.limits.tier_rows h.stale (map (λ e. e.row) es))
    ≡ lent_of (record { header = h; entries = es })
unfolding lent_of with_counts rows_of
lent-entries h es e f =
    ap₂ (λ (n k : ℕ). lent (with_counts h n k) (slots_of h.limits.tier_rows es)
    (filed h.limits.tier_rows h.stale (map (λ e. e.row) es))) (sym e) (sym f)

pub stands-lent : (h : Header) (slots postings : List ℕ) → Stands h slots postings → h.founded ≡ founded_rows (entries_in h.rows slots)
    → lent h slots postings ≡ lent_of (ledger_in (lent h slots postings))
unfolding ledger_in rows_in
stands-lent h slots postings s f =
    ap₂ (λ (x y : List ℕ). lent h x y) (stands-laying s) s.filing
    ∙ lent-entries h (entries_in h.rows slots) (entries-length h.rows slots) (sym f)

pub accepted-lent : (h : Header) (slots postings : List ℕ) → Accepted h slots postings
    → lent h slots postings ≡ lent_of (ledger_in (lent h slots postings))
accepted-lent h slots postings a = stands-lent h slots postings a.stands a.founded
