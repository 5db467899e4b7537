-- 01, module 5: 'Every tier_rows additions all hits are halved.' The words of the settled ledger. Assumes nothing.
use mathlib.Core.Path.{◌≡◌, sym, ap, ap₂, ◌∙◌}
use mathlib.Core.Bool.{Bool, true, false}
use mathlib.Core.List.{List, [], map}
use Prim.Native.Nat.{ℕ, suc, ◌+◌, ◌-◌, ◌*◌, ◌≤◌, ◌<◌}
use native.Mathlib.Numerals.{add-one}
use native.Mathlib.Omega.{arith}
use lib.Dec.{leb}
use lib.ListN.{length}
use borrow.Author.Tests.{le-leb, lt-leb}
use Rattle.lists.specs.Lists.{pad, zeroed}
use Rattle.lists.proofs.Pads.{pad-zeroed}
use Rattle.model.specs.declared.Header.{Header}
use Rattle.model.specs.Records.{Row, Entry, Ledger, saturating_add, rows_of, with_counts, with_added, founded_rows, posting_words}
use Rattle.model.specs.Slots.{slots_of}
use Rattle.model.specs.Postings.{filed}
use Rattle.model.specs.Retention.{halved, settle}
use Rattle.model.specs.Refusals.{lent_of}
use Rattle.model.proofs.Entries.{halved-length, founded-halved}
use Rattle.model.proofs.Headers.{set_added, added-in}
use Rattle.contents.specs.Lent.{lent}

-- stale postings are zeros
filed-stale : (tier : ℕ) (rs : List Row) (postings : List ℕ) → length postings ≡ posting_words * tier → zeroed postings ≡ filed tier true rs
unfolding filed
filed-stale tier rs postings e = sym (pad-zeroed postings) ∙ ap (λ (n : ℕ). pad n []) e

module _ (h : Header) (rows evicted founded : ℕ) (postings : List ℕ) (wide : length postings ≡ posting_words * h.limits.tier_rows) where
  -- the header that the code makes, at the epoch e
  abbrev after : ℕ → ℕ → Header
  after e born = set_added h rows born e evicted founded

  laid_out : (e born : ℕ) (es : List Entry) → born ≡ saturating_add h.born 1 → length es ≡ rows → founded_rows es ≡ founded
      → lent (after e born) (slots_of h.limits.tier_rows es) (zeroed postings)
      ≡ lent_of (record { header = with_added h e evicted; entries = es })
  unfolding lent_of with_added rows_of
  laid_out e born es b n k =
      ap₂ (λ (x : Header) (y : List ℕ). lent x (slots_of h.limits.tier_rows es) y)
      (added-in h rows e evicted founded b ∙ ap₂ (with_counts (with_added h e evicted)) (sym n) (sym k))
      (filed-stale h.limits.tier_rows (map (λ x. x.row) es) postings wide)

  module _ (es : List Entry) (n : length es ≡ rows) (k : founded_rows es ≡ founded) (born : ℕ) (b : born ≡ saturating_add h.born 1)
      (some : 1 ≤ h.limits.tier_rows) where
    abbrev chosen : Bool → Ledger
    chosen c =
        elim c as (λ k. Ledger) [
          | true ↦ record { header = with_added h 0 evicted; entries = halved es }
          | false ↦ record { header = with_added h (suc h.epoch) evicted; entries = es }
        ]

    settled : {c : Bool} → leb h.limits.tier_rows (suc h.epoch) ≡ c → chosen c ≡ settle h es evicted
    unfolding settle
    settled e = ap chosen (sym e)

    -- the epoch is over
    pub settle-over : h.limits.tier_rows - 1 ≤ h.epoch → {slots ps : List ℕ} → slots ≡ slots_of h.limits.tier_rows (halved es)
        → ps ≡ zeroed postings
        → lent (after 0 born) slots ps ≡ lent_of (settle h es evicted)
    settle-over l e q =
        ap₂ (λ (w z : List ℕ). lent (after 0 born) w z) e q ∙ laid_out 0 born (halved es) b (halved-length es ∙ n) (founded-halved es ∙ k)
        ∙ ap lent_of (settled (le-leb h.limits.tier_rows (suc h.epoch) (omega arith)))

    -- it goes on
    pub settle-on : h.epoch < h.limits.tier_rows - 1 → {slots ps : List ℕ} → slots ≡ slots_of h.limits.tier_rows es
        → ps ≡ zeroed postings
        → lent (after (h.epoch + 1) born) slots ps ≡ lent_of (settle h es evicted)
    settle-on l e q =
        ap₂ (λ (w z : List ℕ). lent (after (h.epoch + 1) born) w z) e q
        ∙ ap (λ (j : ℕ). lent (after j born) (slots_of h.limits.tier_rows es) (zeroed postings)) (add-one h.epoch)
        ∙ laid_out (suc h.epoch) born es b n k
        ∙ ap lent_of (settled (lt-leb h.limits.tier_rows (suc h.epoch) (omega arith)))
