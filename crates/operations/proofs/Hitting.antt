-- Hit, by the ways that it ends. Assumes nothing.
use mathlib.Core.Path.{◌≡◌, refl, sym, ap, ap₂, ◌∙◌}
use mathlib.Core.Bool.{true}
use mathlib.Core.List.{List, [], ◌∷◌}
use mathlib.Core.Option.{none, some}
use Prim.Native.Nat.{ℕ, ◌<◌}
use Rattle.lists.specs.Lists.{adjust}
use Rattle.lists.proofs.Selects.{length-adjust, map-adjust}
use Rattle.model.specs.declared.Header.{Header}
use Rattle.std.specs.Prelude.{Ok, Err}
use Rattle.model.specs.declared.Refusal.{Refusal}
use Rattle.model.specs.Answers.{number_of}
use Rattle.model.specs.Records.{hit_entry}
use Rattle.model.specs.Slots.{slots_of, entries_in}
use Rattle.model.specs.Postings.{filed}
use Rattle.model.specs.Closing.{hit_at}
use Rattle.model.specs.Refusals.{Lent, refusal, accepts, ledger_in, lent_of}
use Rattle.model.specs.Answers.{hit_reply}
use Rattle.model.specs.Operations.{hit, position_ok}
use Rattle.slots.specs.Layout.{rows_in}
use Rattle.slots.proofs.Holding.{stands-tier}
use Rattle.contents.specs.Lent.{lent}
use Rattle.contents.specs.Accepted.{Accepted}
use Rattle.model.proofs.Slots.{entries-length}
use Rattle.model.proofs.Entries.{founded-hit}
use Rattle.contents.proofs.Accepting.{accepted}
use Rattle.tier.specs.Tier.{hit_words}
use Rattle.tier.proofs.Buffer.{hit-held}
use Rattle.operations.specs.Ends.{hit_end}
use Rattle.contents.proofs.Lending.{lent-entries}

module _ (h : Header) (slots postings : List ℕ) (p : ℕ) where
  pub hit-refused : (r : Refusal) → refusal (accepts (lent h slots postings) true ((position_ok (lent h slots postings) p, 5) ∷ [])) ≡ some (number_of r) →
      hit_end (record { answer = Err r; header = h; ticks = 0 }) slots postings ≡ hit (lent h slots postings) p
  unfolding hit
  hit-refused r e = rw (e, hit)

  -- a hit changes two words of one slot, and no row
  hit-lent : Accepted h slots postings → p < h.rows
      → lent h (hit_words p slots) postings ≡ lent_of (hit_at p (ledger_in (lent h slots postings)))
  unfolding hit_at ledger_in rows_in hit_entry
  hit-lent a l =
      let es = entries_in h.rows slots in
      ap₂ (λ (x y : List ℕ). lent h x y)
      (hit-held h.rows p slots a.stands.held l
      ∙ ap (λ (t : ℕ). slots_of t (adjust hit_entry p es)) (stands-tier a.stands))
      (a.stands.filing ∙ ap (filed h.limits.tier_rows h.stale) (sym (map-adjust hit_entry (λ e. e.row) p es (λ e. refl))))
      ∙ lent-entries h (adjust hit_entry p es) (length-adjust hit_entry p es ∙ entries-length h.rows slots)
      (founded-hit p es ∙ sym a.founded)

  pub hit-done : refusal (accepts (lent h slots postings) true ((position_ok (lent h slots postings) p, 5) ∷ [])) ≡ none → p < h.rows →
      hit_end (record { answer = Ok tt; header = h; ticks = 0 }) (hit_words p slots) postings ≡ hit (lent h slots postings) p
  unfolding hit
  hit-done e l =
      rw (e, hit)
      (ap (λ (x : Lent). record { answer = hit_reply tt; ledger = x; ticks = 0 }) (hit-lent (accepted h slots postings true _ e) l))
