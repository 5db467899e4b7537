-- Hits halved one position after another. Assumes nothing.
use mathlib.Core.Path.{◌≡◌, refl, sym, ap, ◌∙◌, subst}
use mathlib.Core.List.{List, [], ◌∷◌}
use Prim.Native.Nat.{ℕ, zero, suc, ◌+◌, ◌*◌, ◌/◌, ◌≤◌, ◌<◌}
use native.Mathlib.Numerals.{add-one}
use native.Mathlib.Omega.{arith}
use lib.ListN.{length, get_or, set}
use Rattle.lists.specs.Lists.{adjust}
use Rattle.model.specs.Records.{Entry, with_hits, slot_words, hits_at}
use Rattle.model.specs.Slots.{slots_of, entries_in}
use Rattle.model.specs.Retention.{halved}
use Rattle.model.proofs.Slots.{AllValid, entries-length}
use Rattle.slots.specs.Layout.{tier_of, Held}
use Rattle.slots.proofs.Holding.{no-entry, holding}
use Rattle.tier.proofs.Buffer.{word-hits, hits-set}
use Rattle.model.proofs.Accepting.{slots_length}

-- the first n halved
unfoldable pub halved_to : ℕ → List Entry → List Entry
halved_to zero es = es
halved_to (suc n) [] = []
halved_to (suc n) (e ∷ es) = with_hits e (e.hits / 2) ∷ halved_to n es

half-next : (i : ℕ) (es : List Entry) → i < length es
    → adjust (λ e. with_hits e ((get_or es i no-entry).hits / 2)) i (halved_to i es) ≡ halved_to (suc i) es
unfolding adjust halved_to
half-next i [] h = absurd (omega arith)
half-next zero (e ∷ es) h = refl
half-next (suc i) (e ∷ es) h = ap (λ (l : List Entry). with_hits e (e.hits / 2) ∷ l) (half-next i es (omega arith))

half-get : (i : ℕ) (es : List Entry) → get_or (halved_to i es) i no-entry ≡ get_or es i no-entry
unfolding halved_to
half-get zero es = refl
half-get (suc i) [] = refl
half-get (suc i) (e ∷ es) = half-get i es

half-valid : (i : ℕ) (es : List Entry) → AllValid es → AllValid (halved_to i es)
unfolding halved_to with_hits
half-valid zero es v = v
half-valid (suc i) [] v = tt
half-valid (suc i) (e ∷ es) v = (v.0, half-valid i es v.1)

half_length : (i : ℕ) (es : List Entry) → length (halved_to i es) ≡ length es
unfolding halved_to
half_length zero es = refl
half_length (suc i) [] = refl
half_length (suc i) (e ∷ es) = ap suc (half_length i es)

half-all : (es : List Entry) → halved_to (length es) es ≡ halved es
unfolding halved_to halved
half-all [] = refl
half-all (e ∷ es) = ap (λ (l : List Entry). with_hits e (e.hits / 2) ∷ l) (half-all es)

module _ {atoms : ℕ} (rows : ℕ) (ws : List ℕ) (k : Held atoms rows ws) where
  pub halve-start : ws ≡ slots_of (tier_of ws) (halved_to 0 (entries_in rows ws))
  unfolding halved_to
  halve-start = sym k.same

  pub halve-step : (i : ℕ) (now : List ℕ) → i < rows → now ≡ slots_of (tier_of ws) (halved_to i (entries_in rows ws))
      → set now (slot_words * i + hits_at) (get_or now (slot_words * i + hits_at) 0 / 2)
      ≡ slots_of (tier_of ws) (halved_to (i + 1) (entries_in rows ws))
  halve-step i now l e =
      let f = holding rows ws k in
      let es = entries_in rows ws in
      let at : i < length es = subst (λ (n : ℕ). i < n) (sym (entries-length rows ws)) l in
      let v = half-valid i es f.valid in
      let h : i < length (halved_to i es) = subst (λ (n : ℕ). i < n) (sym (half_length i es)) at in
      let r : length (halved_to i es) ≤ tier_of ws = subst (λ (n : ℕ). n ≤ tier_of ws) (sym (half_length i es)) f.room in
      ap (λ (w : List ℕ). set w (slot_words * i + hits_at) (get_or w (slot_words * i + hits_at) 0 / 2)) e
      ∙ ap (λ (n : ℕ). set (slots_of (tier_of ws) (halved_to i es)) (slot_words * i + hits_at) (n / 2))
      (word-hits (tier_of ws) i (halved_to i es) v h r ∙ ap (λ (x : Entry). x.hits) (half-get i es))
      ∙ hits-set (tier_of ws) i (halved_to i es) v h r ((get_or es i no-entry).hits / 2)
      ∙ ap (slots_of (tier_of ws)) (half-next i es at ∙ ap (λ (n : ℕ). halved_to n es) (sym (add-one i)))

  pub halve-length : (i : ℕ) → length (slots_of (tier_of ws) (halved_to i (entries_in rows ws))) ≡ length ws
  halve-length i =
      let f = holding rows ws k in
      slots_length (tier_of ws) (halved_to i (entries_in rows ws)) (half-valid i (entries_in rows ws) f.valid)
      (subst (λ (n : ℕ). n ≤ tier_of ws) (sym (half_length i (entries_in rows ws))) f.room)
      ∙ sym f.long

  pub halve-end : (i : ℕ) → i ≡ rows
      → slots_of (tier_of ws) (halved_to i (entries_in rows ws)) ≡ slots_of (tier_of ws) (halved (entries_in rows ws))
  halve-end i e =
      ap (slots_of (tier_of ws)) (ap (λ (n : ℕ). halved_to n (entries_in rows ws)) (e ∙ sym (entries-length rows ws))
      ∙ half-all (entries_in rows ws))
