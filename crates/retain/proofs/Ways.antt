-- `place` by the kind of place. Assumes nothing.
use mathlib.Core.Path.{◌≡◌, sym, ap, ap₂, ◌∙◌, subst}
use mathlib.Core.Bool.{Bool}
use mathlib.Core.List.{List, [], ◌∷◌}
use Prim.Native.Nat.{ℕ, ◌+◌, ◌*◌, ◌≤◌, ◌<◌}
use native.Mathlib.Omega.{arith}
use lib.ListN.{length, set, length-append, length-set}
use Rattle.words.specs.Literal.{code_bits}
use Rattle.words.specs.Region.{max_atoms}
use Rattle.words.proofs.Widths.{most-coded}
use Rattle.model.specs.declared.Source.{Source}
use Rattle.model.specs.Records.{Entry, is_row, slot_words}
use Rattle.model.specs.Slots.{slots_of, row_in, entries_in}
use Rattle.slots.specs.Layout.{tier_of, Held}
use Rattle.slots.proofs.Holding.{AllRows, tier-laid, entries-laid, held-laid, held_rows, held-few}
use Rattle.tier.specs.Tier.{closed_up}
use Rattle.model.proofs.Slots.{entries-length}
use Rattle.row_write.specs.Forms.{new_entry}
use Rattle.retain.specs.declared.Room.{Room}
use Rattle.retain.specs.declared.Room.TheVariants.{After, First, Victim}
use Rattle.retain.specs.Places.{placed_by, Fits, Placing, slot_put}
use Rattle.retain.proofs.Placing.{all_placed, put-held, put-after}

module _ (room : Room) (rows : ℕ) (slots p : List ℕ) (k : Placing room rows slots p) where
  fits-as : {r : Room} → room ≡ r → Fits r rows (tier_of slots)
  fits-as e = subst (λ (r : Room). Fits r rows (tier_of slots)) e k.fits

  pub after-inside : room ≡ After → slot_words * rows + slot_words ≤ length slots
  after-inside e = let l : rows < tier_of slots = fits-as e in omega arith

  pub first-inside : (t : ℕ) → room ≡ First t → slot_words * t + slot_words ≤ length slots
  first-inside t e = let l : t < rows = fits-as e in let f = k.held.over.long in omega arith

  pub victim-inside : (v : ℕ) → room ≡ Victim v → slot_words * v + slot_words ≤ length slots
  victim-inside v e = let l : v < rows = fits-as e in let f = k.held.over.long in omega arith

  pub first-before : (t : ℕ) → room ≡ First t → t < rows
  first-before t e = fits-as e

  module _ (f : ℕ → Bool) (hits born : ℕ) (source : Source) where
    abbrev e : Entry
    e = new_entry (row_in p) hits born source

    abbrev es : List Entry
    es = entries_in rows slots

    abbrev tier : ℕ
    tier = tier_of slots

    -- the words, and how many rows there are
    abbrev Placed : Room → List ℕ → ℕ → Type 0
    Placed r after n = (after ≡ slots_of tier (placed_by r f es e)) × (n ≡ length (placed_by r f es e))

    as-placed : {r : Room} (after : List ℕ) (n : ℕ) → room ≡ r → Placed r after n → Placed room after n
    as-placed after n q h = subst (λ (r : Room). Placed r after n) (sym q) h

    count : length es ≡ rows
    count = entries-length rows slots

    pub place_after : (after : List ℕ) → room ≡ After → after ≡ slot_put rows e slots → Placed room after (rows + 1)
    place_after after q h =
        let a = length-append es (e ∷ []) in
        let c = count in
        as-placed after (rows + 1) q (h ∙ put-after rows slots k.held e k.row (fits-as q), omega arith)

    pub place-victim : (v : ℕ) (after : List ℕ) → room ≡ Victim v → after ≡ slot_put v e slots → Placed room after rows
    place-victim v after q h =
        as-placed after rows q (h ∙ put-held rows slots k.held e k.row v (fits-as q), sym (length-set es v e ∙ count))

    -- the first replaced row is overwritten, then the later ones close up
    module _ (t : ℕ) (q : room ≡ First t) (mid : List ℕ) (h : mid ≡ slot_put t e slots) where
      written : mid ≡ slots_of tier (set es t e)
      written = h ∙ put-held rows slots k.held e k.row t (fits-as q)

      fine : AllRows max_atoms (set es t e)
      fine = all_placed (λ x. is_row max_atoms x.row) (Victim t) f es e (held_rows rows slots k.held) k.row

      few : length (set es t e) ≤ tier
      few = let a = length-set es t e in let b = held-few rows slots k.held in let c = count in omega arith

      as_many : rows ≡ length (set es t e)
      as_many = sym (length-set es t e ∙ count)

      pub first-held : Held max_atoms rows mid
      first-held =
          subst (Held max_atoms rows) (sym written)
          (held-laid max_atoms tier (set es t e) fine few rows as_many code_bits most-coded k.held.most)

      entries-now : entries_in rows mid ≡ set es t e
      entries-now = ap (entries_in rows) written ∙ entries-laid max_atoms tier (set es t e) fine few rows as_many

      tier-now : tier_of mid ≡ tier
      tier-now = ap tier_of written ∙ tier-laid max_atoms tier (set es t e) fine few

      pub place-first : (after : List ℕ) (n : ℕ)
          → (after ≡ slots_of (tier_of mid) (closed_up f t (entries_in rows mid))) × (n ≡ length (closed_up f t (entries_in rows mid)))
          → Placed room after n
      place-first after n c =
          as-placed after n q (
            c.0 ∙ ap₂ (λ (x : ℕ) (y : List Entry). slots_of x (closed_up f t y)) tier-now entries-now,
            c.1 ∙ ap (λ (y : List Entry). length (closed_up f t y)) entries-now,
          )
