-- 01, module 5: 'A new row is written into its own slot alone; with replaced rows, the first is overwritten and the later ones close up.'
-- The words of the tier after it. Assumes nothing.
use mathlib.Core.Path.{◌≡◌, refl, sym, ap, ap₂, ◌∙◌}
use mathlib.Core.Bool.{Bool, true, false, ◌&&◌}
use mathlib.Core.List.{List, [], ◌∷◌, ◌++◌, map}
use Prim.Native.Nat.{ℕ, zero, suc, ◌+◌, ◌-◌, ◌*◌, ◌≤◌, ◌<◌}
use native.Mathlib.Omega.{arith}
use lib.ListN.{length, set, take, drop, replicate, length-append, length-take, length-drop, length-set}
use lib.Seq.{drop-drop}
use Rattle.lists.specs.Lists.{all, concat, pad}
use Rattle.lists.proofs.Tests.{all_append}
use Rattle.lists.proofs.Concats.{Blocks, length-blocks, block_more}
use Rattle.lists.proofs.Pads.{drop-zeros}
use Rattle.lists.proofs.Bools.{T_of, and_both, and_yes}
use Rattle.words.specs.Region.{max_atoms}
use Rattle.model.specs.Records.{Entry, is_row, slot_words}
use Rattle.model.specs.Slots.{slot_of, slots_of, entries_in}
use Rattle.model.proofs.Slots.{Valid, valid-of, entries-length}
use Rattle.model.proofs.Entries.{all_valid}
use Rattle.slots.specs.Layout.{tier_of, Held}
use Rattle.slots.proofs.Holding.{valid-blocks, held_rows, holding}
use Rattle.tier.specs.Tier.{kept_by, closed_up}
use Rattle.tier.proofs.Buffer.{put-slot}
use Rattle.retain_keep.proofs.Placing.{set_all}
use Rattle.retain.specs.declared.Room.{Room}
use Rattle.retain.specs.declared.Room.TheVariants.{After, First, Victim}
use Rattle.retain.specs.Places.{placed_by, Fits, slot_put}

-- ---- what holds of every entry, after a change
module _ (g : Entry → Bool) where
  all_take : (n : ℕ) (es : List Entry) → all g es ≡ true → all g (take n es) ≡ true
  unfolding all
  all_take zero es a = refl
  all_take (suc n) [] a = refl
  all_take (suc n) (x ∷ es) a = let s = and_both (g x) (all g es) a in and_yes (g x) (all g (take n es)) s.0 (all_take n es s.1)

  all_drop : (n : ℕ) (es : List Entry) → all g es ≡ true → all g (drop n es) ≡ true
  unfolding all
  all_drop zero es a = a
  all_drop (suc n) [] a = a
  all_drop (suc n) (x ∷ es) a = all_drop n es (and_both (g x) (all g es) a).1

  all-kept : (f : ℕ → Bool) (i : ℕ) (es : List Entry) → all g es ≡ true → all g (kept_by f i es) ≡ true
  unfolding all kept_by
  all-kept f i [] a = refl
  all-kept f i (x ∷ es) a = go (f i) (and_both (g x) (all g es) a).0 (all-kept f (suc i) es (and_both (g x) (all g es) a).1)
    where
      go : (b : Bool) → g x ≡ true → all g (kept_by f (suc i) es) ≡ true
          → all g (elim b as (λ k. List Entry) [ true ↦ kept_by f (suc i) es | false ↦ x ∷ kept_by f (suc i) es ]) ≡ true
      go true p q = q
      go false p q = and_yes (g x) (all g (kept_by f (suc i) es)) p q

  all_closed : (f : ℕ → Bool) (t : ℕ) (es : List Entry) → all g es ≡ true → all g (closed_up f t es) ≡ true
  unfolding closed_up
  all_closed f t es a =
      all_append g (take (t + 1) es) (kept_by f (t + 1) (drop (t + 1) es))
      ∙ and_yes (all g (take (t + 1) es)) (all g (kept_by f (t + 1) (drop (t + 1) es))) (all_take (t + 1) es a)
      (all-kept f (t + 1) (drop (t + 1) es) (all_drop (t + 1) es a))

  all_snoc : (es : List Entry) (e : Entry) → all g es ≡ true → g e ≡ true → all g (es ++ (e ∷ [])) ≡ true
  unfolding all
  all_snoc es e a b = all_append g es (e ∷ []) ∙ and_yes (all g es) (g e && true) a (and_yes (g e) true b refl)

  pub all_placed : (r : Room) (f : ℕ → Bool) (es : List Entry) (e : Entry) → all g es ≡ true → g e ≡ true → all g (placed_by r f es e) ≡ true
  all_placed After f es e a b = all_snoc es e a b
  all_placed (First t) f es e a b = all_closed f t (set es t e) (set_all g t e es b a)
  all_placed (Victim v) f es e a b = set_all g v e es b a

-- ---- how many there are
kept-short : (f : ℕ → Bool) (i : ℕ) (es : List Entry) → length (kept_by f i es) ≤ length es
unfolding kept_by
kept-short f i [] = omega arith
kept-short f i (x ∷ es) = go (f i) (kept-short f (suc i) es)
  where
    go : (b : Bool) → length (kept_by f (suc i) es) ≤ length es
        → length {A = Entry} (elim b as (λ k. List Entry) [ true ↦ kept_by f (suc i) es | false ↦ x ∷ kept_by f (suc i) es ])
        ≤ suc (length es)
    go true h = omega arith
    go false h = omega arith

closed-short : (f : ℕ → Bool) (t : ℕ) (es : List Entry) → length (closed_up f t es) ≤ length es
unfolding closed_up
closed-short f t es =
    let a = length-append (take (t + 1) es) (kept_by f (t + 1) (drop (t + 1) es)) in
    let b = length-take (t + 1) es in
    let c = length-drop (t + 1) es in
    let d = kept-short f (t + 1) (drop (t + 1) es) in
    omega arith

pub placed-fit : (r : Room) (f : ℕ → Bool) (es : List Entry) (e : Entry) (tier : ℕ) → length es ≤ tier → Fits r (length es) tier
    → length (placed_by r f es e) ≤ tier
placed-fit After f es e tier h k = let a = length-append es (e ∷ []) in omega arith
placed-fit (First t) f es e tier h k = let a = closed-short f t (set es t e) in let b = length-set es t e in omega arith
placed-fit (Victim v) f es e tier h k = let b = length-set es v e in omega arith

-- ---- the slots of such entries
module _ (rows : ℕ) (ws : List ℕ) (k : Held max_atoms rows ws) (e : Entry) (v : is_row max_atoms e.row ≡ true) where
  abbrev es : List Entry
  es = entries_in rows ws

  abbrev tier : ℕ
  tier = tier_of ws

  valid : Valid e.row
  valid = valid-of max_atoms e.row (T_of {x = is_row max_atoms e.row} v)

  -- a held row is overwritten
  pub put-held : (p : ℕ) → p < rows → slot_put p e ws ≡ slots_of tier (set es p e)
  put-held p l =
      let n = entries-length rows ws in
      ap (slot_put p e) (sym k.same) ∙ put-slot tier p es e (holding rows ws k).valid valid (omega arith)

  blocks : Blocks slot_of slot_words es
  blocks = valid-blocks es (holding rows ws k).valid

  more : Blocks slot_of slot_words (es ++ (e ∷ []))
  more =
      valid-blocks (es ++ (e ∷ []))
      (all_valid max_atoms (es ++ (e ∷ []))
      (T_of (all_placed (λ x. is_row max_atoms x.row) After (λ j. false) es e (held_rows rows ws k) v)))

  -- a row is written after all
  pub put-after : rows < tier → slot_put rows e ws ≡ slots_of tier (es ++ (e ∷ []))
  unfolding slots_of pad
  put-after l =
      let n : length es ≡ rows = entries-length rows ws in
      let z : ℕ = slot_words * tier - length (concat (map slot_of es)) in
      let w : ws ≡ concat (map slot_of es) ++ replicate z 0 = sym k.same in
      let b : length (concat (map slot_of es)) ≡ slot_words * length es = length-blocks slot_of slot_words es blocks in
      let c : length (concat (map slot_of (es ++ (e ∷ []))))
      ≡ slot_words * length (es ++ (e ∷ [])) = length-blocks slot_of slot_words (es ++ (e ∷ [])) more in
      let d : length (es ++ (e ∷ [])) ≡ length es + 1 = length-append es (e ∷ []) in
      let y : z - slot_words ≡ slot_words * tier - length (concat (map slot_of (es ++ (e ∷ [])))) = omega arith in
      ap (λ (x : List ℕ). take (slot_words * rows) ws ++ (slot_of e ++ x)) (sym (drop-drop slot_words (slot_words * rows) ws))
      ∙ ap₂ (λ (m : ℕ) (x : List ℕ). take (slot_words * m) x ++ (slot_of e ++ drop slot_words (drop (slot_words * m) x))) (sym n) w
      ∙ block_more slot_of slot_words es e (replicate z 0) blocks
      ∙ ap (λ (x : List ℕ). concat (map slot_of (es ++ (e ∷ []))) ++ x) (drop-zeros z slot_words ∙ ap (λ (m : ℕ). replicate m 0) y)
