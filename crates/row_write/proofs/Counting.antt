-- The words that are new after each code are the groups of the codes. Assumes nothing.
use mathlib.Core.Path.{◌≡◌, refl, sym, ap, ◌∙◌}
use mathlib.Core.Bool.{Bool, true, false}
use mathlib.Core.List.{List, [], ◌∷◌}
use Prim.Native.Nat.{ℕ, suc, ◌+◌, ◌-◌, ◌*◌, ◌/◌, ◌≤◌, ◌<◌}
use native.Mathlib.Omega.{arith}
use lib.Dec.{eqb}
use lib.ListN.{length, get_or, take, drop, drop_of_length-le, length-drop}
use borrow.Author.Tests.{eq-eqb, ne_eqb, eqb-true, eqb-false}
use Rattle.std.proofs.lemmas.List.{take_rest}
use Rattle.std.proofs.lemmas.Grind.{get_or_after_one}
use Rattle.lists.specs.Lists.{below}
use Rattle.lists.proofs.Concats.{drop-next}
use Rattle.lists.proofs.Counts.{each_at}
use Rattle.lists.proofs.Tests.{below_each}
use Rattle.words.specs.Bit.{word_bits}
use Rattle.words.specs.Literal.{atom, word_of}
use Rattle.model.specs.Rows.{enter, groups}
use Rattle.model.proofs.Packing.{groups-head}
use Rattle.row_write.specs.Counts.{new_words}

new-same : (x c : ℕ) (cs : List ℕ) → word_of (atom c) ≡ x → new_words x (c ∷ cs) ≡ new_words x cs
unfolding new_words
new-same x c cs e =
    ap (λ (b : Bool). elim b as (λ k. ℕ) [ true ↦ new_words x cs | false ↦ suc (new_words (word_of (atom c)) cs) ])
    (eq-eqb (word_of (atom c)) x e)

new-other : (x c : ℕ) (cs : List ℕ) → (word_of (atom c) ≡ x → ⊥) → new_words x (c ∷ cs) ≡ suc (new_words (word_of (atom c)) cs)
unfolding new_words
new-other x c cs f =
    ap (λ (b : Bool). elim b as (λ k. ℕ) [ true ↦ new_words x cs | false ↦ suc (new_words (word_of (atom c)) cs) ])
    (ne_eqb (word_of (atom c)) x f)

-- after the first code
new-groups : (c : ℕ) (cs : List ℕ) → suc (new_words (word_of (atom c)) cs) ≡ length (groups (c ∷ cs))
unfolding new_words groups enter
new-groups c [] = refl
new-groups c (d ∷ ds) =
    let h = groups-head d ds in
    go (eqb (word_of (atom d)) (word_of (atom c))) refl h.0 h.1 (new-groups d ds ∙ ap length h.2)
    ∙ sym (ap (λ (gs : List (List ℕ)). length (enter c gs)) h.2)
  where
    joined : Bool → List ℕ → List (List ℕ) → ℕ
    joined b es gs = length {A = List ℕ} (elim b as (λ k. List (List ℕ)) [ true ↦ (c ∷ d ∷ es) ∷ gs | false ↦ (c ∷ []) ∷ (d ∷ es) ∷ gs ])

    go : (b : Bool) → eqb (word_of (atom d)) (word_of (atom c)) ≡ b → (es : List ℕ) (gs : List (List ℕ)) →
        suc (new_words (word_of (atom d)) ds) ≡ suc (length gs) →
        suc (new_words (word_of (atom c)) (d ∷ ds)) ≡ joined (eqb (word_of (atom c)) (word_of (atom d))) es gs
    go true q es gs e =
        let s : word_of (atom d) ≡ word_of (atom c) = eqb-true (word_of (atom d)) (word_of (atom c)) q in
        ap suc (new-same (word_of (atom c)) d ds s) ∙ ap (λ (x : ℕ). suc (new_words x ds)) (sym s) ∙ e
        ∙ sym (ap (λ (b : Bool). joined b es gs) (eq-eqb (word_of (atom c)) (word_of (atom d)) (sym s)))
    go false q es gs e =
        let f : (word_of (atom d) ≡ word_of (atom c) → ⊥) = eqb-false (word_of (atom d)) (word_of (atom c)) q in
        ap suc (new-other (word_of (atom c)) d ds f ∙ e)
        ∙ sym (ap (λ (b : Bool). joined b es gs) (ne_eqb (word_of (atom c)) (word_of (atom d)) (λ s. f (sym s))))

-- the group of a code of n atoms is a word of theirs: of a proposal's code it fits the 16 bits that the count holds it in
pub group-under : (n : ℕ) (cs : List ℕ) (i : ℕ) → below (2 * n) cs ≡ true → i < length cs
    → get_or cs i 0 / 2 / 64 < (n + (word_bits - 1)) / word_bits
group-under n cs i h l =
    let b : get_or cs i 0 < 2 * n = each_at (λ v. v < 2 * n) cs i (below_each (2 * n) cs h) l in
    omega arith

-- no code, and the first one with the rest
pub count_none : (cs : List ℕ) → length cs < 1 → 0 ≡ length (groups cs)
unfolding groups
count_none [] h = refl
count_none (c ∷ cs) h = absurd (omega arith)

pub rest-is : (cs : List ℕ) → take (length cs - 1) (drop 1 cs) ≡ drop 1 cs
rest-is cs = take_rest cs 1

pub rest-under : (n : ℕ) (cs : List ℕ) (i : ℕ) → below (2 * n) cs ≡ true → i < length (take (length cs - 1) (drop 1 cs))
    → get_or (take (length cs - 1) (drop 1 cs)) i 0 / 2 / 64 < (n + (word_bits - 1)) / word_bits
rest-under n cs i h l =
    let e : get_or (take (length cs - 1) (drop 1 cs)) i 0 ≡ get_or cs (1 + i) 0
    = ap (λ (r : List ℕ). get_or r i 0) (rest-is cs) ∙ get_or_after_one cs i 0 in
    let k : 1 + i < length cs = omega (arith, ap length (rest-is cs), length-drop 1 cs) in
    omega (arith, e, group-under n cs (1 + i) h k)

pub count-start : (cs : List ℕ) → 1 ≤ length cs
    → suc (new_words (get_or cs 0 0 / 2 / 64) (take (length cs - 1) (drop 1 cs))) ≡ length (groups cs)
unfolding word_of atom
count-start [] h = absurd (omega arith)
count-start (c ∷ cs) h = ap (λ (r : List ℕ). suc (new_words (c / 2 / 64) r)) (rest-is (c ∷ cs)) ∙ new-groups c cs

-- a turn of the loop, which moves on to the word of the code at i
module _ (cs : List ℕ) (i x : ℕ) (l : i < length cs) where
  pub count_same : get_or cs i 0 / 2 / 64 ≡ x → new_words x (drop i cs) ≡ new_words (get_or cs i 0 / 2 / 64) (drop (i + 1) cs)
  unfolding word_of atom
  count_same e =
      ap (new_words x) (drop-next cs i l) ∙ new-same x (get_or cs i 0) (drop (i + 1) cs) e
      ∙ ap (λ (y : ℕ). new_words y (drop (i + 1) cs)) (sym e)

  pub count-new : (get_or cs i 0 / 2 / 64 ≡ x → ⊥) → new_words x (drop i cs) ≡ suc (new_words (get_or cs i 0 / 2 / 64) (drop (i + 1) cs))
  unfolding word_of atom
  count-new f = ap (new_words x) (drop-next cs i l) ∙ new-other x (get_or cs i 0) (drop (i + 1) cs) f

pub count-end : (cs : List ℕ) (i x : ℕ) → length cs ≤ i → new_words x (drop i cs) ≡ 0
unfolding new_words
count-end cs i x l = ap (new_words x) (drop_of_length-le cs l)
