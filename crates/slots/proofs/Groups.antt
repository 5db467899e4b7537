-- The groups of a list: each by its three words, and what holds of every one. Assumes nothing.
use mathlib.Core.Path.{◌≡◌, refl, sym, ap, ◌∙◌}
use mathlib.Core.Bool.{Bool, true, false, beq}
use mathlib.Core.List.{List, [], ◌∷◌, ◌++◌, map}
use Prim.Native.Nat.{ℕ, zero, suc, ◌+◌, ◌*◌, ◌/◌, ◌^◌, ◌<◌}
use native.Mathlib.Omega.{arith}
use lib.Bits.{bit_or}
use lib.Dec.{T, eqb, ltb, ltb→lt}
use lib.ListN.{length, get_or}
use lib.Pow.{pow_pos}
use Rattle.lists.specs.Lists.{concat, all, below}
use Rattle.words.specs.Literal.{atom, is_present, word_of, bit_of}
use Rattle.words.specs.Region.{words_for}
use Rattle.words.proofs.Masks.{or-ge, or-ge-l}
use Rattle.model.specs.Records.{group_length}
use Rattle.model.specs.Rows.{enter, groups}
use Rattle.model.specs.Slots.{bits_of, index_of, group_words, codes_of}
use Rattle.model.proofs.Cover.{and_left, and_right}
use Rattle.model.proofs.Packing.{Under, Fits, codes-group}

-- ---- every group
abbrev pub Each : (List ℕ → Type 0) → List (List ℕ) → Type 0
Each P [] = Unit {0}
Each P (g ∷ gs) = P g × Each P gs

pub each_at : (P : List ℕ → Type 0) (gs : List (List ℕ)) (g : ℕ) → Each P gs → g < length gs → P (get_or gs g [])
each_at P [] g a h = absurd (omega arith)
each_at P (x ∷ xs) zero a h = a.0
each_at P (x ∷ xs) (suc g) a h = each_at P xs g a.1 (omega arith)

pub each_append : (P : List ℕ → Type 0) (xs ys : List (List ℕ)) → Each P xs → Each P ys → Each P (xs ++ ys)
each_append P [] ys a b = b
each_append P (x ∷ xs) ys a b = (a.0, each_append P xs ys a.1 b)

-- some first code, below t
abbrev pub Headed : ℕ → List ℕ → Type 0
Headed t [] = ⊥
Headed t (c ∷ cs) = c < t

pub below-under : (t : ℕ) (cs : List ℕ) → T (below t cs) → Under t cs
unfolding below all
below-under t [] h = tt
below-under t (c ∷ cs) h =
    (ltb→lt c t (and_left (ltb c t) (all (λ x. ltb x t) cs) h), below-under t cs (and_right (ltb c t) (all (λ x. ltb x t) cs) h))

enter-headed : (t c : ℕ) (gs : List (List ℕ)) → c < t → Each (Headed t) gs → Each (Headed t) (enter c gs)
unfolding enter
enter-headed t c [] h a = (h, tt)
enter-headed t c ([] ∷ gs) h a = (h, a.1)
enter-headed t c ((d ∷ ds) ∷ gs) h a = go (eqb (word_of (atom c)) (word_of (atom d)))
  where
    go : (b : Bool) → Each (Headed t) (elim b as (λ k. List (List ℕ)) [ true ↦ (c ∷ d ∷ ds) ∷ gs | false ↦ (c ∷ []) ∷ (d ∷ ds) ∷ gs ])
    go true = (h, a.1)
    go false = (h, a)

pub groups-headed : (t : ℕ) (cs : List ℕ) → Under t cs → Each (Headed t) (groups cs)
unfolding groups
groups-headed t [] u = tt
groups-headed t (c ∷ cs) u = enter-headed t c (groups cs) u.0 (groups-headed t cs u.1)

pub headed-index : (n : ℕ) (g : List ℕ) → Headed (2 * n) g → index_of g < words_for n
unfolding index_of word_of atom words_for
headed-index n [] h = absurd h
headed-index n (c ∷ cs) h = let a : c / 2 < n = omega arith in omega arith

pub headed-some : (t : ℕ) (g : List ℕ) → Headed t g → 0 < bit_or (bits_of false g) (bits_of true g)
unfolding bits_of
headed-some t [] h = absurd h
headed-some t (c ∷ cs) h = go (is_present c)
  where
    two : 0 < 2 ^ bit_of (atom c)
    two = pow_pos (bit_of (atom c))

    go : (s : Bool) → 0 < bit_or
        (elim (beq false s) as (λ k. ℕ) [ true ↦ bit_or (2 ^ bit_of (atom c)) (bits_of false cs) | false ↦ bits_of false cs ])
        (elim (beq true s) as (λ k. ℕ) [ true ↦ bit_or (2 ^ bit_of (atom c)) (bits_of true cs) | false ↦ bits_of true cs ])
    go true =
        let m : ℕ = bit_or (2 ^ bit_of (atom c)) (bits_of true cs) in
        omega (arith, two, or-ge-l (2 ^ bit_of (atom c)) (bits_of true cs), or-ge (bits_of false cs) m)
    go false =
        let m : ℕ = bit_or (2 ^ bit_of (atom c)) (bits_of false cs) in
        omega (arith, two, or-ge-l (2 ^ bit_of (atom c)) (bits_of false cs), or-ge-l m (bits_of true cs))

-- ---- a group is the codes of its words
abbrev pub InWord : List ℕ → Type 0
InWord g = g ≡ codes_of (index_of g) (bits_of true g) (bits_of false g)

pub fits-codes : (k : ℕ) (gs : List (List ℕ)) → Fits k gs → Each InWord gs
fits-codes k [] f = tt
fits-codes k (g ∷ gs) f = (sym (codes-group (index_of g) k g f.0 f.1), fits-codes 0 gs f.2)

-- ---- the words of group g, among those of all
pub record WordsAt (ws : List ℕ) (at : ℕ) (g : List ℕ) : Type 0 where
  pub index : get_or ws at 0 ≡ index_of g
  pub present : get_or ws (at + 1) 0 ≡ bits_of true g
  pub absent : get_or ws (at + 2) 0 ≡ bits_of false g

pub words-at : (gs : List (List ℕ)) (zs : List ℕ) (g : ℕ) → g < length gs
    → WordsAt (concat (map group_words gs) ++ zs) (group_length * g) (get_or gs g [])
unfolding concat group_words
words-at [] zs g h = absurd (omega arith)
words-at (x ∷ xs) zs zero h = record { index = refl; present = refl; absent = refl }
words-at (x ∷ xs) zs (suc g) h =
    let w = words-at xs zs g (omega arith) in
    let l : List ℕ = concat (map group_words (x ∷ xs)) ++ zs in
    let a : group_length * suc g ≡ suc (suc (suc (group_length * g))) = omega arith in
    let b : group_length * suc g + 1 ≡ suc (suc (suc (group_length * g + 1))) = omega arith in
    let c : group_length * suc g + 2 ≡ suc (suc (suc (group_length * g + 2))) = omega arith in
    record {
      index = ap (λ (i : ℕ). get_or l i 0) a ∙ w.index;
      present = ap (λ (i : ℕ). get_or l i 0) b ∙ w.present;
      absent = ap (λ (i : ℕ). get_or l i 0) c ∙ w.absent;
    }
