-- The codes of a group's words give the words back, and no atom of a row's conditions has both signs. Assumes nothing.
use mathlib.Core.Path.{◌≡◌, refl, sym, ap, ap₂, ◌∙◌, subst}
use mathlib.Core.Bool.{Bool, true, false, ◌||◌, beq, false≢true}
use mathlib.Core.List.{List, [], ◌∷◌, map}
use Prim.Native.Nat.{ℕ, zero, suc, ◌+◌, ◌*◌, ◌^◌, ◌≤◌, ◌<◌, zero-le}
use native.Mathlib.Nat.{le_refl, lt_of_le_of_lt}
use native.Mathlib.Decide.{ℕ_discrete}
use native.Mathlib.Omega.{arith}
use lib.Bits.{bit_and, bit_or, or_lt, and_le_l}
use lib.Dec.{eqb}
use lib.Pow.{pow_pos, pow-lt}
use borrow.Author.Tests.{eq-eqb, ne_eqb}
use Rattle.lists.specs.Lists.{select, range}
use Rattle.lists.proofs.Bools.{not-both}
use Rattle.lists.proofs.Ranges.{select-on, select-off, select-zero}
use Rattle.words.specs.Bit.{test_bit, first_bit}
use Rattle.words.specs.Literal.{atom, is_present, word_of, bit_of}
use Rattle.words.proofs.Bits.{bit-and, bit-ext, bit-none}
use Rattle.words.proofs.Literals.{bit-of-lt}
use Rattle.model.specs.Rows.{enter, groups}
use Rattle.model.specs.Slots.{bits_of, index_of, codes_of}
use Rattle.model.proofs.Cover.{member}
use Rattle.model.proofs.Packing.{Asc, asc-less, OneWord, Fits, groups-fit, bits-member, word_in}
use Rattle.slots.proofs.Groups.{Each}
use Rattle.slots.proofs.Codes.{chosen_by, codes-select, absent-parts, present-parts, chosen-absent, chosen-present, first_absent}
use Rattle.slots.proofs.Codes.{first-present}

-- ---- what is chosen is what passes
member-before : (f : ℕ → Bool) (z n a : ℕ) → z < a → member z (select f (range a n)) ≡ false
unfolding member
member-before f z zero a h = ap (member z) (select-zero f a)
member-before f z (suc n) a h = go (f a) refl (member-before f z n (suc a) (omega arith))
  where
    go : (b : Bool) → f a ≡ b → member z (select f (range (suc a) n)) ≡ false → member z (select f (range a (suc n))) ≡ false
    go true e ih = ap (member z) (select-on f a n e) ∙ ap₂ (λ (x y : Bool). x || y) (ne_eqb z a (λ q. omega arith)) ih
    go false e ih = ap (member z) (select-off f a n e) ∙ ih

member-select : (f : ℕ → Bool) (z n a : ℕ) → a ≤ z → z < a + n → member z (select f (range a n)) ≡ f z
unfolding member
member-select f z zero a h k = absurd (omega arith)
member-select f z (suc n) a h k = go (f a) refl (ℕ_discrete z a) (λ l. member-select f z n (suc a) l (omega arith))
  where
    go : (b : Bool) → f a ≡ b → Dec (z ≡ a) → (suc a ≤ z → member z (select f (range (suc a) n)) ≡ f z)
        → member z (select f (range a (suc n))) ≡ f z
    go true e (yes q) ih =
        ap (member z) (select-on f a n e) ∙ ap (λ (x : Bool). x || member z (select f (range (suc a) n))) (eq-eqb z a q) ∙ sym (ap f q ∙ e)
    go true e (no d) ih = ap (member z) (select-on f a n e) ∙ ap₂ (λ (x y : Bool). x || y) (ne_eqb z a d) (ih (omega arith))
    go false e (yes q) ih = ap (member z) (select-off f a n e) ∙ member-before f z n (suc a) (omega arith) ∙ sym (ap f q ∙ e)
    go false e (no d) ih = ap (member z) (select-off f a n e) ∙ ih (omega arith)

one-word-select : (f : ℕ → Bool) (x n a : ℕ) → ((z : ℕ) → a ≤ z → z < a + n → word_of (atom z) ≡ x) → OneWord x (select f (range a n))
one-word-select f x zero a h = subst (OneWord x) (sym (select-zero f a)) tt
one-word-select f x (suc n) a h = go (f a) refl (one-word-select f x n (suc a) (λ z l m. h z (omega arith) (omega arith)))
  where
    go : (b : Bool) → f a ≡ b → OneWord x (select f (range (suc a) n)) → OneWord x (select f (range a (suc n)))
    go true e ih = subst (OneWord x) (sym (select-on f a n e)) (h a (le_refl a) (omega arith), ih)
    go false e ih = subst (OneWord x) (sym (select-off f a n e)) ih

-- the codes of word x are in word x
pub codes-word : (x p a : ℕ) → OneWord x (codes_of x p a)
codes-word x p a =
    subst (OneWord x) (sym (codes-select x p a)) (one-word-select (chosen_by p a) x (2 * 64) (2 * 64 * x) (word_in x))

-- ---- the bit of a group's codes at a place says whether the code is among them
module _ (x i : ℕ) (l : i < 64) where
  pub absent-member : (g : List ℕ) → OneWord x g → test_bit (bits_of false g) i ≡ member (2 * (64 * x + i)) g
  absent-member g w =
      let p = absent-parts x i l in
      ap₂ (λ (b : Bool) (j : ℕ). test_bit (bits_of b g) j) (sym p.1) (sym p.2) ∙ bits-member (2 * (64 * x + i)) x g p.0 w

  pub present-member : (g : List ℕ) → OneWord x g → test_bit (bits_of true g) i ≡ member (2 * (64 * x + i) + 1) g
  present-member g w =
      let p = present-parts x i l in
      ap₂ (λ (b : Bool) (j : ℕ). test_bit (bits_of b g) j) (sym p.1) (sym p.2) ∙ bits-member (2 * (64 * x + i) + 1) x g p.0 w

-- ---- words of 64 bits
pub bits-lt : (s : Bool) (g : List ℕ) → bits_of s g < 2 ^ 64
unfolding bits_of
bits-lt s [] = pow_pos 64
bits-lt s (c ∷ cs) = go (beq s (is_present c)) (bits-lt s cs)
  where
    go : (b : Bool) → bits_of s cs < 2 ^ 64
        → (elim b as (λ k. ℕ) [ true ↦ bit_or (2 ^ bit_of (atom c)) (bits_of s cs) | false ↦ bits_of s cs ]) < 2 ^ 64
    go true h = or_lt 64 (2 ^ bit_of (atom c)) (bits_of s cs) (pow-lt (bit-of-lt (atom c))) h
    go false h = h

-- ---- the codes give the words back
module _ (x p a : ℕ) (hp : p < 2 ^ 64) (ha : a < 2 ^ 64) where
  inside : (i : ℕ) → i < 64 → 2 * (64 * x + i) + 1 < 2 * 64 * x + 2 * 64
  inside i l = omega arith

  pub bits-present : bits_of true (codes_of x p a) ≡ p
  bits-present =
      bit-ext 64 (bits_of true (codes_of x p a)) p (bits-lt true (codes_of x p a)) hp
      (λ i l.
      present-member x i l (codes_of x p a) (codes-word x p a)
      ∙ ap (member (2 * (64 * x + i) + 1)) (codes-select x p a)
      ∙ member-select (chosen_by p a) (2 * (64 * x + i) + 1) (2 * 64) (2 * 64 * x) (omega arith) (inside i l)
      ∙ chosen-present x p a i l)

  pub bits-absent : bits_of false (codes_of x p a) ≡ a
  bits-absent =
      bit-ext 64 (bits_of false (codes_of x p a)) a (bits-lt false (codes_of x p a)) ha
      (λ i l.
      absent-member x i l (codes_of x p a) (codes-word x p a)
      ∙ ap (member (2 * (64 * x + i))) (codes-select x p a)
      ∙ member-select (chosen_by p a) (2 * (64 * x + i)) (2 * 64) (2 * 64 * x) (omega arith) (let q = inside i l in omega arith)
      ∙ chosen-absent x p a i l)

  module _ (some : 0 < bit_or a p) where
    -- some bit, some code
    pub codes-some : (d : ℕ) × (ds : List ℕ) × (codes_of x p a ≡ d ∷ ds)
    codes-some = go (test_bit a (first_bit (bit_or a p))) refl
      where
        go : (b : Bool) → test_bit a (first_bit (bit_or a p)) ≡ b → (d : ℕ) × (ds : List ℕ) × (codes_of x p a ≡ d ∷ ds)
        go true e = (_, _, first_absent x p a hp ha some e)
        go false e = (_, _, first-present x p a hp ha some e)

    pub codes-index : index_of (codes_of x p a) ≡ x
    unfolding index_of
    codes-index = let s = codes-some in ap index_of s.2 ∙ (subst (OneWord x) s.2 (codes-word x p a)).0

-- ---- ascending atoms: no atom with both signs
same-atom : (n : ℕ) → atom (2 * n + 1) ≡ atom (2 * n)
unfolding atom
same-atom n = omega arith

member-above : (k z : ℕ) (cs : List ℕ) → Asc k (map atom cs) → member z cs ≡ true → k ≤ atom z
unfolding member
member-above k z [] a e = absurd (false≢true e)
member-above k z (c ∷ cs) a e = go (ℕ_discrete z c) (member-above (suc (atom c)) z cs a.1)
  where
    go : Dec (z ≡ c) → (member z cs ≡ true → suc (atom c) ≤ atom z) → k ≤ atom z
    go (yes q) ih = subst (λ (y : ℕ). k ≤ atom y) (sym q) a.0
    go (no d) ih =
        let h = ih (sym (ap (λ (b : Bool). b || member z cs) (ne_eqb z c d)) ∙ e) in
        let l = a.0 in
        omega arith

both-signs : (k y z : ℕ) (cs : List ℕ) → Asc k (map atom cs) → atom y ≡ atom z → (y ≡ z → ⊥) → member y cs ≡ true → member z cs ≡ true → ⊥
unfolding member
both-signs k y z [] a q f m n = false≢true m
both-signs k y z (c ∷ cs) a q f m n = go (ℕ_discrete y c) (ℕ_discrete z c) (both-signs (suc (atom c)) y z cs a.1 q f)
  where
    tail : (w : ℕ) → (w ≡ c → ⊥) → member w (c ∷ cs) ≡ true → member w cs ≡ true
    tail w d e = sym (ap (λ (b : Bool). b || member w cs) (ne_eqb w c d)) ∙ e

    above : (v w : ℕ) → v ≡ c → (w ≡ c → ⊥) → atom v ≡ atom w → member w (c ∷ cs) ≡ true → ⊥
    above v w s d t e =
        let h = member-above (suc (atom c)) w cs a.1 (tail w d e) in
        let u : atom v ≡ atom c = ap atom s in
        omega arith

    go : Dec (y ≡ c) → Dec (z ≡ c) → (member y cs ≡ true → member z cs ≡ true → ⊥) → ⊥
    go (yes s) (yes t) ih = f (s ∙ sym t)
    go (yes s) (no d) ih = above y z s d q n
    go (no d) (yes t) ih = above z y t d (sym q) m
    go (no d) (no d') ih = ih (tail y d m) (tail z d' n)

-- the present and the absent bits of such a group share none
pub signs_apart : (x k : ℕ) (g : List ℕ) → OneWord x g → Asc k (map atom g) → bit_and (bits_of true g) (bits_of false g) ≡ 0
signs_apart x k g w a =
    bit-none 64 (bit_and (bits_of true g) (bits_of false g)) (lt_of_le_of_lt (and_le_l (bits_of true g) (bits_of false g)) (bits-lt true g))
    (λ i l. bit-and (bits_of true g) (bits_of false g) i
    ∙ not-both (test_bit (bits_of true g) i) (test_bit (bits_of false g) i) (λ p q. off i l p q))
  where
    off : (i : ℕ) → i < 64 → test_bit (bits_of true g) i ≡ true → test_bit (bits_of false g) i ≡ true → ⊥
    off i l p q =
        both-signs k (2 * (64 * x + i) + 1) (2 * (64 * x + i)) g a (same-atom (64 * x + i)) (λ e. omega arith)
        (sym (present-member x i l g w) ∙ p) (sym (absent-member x i l g w) ∙ q)

-- ---- the groups of a list with ascending atoms
abbrev Rising : List ℕ → Type 0
Rising g = Asc 0 (map atom g)

abbrev RisingFrom : ℕ → List (List ℕ) → Type 0
RisingFrom k [] = Unit {0}
RisingFrom k (g ∷ gs) = Asc k (map atom g) × Each Rising gs

rising-enter : (c : ℕ) (gs : List (List ℕ)) → RisingFrom (suc (atom c)) gs → RisingFrom (atom c) (enter c gs)
unfolding enter
rising-enter c [] f = ((le_refl (atom c), tt), tt)
rising-enter c ([] ∷ gs) f = ((le_refl (atom c), tt), f.1)
rising-enter c ((d ∷ ds) ∷ gs) f = go (eqb (word_of (atom c)) (word_of (atom d)))
  where
    go : (b : Bool) → RisingFrom (atom c) (elim b as (λ k. List (List ℕ)) [ true ↦ (c ∷ d ∷ ds) ∷ gs | false ↦ (c ∷ []) ∷ (d ∷ ds) ∷ gs ])
    go true = ((le_refl (atom c), f.0), f.1)
    go false = ((le_refl (atom c), tt), (asc-less 0 (suc (atom c)) (map atom (d ∷ ds)) zero-le f.0, f.1))

rising-groups : (k : ℕ) (cs : List ℕ) → Asc k (map atom cs) → RisingFrom k (groups cs)
unfolding groups
rising-groups k [] a = tt
rising-groups k (c ∷ cs) a = weaker (enter c (groups cs)) (rising-enter c (groups cs) (rising-groups (suc (atom c)) cs a.1))
  where
    weaker : (gs : List (List ℕ)) → RisingFrom (atom c) gs → RisingFrom k gs
    weaker [] f = tt
    weaker (g ∷ gs) f = (asc-less k (atom c) (map atom g) a.0 f.0, f.1)

abbrev pub Apart : List ℕ → Type 0
Apart g = bit_and (bits_of true g) (bits_of false g) ≡ 0

pub groups-apart : (cs : List ℕ) → Asc 0 cs → Asc 0 (map atom cs) → Each Apart (groups cs)
groups-apart cs a b = each (groups cs) 0 (groups-fit 0 cs a) (all (groups cs) (rising-groups 0 cs b))
  where
    all : (gs : List (List ℕ)) → RisingFrom 0 gs → Each Rising gs
    all [] f = tt
    all (g ∷ gs) f = f

    each : (gs : List (List ℕ)) (k : ℕ) → Fits k gs → Each Rising gs → Each Apart gs
    each [] k f r = tt
    each (g ∷ gs) k f r = (signs_apart (index_of g) 0 g f.0 r.0, each gs 0 f.2 r.1)
