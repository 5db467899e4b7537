-- The codes of a group's words: the first of them, and what is left when its bit is cleared. Assumes nothing.
use mathlib.Core.Path.{◌≡◌, refl, sym, ap, ap₂, ◌∙◌, subst}
use mathlib.Core.Logic.{⊎_elim}
use mathlib.Core.Bool.{Bool, true, false}
use mathlib.Core.List.{List, [], ◌∷◌}
use Prim.Native.Nat.{ℕ, suc, ◌+◌, ◌-◌, ◌*◌, ◌/◌, ◌%◌, ◌^◌, ◌≤◌, ◌<◌}
use native.Mathlib.Decide.{ℕ_discrete}
use native.Mathlib.Omega.{arith}
use lib.Bits.{bit_and, bit_or, or_lt}
use lib.Dec.{eqb}
use Rattle.lists.specs.Lists.{select, range}
use Rattle.lists.proofs.Ranges.{select-nowhere, select-next, select-ext}
use Rattle.lists.proofs.Bools.{or-none, or_right}
use Rattle.words.specs.Bit.{test_bit, first_bit}
use Rattle.words.specs.Literal.{atom, is_present, word_of, bit_of}
use Rattle.words.proofs.Bits.{bit-or, parity}
use Rattle.words.proofs.Masks.{bit-of-zero, clear-same, clear-other, Lowest, first-bit-lowest}
use Rattle.model.specs.Slots.{codes_of}

-- ---- which codes two words hold
unfoldable pub chosen_by : ℕ → ℕ → ℕ → Bool
chosen_by present absent c = test_bit (elim (is_present c) [ true ↦ present | false ↦ absent ]) (bit_of (atom c))

pub codes-select : (x p a : ℕ) → codes_of x p a ≡ select (chosen_by p a) (range (2 * 64 * x) (2 * 64))
unfolding codes_of chosen_by
codes-select x p a = refl

-- the two codes of place i of word x: their word, sign and bit
module _ (x i : ℕ) (l : i < 64) where
  pub absent-parts : (word_of (atom (2 * (64 * x + i))) ≡ x) × (is_present (2 * (64 * x + i)) ≡ false)
      × (bit_of (atom (2 * (64 * x + i))) ≡ i)
  unfolding word_of atom is_present bit_of
  absent-parts =
      let h : 2 * (64 * x + i) / 2 ≡ 64 * x + i = omega arith in
      let s : 2 * (64 * x + i) % 2 ≡ 0 = omega arith in
      let w : (64 * x + i) / 64 ≡ x = omega arith in
      let b : (64 * x + i) % 64 ≡ i = omega arith in
      (ap (λ (k : ℕ). k / 64) h ∙ w, ap (λ (k : ℕ). eqb k 1) s, ap (λ (k : ℕ). k % 64) h ∙ b)

  pub present-parts : (word_of (atom (2 * (64 * x + i) + 1)) ≡ x) × (is_present (2 * (64 * x + i) + 1) ≡ true)
      × (bit_of (atom (2 * (64 * x + i) + 1)) ≡ i)
  unfolding word_of atom is_present bit_of
  present-parts =
      let h : (2 * (64 * x + i) + 1) / 2 ≡ 64 * x + i = omega arith in
      let s : (2 * (64 * x + i) + 1) % 2 ≡ 1 = omega arith in
      let w : (64 * x + i) / 64 ≡ x = omega arith in
      let b : (64 * x + i) % 64 ≡ i = omega arith in
      (ap (λ (k : ℕ). k / 64) h ∙ w, ap (λ (k : ℕ). eqb k 1) s, ap (λ (k : ℕ). k % 64) h ∙ b)

chosen_at : (p a z i : ℕ) (s : Bool) → is_present z ≡ s → bit_of (atom z) ≡ i
    → chosen_by p a z ≡ test_bit (elim s [ true ↦ p | false ↦ a ]) i
unfolding chosen_by
chosen_at p a z i s e f = ap₂ (λ (b : Bool) (j : ℕ). test_bit (elim b [ true ↦ p | false ↦ a ]) j) e f

module _ (x p a i : ℕ) (l : i < 64) where
  pub chosen-absent : chosen_by p a (2 * (64 * x + i)) ≡ test_bit a i
  chosen-absent = let q = absent-parts x i l in chosen_at p a (2 * (64 * x + i)) i false q.1 q.2

  pub chosen-present : chosen_by p a (2 * (64 * x + i) + 1) ≡ test_bit p i
  chosen-present = let q = present-parts x i l in chosen_at p a (2 * (64 * x + i) + 1) i true q.1 q.2

-- what holds of both codes of each place of word x holds of each code there
pub by_place : (P : ℕ → Type 0) (x : ℕ) → ((i : ℕ) → i < 64 → P (2 * (64 * x + i))) → ((i : ℕ) → i < 64 → P (2 * (64 * x + i) + 1))
    → (z : ℕ) → 2 * 64 * x ≤ z → z < 2 * 64 * x + 2 * 64 → P z
by_place P x even odd z l m = ⊎_elim (λ s. at0 s) (λ s. at1 s) (parity z)
  where
    at0 : z % 2 ≡ 0 → P z
    at0 s = let e : 2 * (64 * x + (z / 2 - 64 * x)) ≡ z = omega arith in subst P e (even (z / 2 - 64 * x) (omega arith))

    at1 : z % 2 ≡ 1 → P z
    at1 s = let e : 2 * (64 * x + (z / 2 - 64 * x)) + 1 ≡ z = omega arith in subst P e (odd (z / 2 - 64 * x) (omega arith))

-- no bit, no code
pub codes-none : (x p a : ℕ) → bit_or a p ≡ 0 → codes_of x p a ≡ []
codes-none x p a e =
    codes-select x p a
    ∙ select-nowhere (chosen_by p a) (2 * 64) (2 * 64 * x)
    (by_place (λ z. chosen_by p a z ≡ false) x (λ i l. chosen-absent x p a i l ∙ (none i).0) (λ i l. chosen-present x p a i l ∙ (none i).1))
  where
    none : (i : ℕ) → (test_bit a i ≡ false) × (test_bit p i ≡ false)
    none i = or-none (test_bit a i) (test_bit p i) (sym (bit-or a p i) ∙ bit-of-zero (bit_or a p) i e)

-- ---- the first code: at the lowest set bit of both words, absent before present
module _ (x p a : ℕ) (hp : p < 2 ^ 64) (ha : a < 2 ^ 64) (some : 0 < bit_or a p) where
  t : ℕ
  t = first_bit (bit_or a p)

  lowest : Lowest (bit_or a p) t
  unfolding t
  lowest = first-bit-lowest (bit_or a p) (or_lt 64 a p ha hp) some

  pub first-place : first_bit (bit_or a p) < 64
  first-place = (first-bit-lowest (bit_or a p) (or_lt 64 a p ha hp) some).inside

  under : (i : ℕ) → i < t → (test_bit a i ≡ false) × (test_bit p i ≡ false)
  under i l = or-none (test_bit a i) (test_bit p i) (sym (bit-or a p i) ∙ lowest.below i l)

  pub first_absent : test_bit a (first_bit (bit_or a p)) ≡ true
      → codes_of x p a ≡ 2 * (64 * x + first_bit (bit_or a p)) ∷ codes_of x p (bit_and a ((2 ^ 64 - 1) - 2 ^ first_bit (bit_or a p)))
  unfolding t
  first_absent e = cut
    where
      b : ℕ
      b = bit_and a ((2 ^ 64 - 1) - 2 ^ t)

      l : t < 64
      l = first-place

      cut : codes_of x p a ≡ 2 * (64 * x + t) ∷ codes_of x p b
      cut =
          codes-select x p a
          ∙ select-next (chosen_by p a) (chosen_by p b) (2 * (64 * x + t)) (2 * 64) (2 * 64 * x)
          (record {
            low = omega arith;
            high = omega (arith, l);
            chosen = chosen-absent x p a t l ∙ e;
            before = λ z i j. by_place (λ z. z < 2 * (64 * x + t) → chosen_by p a z ≡ false) x
                (λ i k m. chosen-absent x p a i k ∙ (under i (omega arith)).0)
                (λ i k m. chosen-present x p a i k ∙ (under i (omega arith)).1) z i (omega (arith, l)) j;
            gone = chosen-absent x p b t l ∙ clear-same a t l;
            others = by_place (λ z. (z ≡ 2 * (64 * x + t) → ⊥) → chosen_by p a z ≡ chosen_by p b z) x
                (λ i k d. chosen-absent x p a i k ∙ sym (clear-other a t i l k (λ q. d (ap (λ (j : ℕ). 2 * (64 * x + j)) q)))
                ∙ sym (chosen-absent x p b i k))
                (λ i k d. chosen-present x p a i k ∙ sym (chosen-present x p b i k));
          })
          ∙ ap (λ (r : List ℕ). 2 * (64 * x + t) ∷ r) (sym (codes-select x p b))

  pub first-present : test_bit a (first_bit (bit_or a p)) ≡ false
      → codes_of x p a ≡ (2 * (64 * x + first_bit (bit_or a p)) + 1) ∷ codes_of x (bit_and p ((2 ^ 64 - 1) - 2 ^ first_bit (bit_or a p))) a
  unfolding t
  first-present e = cut
    where
      q : ℕ
      q = bit_and p ((2 ^ 64 - 1) - 2 ^ t)

      l : t < 64
      l = first-place

      here : test_bit p t ≡ true
      here = or_right (test_bit a t) (test_bit p t) (sym (bit-or a p t) ∙ lowest.here) e

      up_to : (i : ℕ) → i < suc t → test_bit a i ≡ false
      up_to i m = elim (ℕ_discrete i t) [ yes s ↦ ap (test_bit a) s ∙ e | no d ↦ (under i (omega arith)).0 ]

      cut : codes_of x p a ≡ (2 * (64 * x + t) + 1) ∷ codes_of x q a
      cut =
          codes-select x p a
          ∙ select-next (chosen_by p a) (chosen_by q a) (2 * (64 * x + t) + 1) (2 * 64) (2 * 64 * x)
          (record {
            low = omega arith;
            high = omega (arith, l);
            chosen = chosen-present x p a t l ∙ here;
            before = λ z i j. by_place (λ z. z < 2 * (64 * x + t) + 1 → chosen_by p a z ≡ false) x
                (λ i k m. chosen-absent x p a i k ∙ up_to i (omega arith))
                (λ i k m. chosen-present x p a i k ∙ (under i (omega arith)).1) z i (omega (arith, l)) j;
            gone = chosen-present x q a t l ∙ clear-same p t l;
            others = by_place (λ z. (z ≡ 2 * (64 * x + t) + 1 → ⊥) → chosen_by p a z ≡ chosen_by q a z) x
                (λ i k d. chosen-absent x p a i k ∙ sym (chosen-absent x q a i k))
                (λ i k d. chosen-present x p a i k ∙ sym (clear-other p t i l k (λ s. d (ap (λ (j : ℕ). 2 * (64 * x + j) + 1) s)))
                ∙ sym (chosen-present x q a i k));
          })
          ∙ ap (λ (r : List ℕ). (2 * (64 * x + t) + 1) ∷ r) (sym (codes-select x q a))

-- equal bits, equal codes
pub codes-ext : (x p a q b : ℕ) → ((i : ℕ) → i < 64 → (test_bit p i ≡ test_bit q i) × (test_bit a i ≡ test_bit b i))
    → codes_of x p a ≡ codes_of x q b
codes-ext x p a q b h =
    codes-select x p a
    ∙ select-ext (chosen_by p a) (chosen_by q b) (2 * 64) (2 * 64 * x)
    (by_place (λ z. chosen_by p a z ≡ chosen_by q b z) x
    (λ i l. chosen-absent x p a i l ∙ (h i l).1 ∙ sym (chosen-absent x q b i l))
    (λ i l. chosen-present x p a i l ∙ (h i l).0 ∙ sym (chosen-present x q b i l)))
    ∙ sym (codes-select x q b)
