-- The codes of a group's words in a region: which fail, and whether one is contradicted. Assumes nothing.
use mathlib.Core.Path.{◌≡◌, refl, sym, ap, ap₂, ◌∙◌}
use mathlib.Core.Bool.{Bool, true, false, not, ◌&&◌, ◌||◌, true≢false, false≢true, or-true}
use mathlib.Core.List.{List, [], ◌∷◌}
use Prim.Native.Nat.{ℕ, zero, suc, ◌+◌, ◌-◌, ◌*◌, ◌/◌, ◌%◌, ◌^◌, ◌≤◌, ◌<◌}
use native.Mathlib.Nat.{le_refl}
use native.Mathlib.Decide.{ℕ_discrete}
use native.Mathlib.Omega.{arith}
use lib.Dec.{eqb}
use lib.ListN.{get_or}
use borrow.Author.Tests.{eq-eqb, ne_eqb}
use Rattle.lists.specs.Lists.{any, select, range}
use Rattle.lists.proofs.Bools.{and_both, and_first, or-none}
use Rattle.lists.proofs.Ranges.{select-ext}
use Rattle.words.specs.Bit.{test_bit}
use Rattle.words.specs.Literal.{atom, is_present, opposite, word_of, bit_of}
use Rattle.words.specs.Region.{Region, has, holds, contradicts}
use Rattle.words.proofs.Bits.{some-bit}
use Rattle.words.proofs.Masks.{bit-of-zero}
use Rattle.model.specs.Slots.{codes_of}
use Rattle.model.specs.Deduction.{failing, contradicted, contradictions}
use Rattle.slots.proofs.Codes.{chosen_by, codes-select, chosen-absent, chosen-present, by_place}

-- ---- tests of what is chosen
select-select : (f g : ℕ → Bool) (xs : List ℕ) → select g (select f xs) ≡ select (λ z. f z && g z) xs
unfolding select
select-select f g [] = refl
select-select f g (x ∷ xs) = go (f x) (select-select f g xs)
  where
    go : (b : Bool) → select g (select f xs) ≡ select (λ z. f z && g z) xs
        → select g (elim b as (λ k. List ℕ) [ true ↦ x ∷ select f xs | false ↦ select f xs ])
        ≡ (elim (b && g x) as (λ k. List ℕ) [ true ↦ x ∷ select (λ z. f z && g z) xs | false ↦ select (λ z. f z && g z) xs ])
    go true e = ap (λ (l : List ℕ). elim (g x) as (λ k. List ℕ) [ true ↦ x ∷ l | false ↦ l ]) e
    go false e = e

any_none : (t f : ℕ → Bool) (n a : ℕ) → ((z : ℕ) → a ≤ z → z < a + n → f z ≡ true → t z ≡ false) → any t (select f (range a n)) ≡ false
unfolding any select range
any_none t f zero a h = refl
any_none t f (suc n) a h = go (f a) (h a (le_refl a) (omega arith)) (any_none t f n (suc a) (λ z i j. h z (omega arith) (omega arith)))
  where
    go : (b : Bool) → (b ≡ true → t a ≡ false) → any t (select f (range (suc a) n)) ≡ false
        → any t (elim b as (λ k. List ℕ) [ true ↦ a ∷ select f (range (suc a) n) | false ↦ select f (range (suc a) n) ]) ≡ false
    go true k e = ap₂ (λ (x y : Bool). x || y) (k refl) e
    go false k e = e

any_some : (t f : ℕ → Bool) (n a c : ℕ) → a ≤ c → c < a + n → f c ≡ true → t c ≡ true → any t (select f (range a n)) ≡ true
unfolding any select range
any_some t f zero a c i j p q = absurd (omega arith)
any_some t f (suc n) a c i j p q = go (ℕ_discrete a c) (f a) refl (λ u v. any_some t f n (suc a) c u v p q)
  where
    go : Dec (a ≡ c) → (b : Bool) → f a ≡ b → (suc a ≤ c → c < suc a + n → any t (select f (range (suc a) n)) ≡ true)
        → any t (elim b as (λ k. List ℕ) [ true ↦ a ∷ select f (range (suc a) n) | false ↦ select f (range (suc a) n) ]) ≡ true
    go (yes e) true k ih = ap (λ (x : Bool). x || any t (select f (range (suc a) n))) (ap t e ∙ q)
    go (yes e) false k ih = absurd (true≢false (sym p ∙ ap f (sym e) ∙ k))
    go (no d) true k ih = ap (λ (x : Bool). t a || x) (ih (omega arith) (omega arith)) ∙ or-true (t a)
    go (no d) false k ih = ih (omega arith) (omega arith)

-- ---- the two codes of place i of word x
module _ (x i : ℕ) (l : i < 64) where
  absent-sign : is_present (2 * (64 * x + i)) ≡ false
  unfolding is_present
  absent-sign = ne_eqb (2 * (64 * x + i) % 2) 1 (λ q. omega arith)

  present-sign : is_present (2 * (64 * x + i) + 1) ≡ true
  unfolding is_present
  present-sign = eq-eqb ((2 * (64 * x + i) + 1) % 2) 1 (omega arith)

  absent-atom : atom (2 * (64 * x + i)) ≡ 64 * x + i
  unfolding atom
  absent-atom = omega arith

  present-atom : atom (2 * (64 * x + i) + 1) ≡ 64 * x + i
  unfolding atom
  present-atom = omega arith

  place-has : (ws : List ℕ) → has ws (64 * x + i) ≡ test_bit (get_or ws x 0) i
  unfolding has word_of bit_of
  place-has ws =
      let q : (64 * x + i) / 64 ≡ x = omega arith in
      let r : (64 * x + i) % 64 ≡ i = omega arith in
      ap₂ (λ (y j : ℕ). test_bit (get_or ws y 0) j) q r

  module _ (r : Region) where
    pub holds-absent : holds r (2 * (64 * x + i)) ≡ test_bit (get_or r.cut x 0) i
    unfolding holds
    holds-absent =
        ap₂ (λ (b : Bool) (a : ℕ). elim b as (λ k. Bool) [ true ↦ has r.held a | false ↦ has r.cut a ]) absent-sign absent-atom
        ∙ place-has r.cut

    pub holds-present : holds r (2 * (64 * x + i) + 1) ≡ test_bit (get_or r.held x 0) i
    unfolding holds
    holds-present =
        ap₂ (λ (b : Bool) (a : ℕ). elim b as (λ k. Bool) [ true ↦ has r.held a | false ↦ has r.cut a ]) present-sign present-atom
        ∙ place-has r.held

    pub contradicts-absent : contradicts r (2 * (64 * x + i)) ≡ test_bit (get_or r.held x 0) i
    unfolding contradicts opposite
    contradicts-absent =
        ap (λ (b : Bool). holds r (elim b as (λ k. ℕ) [ true ↦ 2 * (64 * x + i) - 1 | false ↦ 2 * (64 * x + i) + 1 ])) absent-sign
        ∙ holds-present

    pub contradicts-present : contradicts r (2 * (64 * x + i) + 1) ≡ test_bit (get_or r.cut x 0) i
    unfolding contradicts opposite
    contradicts-present =
        let e : 2 * (64 * x + i) + 1 - 1 ≡ 2 * (64 * x + i) = omega arith in
        ap (λ (b : Bool). holds r (elim b as (λ k. ℕ) [ true ↦ 2 * (64 * x + i) + 1 - 1 | false ↦ 2 * (64 * x + i) + 1 + 1 ])) present-sign
        ∙ ap (holds r) e ∙ holds-absent

  low : 2 * 64 * x ≤ 2 * (64 * x + i)
  low = omega arith

  high : 2 * (64 * x + i) + 1 < 2 * 64 * x + 2 * 64
  high = omega arith

module _ (r : Region) (x present absent : ℕ) where
  -- ---- what passes a test of a group is the group of the bits that pass it
  passing-codes : (t : ℕ → Bool) (p a : ℕ)
      → ((i : ℕ) → i < 64 → test_bit p i ≡ (test_bit present i && t (2 * (64 * x + i) + 1)))
      → ((i : ℕ) → i < 64 → test_bit a i ≡ (test_bit absent i && t (2 * (64 * x + i))))
      → select t (codes_of x present absent) ≡ codes_of x p a
  passing-codes t p a f g =
      ap (select t) (codes-select x present absent)
      ∙ select-select (chosen_by present absent) t (range (2 * 64 * x) (2 * 64))
      ∙ select-ext (λ z. chosen_by present absent z && t z) (chosen_by p a) (2 * 64) (2 * 64 * x)
      (by_place (λ z. (chosen_by present absent z && t z) ≡ chosen_by p a z) x
      (λ i l. ap (λ (s : Bool). s && t (2 * (64 * x + i))) (chosen-absent x present absent i l) ∙ sym (g i l)
      ∙ sym (chosen-absent x p a i l))
      (λ i l. ap (λ (s : Bool). s && t (2 * (64 * x + i) + 1)) (chosen-present x present absent i l) ∙ sym (f i l)
      ∙ sym (chosen-present x p a i l)))
      ∙ sym (codes-select x p a)

  -- ---- what fails of a group is the group of the bits that are open
  pub failing-codes : (p a : ℕ)
      → ((i : ℕ) → i < 64 → test_bit p i ≡ (test_bit present i && not (test_bit (get_or r.held x 0) i)))
      → ((i : ℕ) → i < 64 → test_bit a i ≡ (test_bit absent i && not (test_bit (get_or r.cut x 0) i)))
      → failing r (codes_of x present absent) ≡ codes_of x p a
  unfolding failing
  failing-codes p a f g =
      passing-codes (λ z. not (holds r z)) p a
      (λ i l. f i l ∙ ap (λ (h : Bool). test_bit present i && not h) (sym (holds-present x i l r)))
      (λ i l. g i l ∙ ap (λ (h : Bool). test_bit absent i && not h) (sym (holds-absent x i l r)))

  -- ---- and what is contradicted the group of the bits whose opposite is marked
  pub contradictions-codes : (p a : ℕ)
      → ((i : ℕ) → i < 64 → test_bit p i ≡ (test_bit present i && test_bit (get_or r.cut x 0) i))
      → ((i : ℕ) → i < 64 → test_bit a i ≡ (test_bit absent i && test_bit (get_or r.held x 0) i))
      → contradictions r (codes_of x present absent) ≡ codes_of x p a
  unfolding contradictions
  contradictions-codes p a f g =
      passing-codes (contradicts r) p a
      (λ i l. f i l ∙ ap (λ (h : Bool). test_bit present i && h) (sym (contradicts-present x i l r)))
      (λ i l. g i l ∙ ap (λ (h : Bool). test_bit absent i && h) (sym (contradicts-absent x i l r)))

  -- ---- one is contradicted where a word of such bits is not zero
  pub contradicted-codes : (w : ℕ) → w < 2 ^ 64
      → ((i : ℕ) → i < 64
      → test_bit w i ≡ ((test_bit absent i && test_bit (get_or r.held x 0) i) || (test_bit present i && test_bit (get_or r.cut x 0) i)))
      → contradicted r (codes_of x present absent) ≡ not (eqb w 0)
  unfolding contradicted
  contradicted-codes w l f = ap (any (contradicts r)) (codes-select x present absent) ∙ go (ℕ_discrete w 0)
    where
      some : (a p : Bool) (i : ℕ) → i < 64 → (test_bit absent i && test_bit (get_or r.held x 0) i) ≡ a
          → (test_bit present i && test_bit (get_or r.cut x 0) i) ≡ p
          → (a || p) ≡ true → any (contradicts r) (select (chosen_by present absent) (range (2 * 64 * x) (2 * 64))) ≡ true
      some true p i k e g o =
          let b = and_both (test_bit absent i) (test_bit (get_or r.held x 0) i) e in
          any_some (contradicts r) (chosen_by present absent) (2 * 64) (2 * 64 * x) (2 * (64 * x + i)) (low x i k)
          (omega (arith, high x i k))
          (chosen-absent x present absent i k ∙ b.0) (contradicts-absent x i k r ∙ b.1)
      some false true i k e g o =
          let b = and_both (test_bit present i) (test_bit (get_or r.cut x 0) i) g in
          any_some (contradicts r) (chosen_by present absent) (2 * 64) (2 * 64 * x) (2 * (64 * x + i) + 1) (omega (arith, low x i k))
          (high x i k)
          (chosen-present x present absent i k ∙ b.0) (contradicts-present x i k r ∙ b.1)
      some false false i k e g o = absurd (false≢true o)

      none : w ≡ 0 → (i : ℕ) → i < 64
          → ((test_bit absent i && test_bit (get_or r.held x 0) i) ≡ false)
          × ((test_bit present i && test_bit (get_or r.cut x 0) i) ≡ false)
      none e i k =
          or-none (test_bit absent i && test_bit (get_or r.held x 0) i) (test_bit present i && test_bit (get_or r.cut x 0) i)
          (sym (f i k) ∙ bit-of-zero w i e)

      go : Dec (w ≡ 0) → any (contradicts r) (select (chosen_by present absent) (range (2 * 64 * x) (2 * 64))) ≡ not (eqb w 0)
      go (yes e) =
          any_none (contradicts r) (chosen_by present absent) (2 * 64) (2 * 64 * x)
          (by_place (λ z. chosen_by present absent z ≡ true → contradicts r z ≡ false) x
          (λ i k g. contradicts-absent x i k r
          ∙ and_first (test_bit absent i) (test_bit (get_or r.held x 0) i) (none e i k).0 (sym (chosen-absent x present absent i k) ∙ g))
          (λ i k g. contradicts-present x i k r
          ∙ and_first (test_bit present i) (test_bit (get_or r.cut x 0) i) (none e i k).1 (sym (chosen-present x present absent i k) ∙ g)))
          ∙ sym (ap not (eq-eqb w 0 e))
      go (no n) =
          let s = some-bit 64 w l (omega arith) in
          some _ _ s.0 s.1 refl refl (sym (f s.0 s.1) ∙ s.2) ∙ sym (ap not (ne_eqb w 0 n))
