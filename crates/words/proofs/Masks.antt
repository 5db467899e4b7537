-- Words with one bit set, tested or cleared by a mask, as the code has them; and the lowest set bit. Assumes nothing.
use mathlib.Core.Path.{◌≡◌, refl, sym, ap, ap₂, ◌∙◌}
use mathlib.Core.Logic.{◌⊎◌, inl, inr}
use mathlib.Core.Bool.{Bool, true, false, not, ◌&&◌, ◌||◌, true≢false, and-true, and-false, or-true, or-false}
use Prim.Native.Nat.{ℕ, suc, ◌-◌, ◌*◌, ◌%◌, ◌^◌, ◌≤◌, ◌<◌}
use native.Mathlib.Nat.{mod-lt, lt_of_le_of_lt}
use native.Mathlib.Decide.{ℕ_discrete, dec_lt}
use native.Mathlib.Omega.{arith}
use lib.Bits.{bit_and, bit_or, and_le_l, and_le_r, or_add_and, or_comm, or_lt}
use lib.Count.{trailing_of_zero}
use lib.Dec.{eqb, ltb}
use lib.Pow.{pow_pos, pow-lt}
use borrow.Author.Tests.{eq-eqb, ne_eqb, eqb-true, lt-ltb, le-ltb}
pub use Rattle.lists.proofs.Tests.{eqb-or}
use Rattle.lists.proofs.Bools.{and_both}
use Rattle.words.specs.Bit.{test_bit, first_bit}
use Rattle.words.proofs.Bits.{bit-and, bit-or, bit_not, bit-zero, bit-pow, bit-pow-same, bit-mod, bit-ext, shl_one, some-bit}
use Rattle.words.proofs.Bits.{one_bit, tz-lt, tz-bit, tz-below}

-- a bit of a word that is zero
pub bit-of-zero : (w i : ℕ) → w ≡ 0 → test_bit w i ≡ false
bit-of-zero w i e = ap (λ (x : ℕ). test_bit x i) e ∙ bit-zero i

-- ---- `w & (1 << i) != 0`
pub test_has : (w i : ℕ) → not (eqb (bit_and w (2 ^ i)) 0) ≡ test_bit w i
test_has w i =
    elim (ℕ_discrete (bit_and w (2 ^ i)) 0) [
      | yes e ↦ ap not (eq-eqb (bit_and w (2 ^ i)) 0 e) ∙ sym (miss e)
      | no f ↦ ap not (ne_eqb (bit_and w (2 ^ i)) 0 f) ∙ sym (hit f)
    ]
  where
    miss : bit_and w (2 ^ i) ≡ 0 → test_bit w i ≡ false
    miss e =
        sym (and-true (test_bit w i)) ∙ ap (λ (t : Bool). test_bit w i && t) (sym (bit-pow-same i)) ∙ sym (bit-and w (2 ^ i) i)
        ∙ bit-of-zero (bit_and w (2 ^ i)) i e

    hit : (bit_and w (2 ^ i) ≡ 0 → ⊥) → test_bit w i ≡ true
    hit f =
        let l : bit_and w (2 ^ i) < 2 ^ suc i = omega (arith, and_le_r w (2 ^ i), pow_pos i) in
        let s = some-bit (suc i) (bit_and w (2 ^ i)) l (omega arith) in
        let b = and_both (test_bit w s.0) (test_bit (2 ^ i) s.0) (sym (bit-and w (2 ^ i) s.0) ∙ s.2) in
        let e : s.0 ≡ i = eqb-true s.0 i (sym (bit-pow i s.0) ∙ b.1) in
        ap (test_bit w) (sym e) ∙ b.0

-- what a branch on it tells
pub mask-hit : (w t : ℕ) → t < 64 → (bit_and w ((1 * 2 ^ t) % 2 ^ 64) ≡ 0 → ⊥) → test_bit w t ≡ true
mask-hit w t l f =
    sym (test_has w t) ∙ ap not (ne_eqb (bit_and w (2 ^ t)) 0 (λ e. f (ap (bit_and w) (shl_one 64 t l) ∙ e)))

pub mask-miss : (w t : ℕ) → t < 64 → bit_and w ((1 * 2 ^ t) % 2 ^ 64) ≡ 0 → test_bit w t ≡ false
mask-miss w t l e =
    sym (test_has w t) ∙ ap not (eq-eqb (bit_and w (2 ^ t)) 0 (ap (bit_and w) (sym (shl_one 64 t l)) ∙ e))

-- ---- `w | (1 << t)`
pub bit-add : (w t j : ℕ) → test_bit (bit_or w (2 ^ t)) j ≡ (test_bit w j || eqb j t)
bit-add w t j = bit-or w (2 ^ t) j ∙ ap (λ (b : Bool). test_bit w j || b) (bit-pow t j)

pub bit-add-same : (w t : ℕ) → test_bit (bit_or w (2 ^ t)) t ≡ true
bit-add-same w t = bit-add w t t ∙ ap (λ (b : Bool). test_bit w t || b) (eq-eqb t t refl) ∙ or-true (test_bit w t)

pub bit-add-other : (w t j : ℕ) → (j ≡ t → ⊥) → test_bit (bit_or w (2 ^ t)) j ≡ test_bit w j
bit-add-other w t j f = bit-add w t j ∙ ap (λ (b : Bool). test_bit w j || b) (ne_eqb j t f) ∙ or-false (test_bit w j)

pub old-or-new : (w t j : ℕ) → test_bit (bit_or w (2 ^ t)) j ≡ true → (test_bit w j ≡ true) ⊎ (j ≡ t)
old-or-new w t j e = elim (ℕ_discrete j t) [ yes q ↦ inr q | no f ↦ inl (sym (bit-add-other w t j f) ∙ e) ]

-- ---- `w & !(1 << t)`
pub bit-clear : (w t j : ℕ) → t < 64 → j < 64 → test_bit (bit_and w ((2 ^ 64 - 1) - 2 ^ t)) j ≡ (test_bit w j && not (eqb j t))
bit-clear w t j l m =
    bit-and w ((2 ^ 64 - 1) - 2 ^ t) j ∙ ap (λ (b : Bool). test_bit w j && b) (bit_not 64 (2 ^ t) j (pow-lt l) m ∙ ap not (bit-pow t j))

pub clear-same : (w t : ℕ) → t < 64 → test_bit (bit_and w ((2 ^ 64 - 1) - 2 ^ t)) t ≡ false
clear-same w t l = bit-clear w t t l l ∙ ap (λ (b : Bool). test_bit w t && not b) (eq-eqb t t refl) ∙ and-false (test_bit w t)

pub clear-other : (w t j : ℕ) → t < 64 → j < 64 → (j ≡ t → ⊥) → test_bit (bit_and w ((2 ^ 64 - 1) - 2 ^ t)) j ≡ test_bit w j
clear-other w t j l m f = bit-clear w t j l m ∙ ap (λ (b : Bool). test_bit w j && not b) (ne_eqb j t f) ∙ and-true (test_bit w j)

-- ---- `a | b`, as a number
pub or-ge : (a b : ℕ) → b ≤ bit_or a b
or-ge a b = omega (arith, or_add_and a b, and_le_l a b)

pub or-ge-l : (a b : ℕ) → a ≤ bit_or a b
or-ge-l a b = omega (arith, or-ge b a, or_comm a b)

-- ---- one place more of a word's low part
ltb-suc : (j i : ℕ) → (j ≡ i → ⊥) → ltb j (suc i) ≡ ltb j i
ltb-suc j i f =
    elim (dec_lt j i) [
      | yes h ↦ lt-ltb j (suc i) (omega arith) ∙ sym (lt-ltb j i h)
      | no h ↦ le-ltb j (suc i) (omega arith) ∙ sym (le-ltb j i (omega arith))
    ]

pub mod-set : (w i : ℕ) → test_bit w i ≡ true → bit_or (w % 2 ^ i) (2 ^ i) ≡ w % 2 ^ suc i
mod-set w i e =
    let small : w % 2 ^ i < 2 ^ suc i = omega (arith, mod-lt w (pow_pos i)) in
    let pl : 2 ^ i < 2 ^ suc i = omega (arith, pow_pos i) in
    bit-ext (suc i) (bit_or (w % 2 ^ i) (2 ^ i)) (w % 2 ^ suc i) (or_lt (suc i) (w % 2 ^ i) (2 ^ i) small pl) (mod-lt w (pow_pos (suc i)))
    (λ j l. bit-add (w % 2 ^ i) i j ∙ ap (λ (x : Bool). x || eqb j i) (bit-mod i w j) ∙ at j l ∙ sym (bit-mod (suc i) w j))
  where
    at : (j : ℕ) → j < suc i → ((test_bit w j && ltb j i) || eqb j i) ≡ (test_bit w j && ltb j (suc i))
    at j l =
        elim (ℕ_discrete j i) [
          | yes s ↦
              ap₂ (λ (x y : Bool). (test_bit w j && x) || y) (le-ltb j i (omega arith)) (eq-eqb j i s)
              ∙ ap (λ (x : Bool). x || true) (and-false (test_bit w j))
              ∙ sym (ap₂ (λ (x y : Bool). x && y) (ap (test_bit w) s ∙ e) (lt-ltb j (suc i) l))
          | no f ↦ ap₂ (λ (x y : Bool). (test_bit w j && x) || y) (sym (ltb-suc j i f)) (ne_eqb j i f)
              ∙ or-false (test_bit w j && ltb j (suc i))
        ]

pub mod-skip : (w i : ℕ) → test_bit w i ≡ false → w % 2 ^ i ≡ w % 2 ^ suc i
mod-skip w i e =
    let small : w % 2 ^ i < 2 ^ suc i = omega (arith, mod-lt w (pow_pos i)) in
    bit-ext (suc i) (w % 2 ^ i) (w % 2 ^ suc i) small (mod-lt w (pow_pos (suc i)))
    (λ j l. bit-mod i w j ∙ at j l ∙ sym (bit-mod (suc i) w j))
  where
    at : (j : ℕ) → j < suc i → (test_bit w j && ltb j i) ≡ (test_bit w j && ltb j (suc i))
    at j l =
        elim (ℕ_discrete j i) [
          | yes s ↦ (let z : test_bit w j ≡ false = ap (test_bit w) s ∙ e in rw z)
          | no f ↦ ap (λ (x : Bool). test_bit w j && x) (sym (ltb-suc j i f))
        ]

-- ---- two words that share no bit, or one
-- none of the bits of u is set in h or in c
pub free-at : (u h c t : ℕ) → bit_and u (bit_or h c) ≡ 0 → test_bit u t ≡ true → (test_bit h t || test_bit c t) ≡ false
free-at u h c t z e =
    sym (bit-or h c t) ∙ sym (ap (λ (b : Bool). b && test_bit (bit_or h c) t) e) ∙ sym (bit-and u (bit_or h c) t)
    ∙ bit-of-zero (bit_and u (bit_or h c)) t z

-- words that share no bit, at one place
pub apart-at-bit : (v w i : ℕ) → bit_and v w ≡ 0 → (test_bit v i && test_bit w i) ≡ false
apart-at-bit v w i z = sym (bit-and v w i) ∙ bit-of-zero (bit_and v w) i z

-- `a & u`, where u has one bit
pub share-yes : (a u : ℕ) → u < 2 ^ 64 → 0 < u → bit_and u (u - 1) ≡ 0 → (bit_and a u ≡ 0 → ⊥) → test_bit a (first_bit u) ≡ true
share-yes a u l g z f =
    let s = some-bit 64 (bit_and a u) (lt_of_le_of_lt (and_le_r a u) l) (omega arith) in
    let b = and_both (test_bit a s.0) (test_bit u s.0) (sym (bit-and a u s.0) ∙ s.2) in
    ap (test_bit a) (sym (one_bit 64 u l g z s.0 s.1 b.1)) ∙ b.0

pub share-no : (a u : ℕ) → u < 2 ^ 64 → 0 < u → bit_and a u ≡ 0 → test_bit a (first_bit u) ≡ false
share-no a u l g z =
    let t : ℕ = first_bit u in
    sym (and-true (test_bit a t)) ∙ ap (λ (b : Bool). test_bit a t && b) (sym (tz-bit 64 u (tz-lt 64 u l g))) ∙ sym (bit-and a u t)
    ∙ bit-of-zero (bit_and a u) t z

-- ---- the lowest set bit
pub record Lowest (w t : ℕ) : Type 0 where
  pub inside : t < 64
  pub here : test_bit w t ≡ true
  pub below : (j : ℕ) → j < t → test_bit w j ≡ false

pub first-bit-lowest : (w : ℕ) → w < 2 ^ 64 → 0 < w → Lowest w (first_bit w)
first-bit-lowest w h p =
    let l : first_bit w < 64 = tz-lt 64 w h p in
    record { inside = l; here = tz-bit 64 w l; below = tz-below 64 w }

pub lowest-unique : (w s t : ℕ) → Lowest w s → Lowest w t → s ≡ t
lowest-unique w s t x y = elim (ℕ_discrete s t) [ yes e ↦ e | no f ↦ absurd (apart f) ]
  where
    apart : (s ≡ t → ⊥) → ⊥
    apart f =
        elim (dec_lt s t) [
          | yes l ↦ true≢false (sym x.here ∙ y.below s l)
          | no g ↦ (let l : t < s = omega arith in true≢false (sym y.here ∙ x.below t l))
        ]

pub first-bit-is : (w t : ℕ) → w < 2 ^ 64 → 0 < w → Lowest w t → first_bit w ≡ t
first-bit-is w t h p x = lowest-unique w (first_bit w) t (first-bit-lowest w h p) x

-- 64 is no place: the word is zero
pub first-bit-zero : first_bit 0 ≡ 64
first-bit-zero = trailing_of_zero 64
