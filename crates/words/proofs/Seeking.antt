-- `next_from`: the walk over the words, and the first atom that it meets. Assumes nothing.
use mathlib.Core.Path.{◌≡◌, refl, sym, ap, ap₂, ◌∙◌}
use mathlib.Core.Logic.{⊎_elim}
use mathlib.Core.Bool.{Bool, true, false, ◌&&◌}
use mathlib.Core.List.{List}
use mathlib.Core.Option.{none, some}
use Prim.Native.Nat.{ℕ, zero, suc, ◌+◌, ◌-◌, ◌*◌, ◌/◌, ◌%◌, ◌^◌, ◌≤◌, ◌<◌, min}
use native.Mathlib.Nat.{le_refl, eq-or-lt_of_le, lt_of_le_of_lt}
use native.Mathlib.Decide.{dec_lt, dec_le}
use native.Mathlib.Omega.{arith}
use lib.ListN.{length, get_or}
use lib.Bits.{bit_and, and_le_l}
use lib.Dec.{leb}
use borrow.Author.Tests.{le-leb, lt-leb, leb-true, lt-ltb}
use Rattle.lists.specs.Lists.{first, select, range}
use Rattle.lists.proofs.Bools.{and_both, and_second}
use Rattle.words.specs.Bit.{test_bit, first_bit}
use Rattle.words.specs.Literal.{word_of}
use Rattle.words.specs.Region.{has, next_from}
use Rattle.words.proofs.Bits.{bit-and, bit-from, bit-ones}
use Rattle.words.proofs.Masks.{Lowest, first-bit-lowest, bit-of-zero}
use Rattle.words.proofs.Places.{has-beyond}
use Rattle.words.proofs.Regions.{Words, at_place}

-- ---- the first of a run of numbers that passes a test
first-none : (f : ℕ → Bool) (n i : ℕ) → ((j : ℕ) → i ≤ j → j < i + n → f j ≡ false) → first (select f (range i n)) ≡ none
unfolding first select range
first-none f zero i h = refl
first-none f (suc n) i h = rw (h i (le_refl i) (omega arith)) (first-none f n (suc i) (λ j a b. h j (omega arith) (omega arith)))

first-at : (f : ℕ → Bool) (n i t : ℕ) → i ≤ t → t < i + n → f t ≡ true → ((j : ℕ) → i ≤ j → j < t → f j ≡ false)
    → first (select f (range i n)) ≡ some t
unfolding first select range
first-at f zero i t a b e h = absurd (omega arith)
first-at f (suc n) i t a b e h =
    ⊎_elim
    (λ (q : i ≡ t). rw (ap f q ∙ e) (ap some q))
    (λ q. rw (h i (le_refl i) q) (first-at f n (suc i) t q (omega arith) e (λ j c d. h j (omega arith) d)))
    (eq-or-lt_of_le a)

-- no atom from a on below n, and a first one
pub next-none : (n : ℕ) (ws : List ℕ) (a : ℕ) → ((j : ℕ) → a ≤ j → j < n → has ws j ≡ false) → next_from n ws a ≡ none
unfolding next_from
next-none n ws a h = first-none (has ws) (n - a) a (λ j p q. h j p (omega arith))

pub next-at : (n : ℕ) (ws : List ℕ) (a t : ℕ) → a ≤ t → t < n → has ws t ≡ true → ((j : ℕ) → a ≤ j → j < t → has ws j ≡ false)
    → next_from n ws a ≡ some t
unfolding next_from
next-at n ws a t p q e h = first-at (has ws) (n - a) a t p (omega arith) e h

-- ---- the walk: no atom from a on before word w, and the mask has the places of word w from a on
pub record Seeking (ws : List ℕ) (a w mask : ℕ) : Type 0 where
  pub passed : (j : ℕ) → a ≤ j → j < w * 64 → has ws j ≡ false
  pub mask_is : (i : ℕ) → i < 64 → test_bit mask i ≡ leb a (w * 64 + i)

leb-same : (a b c d : ℕ) → (a ≤ b → c ≤ d) → (c ≤ d → a ≤ b) → leb a b ≡ leb c d
leb-same a b c d f g =
    elim (dec_le a b) [
      | yes h ↦ le-leb a b h ∙ sym (le-leb c d (f h))
      | no h ↦ lt-leb a b (omega arith) ∙ sym (lt-leb c d (elim (dec_le c d) [ yes q ↦ absurd (h (g q)) | no q ↦ omega arith ]))
    ]

pub seek-start : (ws : List ℕ) (a : ℕ) → Seeking ws a (a / 64) (((2 ^ 64 - 1) * 2 ^ (a % 64)) % 2 ^ 64)
seek-start ws a = record {
  passed = λ j p q. absurd (low j p q);
  mask_is = λ i l. bit-from (a % 64) i l ∙ leb-same (a % 64) i a (a / 64 * 64 + i) (λ h. omega arith) (λ h. omega arith);
}
  where
    low : (j : ℕ) → a ≤ j → j < a / 64 * 64 → ⊥
    low j p q = omega arith

module _ (ws : List ℕ) (a w mask : ℕ) where
  -- `words[w] & mask`
  abbrev selected : ℕ
  selected = bit_and (get_or ws w 0) mask

  selected-bit : Seeking ws a w mask → (i : ℕ) → i < 64 → test_bit selected i ≡ (has ws (w * 64 + i) && leb a (w * 64 + i))
  selected-bit s i l = bit-and (get_or ws w 0) mask i ∙ ap₂ (λ (x y : Bool). x && y) (sym (at_place ws w i l)) (s.mask_is i l)

  -- below place t of word w nothing is selected, so there is no atom before it
  before : Seeking ws a w mask → (t : ℕ) → t ≤ 64 → ((i : ℕ) → i < t → test_bit selected i ≡ false)
      → (j : ℕ) → a ≤ j → j < w * 64 + t → has ws j ≡ false
  before s t m f j p q =
      elim (dec_lt j (w * 64)) [
        | yes h ↦ s.passed j p h
        | no h ↦
            (let i : ℕ = j - w * 64 in
            let e : w * 64 + i ≡ j = omega arith in
            let l : i < t = omega arith in
            let k : i < 64 = omega arith in
            ap (has ws) (sym e)
            ∙ and_second (has ws (w * 64 + i)) (leb a (w * 64 + i)) (sym (selected-bit s i k) ∙ f i l)
            (le-leb a (w * 64 + i) (omega arith)))
      ]

  lowest : Words ws → 0 < selected → Lowest selected (first_bit selected)
  lowest f g = first-bit-lowest selected (lt_of_le_of_lt (and_le_l (get_or ws w 0) mask) (f w)) g

  pub seek-on : Seeking ws a w mask → a / 64 ≤ w → bit_and (get_or ws w 0) mask ≡ 0 → Seeking ws a (w + 1) (2 ^ 64 - 1)
  seek-on s h z = record {
    passed = λ j p q. before s 64 (le_refl 64) (λ i l. bit-of-zero selected i z) j p (omega arith);
    mask_is = λ i l. bit-ones 64 i ∙ lt-ltb i 64 l ∙ sym (le-leb a ((w + 1) * 64 + i) (omega arith));
  }

  -- the walk is past the words that reach below n
  pub seek-none : (n : ℕ) → Seeking ws a w mask → min (length ws) (n / 64 + 1) ≤ w → none ≡ next_from n ws a
  unfolding word_of
  seek-none n s h =
      sym (next-none n ws a (λ j p q. elim (dec_lt j (w * 64)) [ yes l ↦ s.passed j p l | no l ↦ has-beyond ws j (past j q l) ]))
    where
      past : (j : ℕ) → j < n → (j < w * 64 → ⊥) → length ws ≤ word_of j
      past j q l = omega arith

  pub first-lt : Words ws → 0 < bit_and (get_or ws w 0) mask → first_bit (bit_and (get_or ws w 0) mask) < 64
  first-lt f g = (lowest f g).inside

  -- the first atom is in this word: below n, or not
  pub seek_found : (n : ℕ) → Seeking ws a w mask → Words ws → 0 < bit_and (get_or ws w 0) mask
      → w * 64 + first_bit (bit_and (get_or ws w 0) mask) < n → some (w * 64 + first_bit (bit_and (get_or ws w 0) mask)) ≡ next_from n ws a
  seek_found n s f g l =
      let t : ℕ = first_bit selected in
      let k = lowest f g in
      let b = and_both (has ws (w * 64 + t)) (leb a (w * 64 + t)) (sym (selected-bit s t k.inside) ∙ k.here) in
      sym (next-at n ws a (w * 64 + t) (leb-true a (w * 64 + t) b.1) l b.0 (before s t (omega (arith, k.inside)) k.below))

  pub seek-past : (n : ℕ) → Seeking ws a w mask → Words ws → 0 < bit_and (get_or ws w 0) mask
      → n ≤ w * 64 + first_bit (bit_and (get_or ws w 0) mask) → none ≡ next_from n ws a
  seek-past n s f g l =
      let k = lowest f g in
      sym (next-none n ws a (λ j p q. before s (first_bit selected) (omega (arith, k.inside)) k.below j p (omega arith)))
