-- `is_set` and `is_apart` by the code's tests. Assumes nothing.
use mathlib.Core.Path.{◌≡◌, sym, ap, ap₂, ◌∙◌}
use mathlib.Core.Bool.{Bool, true, false, ◌&&◌, and-true, and_assoc}
use mathlib.Core.List.{List, [], ◌∷◌}
use Prim.Native.Nat.{ℕ, ◌+◌, ◌-◌, ◌*◌, ◌/◌, ◌%◌, ◌^◌, ◌≤◌}
use native.Mathlib.Omega.{arith}
use lib.ListN.{length, get_or, get_or-eq_default}
use lib.Bits.{bit_and, bit_or}
use lib.Dec.{eqb, ltb}
use borrow.Author.Tests.{eq-eqb, ne_eqb, eqb-true}
use Rattle.lists.proofs.Bools.{and_both}
use Rattle.lists.proofs.Tests.{eqb-or}
use Rattle.std.specs.List.{fold, zip}
use Rattle.words.specs.Literal.{word_of, bit_of}
use Rattle.words.specs.Region.{words_for, is_set, apart}
use Rattle.words.proofs.Places.{shl-bit}
use Rattle.words.proofs.Regions.{Words, all_words}

-- ---- is_set
module _ (n : ℕ) (ws : List ℕ) where
  pub set_long : (length ws ≡ (n + 63) / 64 → ⊥) → false ≡ is_set n ws
  unfolding is_set words_for
  set_long f = rw (ne_eqb (length ws) ((n + 63) / 64) f, is_set)

  pub set-length : is_set n ws ≡ true → length ws ≡ words_for n
  unfolding is_set
  set-length e = eqb-true (length ws) (words_for n) (and_both (eqb (length ws) (words_for n)) _ e).0

  -- what is left: the word at n has no bit there or above
  set-top : length ws ≡ (n + 63) / 64 → Words ws → ltb (get_or ws (word_of n) 0) (2 ^ bit_of n) ≡ is_set n ws
  unfolding is_set words_for
  set-top e f = rw (eq-eqb (length ws) ((n + 63) / 64) e, all_words ws f, is_set)

  pub set-even : length ws ≡ (n + 63) / 64 → Words ws → n % 64 ≡ 0 → true ≡ is_set n ws
  unfolding word_of bit_of
  set-even e f z =
      let l : length ws ≤ n / 64 = omega arith in
      sym (ap₂ (λ (x k : ℕ). ltb x (2 ^ k)) (get_or-eq_default ws 0 l) z) ∙ set-top e f

  pub set-odd : length ws ≡ (n + 63) / 64 → Words ws → 1 ≤ n → (n % 64 ≡ 0 → ⊥)
      → ltb (get_or ws ((n - 1) / 64) 0) ((1 * 2 ^ (n % 64)) % 2 ^ 64) ≡ is_set n ws
  unfolding word_of
  set-odd e f h z =
      let w : (n - 1) / 64 ≡ n / 64 = omega arith in
      ap₂ (λ (i k : ℕ). ltb (get_or ws i 0) k) w (shl-bit n) ∙ set-top e f

-- ---- is_apart: the bits that two words share, beside those shared so far
abbrev pub both_bits : ℕ → ℕ × ℕ → ℕ
both_bits shared p = bit_or shared (bit_and p.0 p.1)

pub apart-shared : (hs cs : List ℕ) (shared : ℕ) →
    eqb (fold both_bits shared (zip hs cs)) 0 ≡ (eqb shared 0 && apart hs cs)
unfolding apart
apart-shared [] cs shared = sym (and-true (eqb shared 0))
apart-shared (h ∷ hs) [] shared = sym (and-true (eqb shared 0))
apart-shared (h ∷ hs) (c ∷ cs) shared =
    apart-shared hs cs (bit_or shared (bit_and h c)) ∙ ap (λ (b : Bool). b && apart hs cs) (eqb-or shared (bit_and h c))
    ∙ and_assoc (eqb shared 0) (eqb (bit_and h c) 0) (apart hs cs)
