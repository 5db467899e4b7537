-- `locate`, `contains` and `insert` by the code's own expressions. Assumes nothing.
use mathlib.Core.Path.{◌≡◌, sym, ap, ◌∙◌}
use mathlib.Core.Bool.{false, not}
use mathlib.Core.List.{List}
use Prim.Native.Nat.{ℕ, ◌*◌, ◌/◌, ◌%◌, ◌^◌, ◌≤◌}
use lib.ListN.{length, get_or, set, get_or-eq_default}
use lib.Seq.{set_out}
use lib.Bits.{bit_and, bit_or}
use lib.Dec.{eqb}
use Rattle.words.specs.Bit.{test_bit}
use Rattle.words.specs.Literal.{word_of, bit_of, place_of}
use Rattle.words.specs.Region.{has, mark}
use Rattle.words.specs.declared.Place.{Place}
use Rattle.words.proofs.Bits.{bit-zero, shl_one}
use Rattle.words.proofs.Literals.{bit-of-lt}
use Rattle.words.proofs.Masks.{test_has}

-- the mask of an atom, as the code makes it
pub shl-bit : (a : ℕ) → (1 * 2 ^ (a % 64)) % 2 ^ 64 ≡ 2 ^ bit_of a
unfolding bit_of
shl-bit a = shl_one 64 (a % 64) (bit-of-lt a)

pub place-code : (a : ℕ) → ◌≡◌ {A = Place} (record { word = a / 64; bit = (1 * 2 ^ (a % 64)) % 2 ^ 64 }) (place_of a)
unfolding place_of word_of
place-code a = ap (λ (b : ℕ). record { word = a / 64; bit = b }) (shl-bit a)

-- ---- an atom beyond the words
pub has-beyond : (ws : List ℕ) (a : ℕ) → length ws ≤ word_of a → has ws a ≡ false
unfolding has
has-beyond ws a h = ap (λ (w : ℕ). test_bit w (bit_of a)) (get_or-eq_default ws 0 h) ∙ bit-zero (bit_of a)

pub mark-beyond : (ws : List ℕ) (a : ℕ) → length ws ≤ word_of a → mark ws a ≡ ws
unfolding mark
mark-beyond ws a h = set_out ws (word_of a) (bit_or (get_or ws (word_of a) 0) (2 ^ bit_of a)) h

-- ---- by a place
module _ (ws : List ℕ) (a : ℕ) (p : Place) where
  pub contains-place : p ≡ place_of a → not (eqb (bit_and (get_or ws p.word 0) p.bit) 0) ≡ has ws a
  unfolding has place_of
  contains-place e =
      ap (λ (q : Place). not (eqb (bit_and (get_or ws q.word 0) q.bit) 0)) e ∙ test_has (get_or ws (word_of a) 0) (bit_of a)

  pub contains-out : p ≡ place_of a → length ws ≤ p.word → false ≡ has ws a
  unfolding place_of
  contains-out e h = sym (has-beyond ws a (rw e at h))

  pub insert-place : p ≡ place_of a → set ws p.word (bit_or (get_or ws p.word 0) p.bit) ≡ mark ws a
  unfolding mark place_of
  insert-place e = ap (λ (q : Place). set ws q.word (bit_or (get_or ws q.word 0) q.bit)) e

  pub insert-out : p ≡ place_of a → length ws ≤ p.word → ws ≡ mark ws a
  unfolding place_of
  insert-out e h = sym (mark-beyond ws a (rw e at h))
