-- Literals by atom and sign: the code of both, both of a code, and the opposite. Assumes nothing.
use mathlib.Core.Path.{◌≡◌, refl, sym, ap, ap₂, ◌∙◌}
use mathlib.Core.Bool.{Bool, true, false, not}
use Prim.Native.Nat.{ℕ, ◌+◌, ◌-◌, ◌*◌, ◌%◌, ◌<◌}
use native.Mathlib.Decide.{ℕ_discrete}
use native.Mathlib.Omega.{arith}
use lib.Dec.{eqb}
use borrow.Author.Tests.{eq-eqb, ne_eqb, eqb-true, eqb-false}
use Rattle.words.specs.Literal.{atom, is_present, code, opposite, word_of, bit_of}

-- ---- an atom is its word and its bit
pub word-bit : (a : ℕ) → word_of a * 64 + bit_of a ≡ a
unfolding word_of bit_of
word-bit a = omega arith

pub bit-of-lt : (a : ℕ) → bit_of a < 64
unfolding bit_of
bit-of-lt a = omega arith

pub word-place : (x i : ℕ) → i < 64 → word_of (x * 64 + i) ≡ x
unfolding word_of
word-place x i l = omega arith

pub bit-place : (x i : ℕ) → i < 64 → bit_of (x * 64 + i) ≡ i
unfolding bit_of
bit-place x i l = omega arith

-- ---- the code of an atom and a sign, and both of a code
pub code-present : (a : ℕ) → code a true ≡ 2 * a + 1
unfolding code
code-present a = refl

pub code-absent : (a : ℕ) → code a false ≡ 2 * a
unfolding code
code-absent a = refl

pub atom-code : (a : ℕ) (p : Bool) → atom (code a p) ≡ a
unfolding atom code
atom-code a true = omega arith
atom-code a false = omega arith

pub atom-even : (a : ℕ) → atom (2 * a) ≡ a
unfolding atom
atom-even a = omega arith

pub atom-odd : (a : ℕ) → atom (2 * a + 1) ≡ a
unfolding atom
atom-odd a = omega arith

pub present-code : (a : ℕ) (p : Bool) → is_present (code a p) ≡ p
unfolding is_present code
present-code a true = eq-eqb ((2 * a + 1) % 2) 1 (omega arith)
present-code a false = ne_eqb ((2 * a) % 2) 1 (λ e. omega arith)

-- the code of a literal's atom and sign
pub code-parts : (c : ℕ) → code (atom c) (is_present c) ≡ c
unfolding atom is_present code
code-parts c = go (is_present c) refl
  where
    go : (p : Bool) → is_present c ≡ p → code (atom c) p ≡ c
    go true e = omega (arith, eqb-true (c % 2) 1 e)
    go false e = let f : (c % 2 ≡ 1 → ⊥) = eqb-false (c % 2) 1 e in omega arith

-- ---- two literals: equal if atom and sign are
pub literal-ext : (c d : ℕ) → atom c ≡ atom d → is_present c ≡ is_present d → c ≡ d
literal-ext c d p q = sym (code-parts c) ∙ ap₂ code p q ∙ code-parts d

pub same_sign : (c d : ℕ) → is_present c ≡ is_present d → eqb (atom c) (atom d) ≡ eqb c d
same_sign c d e =
    elim (ℕ_discrete c d) [
      | yes q ↦ eq-eqb (atom c) (atom d) (ap atom q) ∙ sym (eq-eqb c d q)
      | no f ↦ ne_eqb (atom c) (atom d) (λ q. f (literal-ext c d q e)) ∙ sym (ne_eqb c d f)
    ]

pub other_sign : (c d : ℕ) → (is_present c ≡ is_present d → ⊥) → eqb c d ≡ false
other_sign c d f = ne_eqb c d (λ e. f (ap is_present e))

-- ---- the opposite: the same atom, the other sign
code-less : (a : ℕ) → code a true - 1 ≡ code a false
unfolding code
code-less a = omega arith

code-more : (a : ℕ) → code a false + 1 ≡ code a true
unfolding code
code-more a = refl

pub opposite-code : (a : ℕ) (p : Bool) → opposite (code a p) ≡ code a (not p)
unfolding opposite
opposite-code a true = rw (present-code a true, opposite) (code-less a)
opposite-code a false = rw (present-code a false, opposite) (code-more a)

pub opposite_parts : (c : ℕ) → opposite c ≡ code (atom c) (not (is_present c))
opposite_parts c = ap opposite (sym (code-parts c)) ∙ opposite-code (atom c) (is_present c)

pub atom-opposite : (c : ℕ) → atom (opposite c) ≡ atom c
atom-opposite c = ap atom (opposite_parts c) ∙ atom-code (atom c) (not (is_present c))

pub present-opposite : (c : ℕ) → is_present (opposite c) ≡ not (is_present c)
present-opposite c = ap is_present (opposite_parts c) ∙ present-code (atom c) (not (is_present c))

pub opposite-twice : (c : ℕ) → opposite (opposite c) ≡ c
opposite-twice c =
    literal-ext (opposite (opposite c)) c (atom-opposite (opposite c) ∙ atom-opposite c)
    (present-opposite (opposite c) ∙ ap not (present-opposite c) ∙ twice (is_present c))
  where
    twice : (p : Bool) → not (not p) ≡ p
    twice true = refl
    twice false = refl
