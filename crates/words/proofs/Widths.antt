-- 02, Seven: the atoms, codes and words of atoms that codes of w bits have. Assumes nothing.
use mathlib.Core.Path.{◌≡◌, refl, sym, ap, ◌∙◌}
use Prim.Native.Nat.{ℕ, suc, ◌+◌, ◌-◌, ◌*◌, ◌/◌, ◌^◌, ◌≤◌, ◌<◌}
use native.Mathlib.Omega.{arith}
use Rattle.words.specs.Bit.{word_bits}
use Rattle.words.specs.Literal.{code_bits, atoms_wide, codes_wide, words_wide, atom, word_of}
use Rattle.words.specs.Region.{max_atoms, words_for}

-- the codes are those below 2 ^ w
pub codes-in : (w : ℕ) → 1 ≤ w → codes_wide w ≡ 2 ^ w
codes-in w l = twice (w - 1) ∙ ap (λ (k : ℕ). 2 ^ k) (sym e)
  where
    twice : (k : ℕ) → 2 * 2 ^ k ≡ 2 ^ suc k
    twice k = omega arith

    e : w ≡ suc (w - 1)
    e = omega arith

-- the words of n of the atoms
pub words-for-le : (w n : ℕ) → n ≤ atoms_wide w → words_for n ≤ words_wide w
unfolding words_for
words-for-le w n h = let e : words_wide w ≡ (atoms_wide w + (word_bits - 1)) / word_bits = refl in omega arith

-- from 7 bits on the atoms fill whole words
whole : (k : ℕ) → let n = suc (suc (suc (suc (suc (suc k))))) in word_bits * ((2 ^ n + (word_bits - 1)) / word_bits) ≡ 2 ^ n
whole k = omega arith

words-whole : (w : ℕ) → 7 ≤ w → word_bits * words_wide w ≡ atoms_wide w
words-whole w l =
    ap (λ (k : ℕ). word_bits * ((2 ^ k + (word_bits - 1)) / word_bits)) e ∙ (whole (w - 7) ∙ ap (λ (k : ℕ). 2 ^ k) (sym e))
  where
    e : w - 1 ≡ suc (suc (suc (suc (suc (suc (w - 7))))))
    e = omega arith

-- so a code whose atom stands in one of the words is one of the codes
pub code-in-word : (w c x : ℕ) → 7 ≤ w → word_of (atom c) ≡ x → x < words_wide w → c < codes_wide w
unfolding word_of atom
code-in-word w c x l e h = let k : codes_wide w ≡ 2 * atoms_wide w = refl in omega (arith, words-whole w l)

-- the ledger's atoms have codes of its width
pub most-coded : max_atoms ≤ atoms_wide code_bits
most-coded = omega arith
