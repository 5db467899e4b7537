-- The postings that are 0: of an ascending list they come first, and row 0 tells how many there are. Assumes nothing.
use mathlib.Core.Path.{◌≡◌, refl, sym, ◌∙◌}
use mathlib.Core.Logic.{◌⊎◌, inl, inr}
use mathlib.Core.List.{List, [], ◌∷◌, map}
use Prim.Native.Nat.{ℕ, zero, suc, ◌+◌, ◌/◌, ◌≤◌, ◌<◌, min}
use native.Mathlib.Omega.{arith}
use lib.ListN.{length, get_or}
use Rattle.lists.specs.Lists.{distinct}
use Rattle.lists.specs.Counts.{is, times, Sorted}
use Rattle.lists.proofs.Counts.{same_or, is-equal, is-other, each_none, times-at}
use Rattle.lists.proofs.Sorts.{distinct-sorted}
use Rattle.words.specs.Literal.{atom}
use Rattle.postings.specs.Searching.{zero_first}

pub distinct-zero : (xs : List ℕ) → Sorted xs → times 0 (distinct xs) ≡ zero_first xs
unfolding zero_first
distinct-zero [] s = (distinct-sorted [] s).once 0
distinct-zero (x ∷ xs) s = (distinct-sorted (x ∷ xs) s).once 0 ∙ go (same_or 0 x)
  where
    go : (0 ≡ x) ⊎ (0 ≡ x → ⊥) → min 1 (is 0 x + times 0 xs) ≡ is 0 x
    go (inl e) = omega (arith, is-equal 0 x e)
    go (inr n) = omega (arith, is-other 0 x n, each_none (λ v. x ≤ v) 0 xs s.0 (λ h. n (omega arith)))

-- in an ascending list the zeros come first
pub zeros-first : (xs : List ℕ) (i : ℕ) → Sorted xs → times 0 xs ≤ i → i < length xs → 0 < get_or xs i 0
zeros-first [] i s h l = absurd (omega arith)
zeros-first (x ∷ xs) i s h l = go (same_or 0 x) i h l (zeros-first xs)
  where
    go : (0 ≡ x) ⊎ (0 ≡ x → ⊥) → (i : ℕ) → is 0 x + times 0 xs ≤ i → i < suc (length xs) →
        ((j : ℕ) → Sorted xs → times 0 xs ≤ j → j < length xs → 0 < get_or xs j 0) → 0 < get_or (x ∷ xs) i 0
    go (inl e) zero h l ih = absurd (omega (arith, is-equal 0 x e))
    go (inl e) (suc i) h l ih = ih i s.1 (omega (arith, is-equal 0 x e)) (omega arith)
    go (inr n) zero h l ih = omega (arith, n)
    go (inr n) (suc i) h l ih = omega (arith, n, s.0 (get_or xs i 0) (times-at xs i (omega arith)))

-- ---- the first literal of a side
pub zero-yes : (c : ℕ) (cs : List ℕ) → c / 2 ≡ 0 → zero_first (map atom (c ∷ cs)) ≡ 1
unfolding zero_first atom
zero-yes c cs e = is-equal 0 (c / 2) (sym e)

pub zero-no : (c : ℕ) (cs : List ℕ) → (c / 2 ≡ 0 → ⊥) → zero_first (map atom (c ∷ cs)) ≡ 0
unfolding zero_first atom
zero-no c cs n = is-other 0 (c / 2) (λ e. n (sym e))

pub zero-none : zero_first (map atom []) ≡ 0
unfolding zero_first
zero-none = refl
