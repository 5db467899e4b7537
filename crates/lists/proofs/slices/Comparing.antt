-- `same` beside what the library's methods give: `==` of two slices, and the bits of all the words of one. Assumes nothing.
use mathlib.Core.Bool.{Bool, true, false, ◌&&◌, and-true, and_assoc}
use mathlib.Core.List.{List, [], ◌∷◌}
use mathlib.Core.Path.{◌≡◌, refl, sym, ap, ◌∙◌}
use Prim.Native.Nat.{ℕ}
use lib.Bits.{bit_or}
use lib.Dec.{eqb}
use lib.Pointwise.{pointwise}
use Rattle.std.specs.List.{fold}
use Rattle.lists.specs.Lists.{same, zeroed}
use Rattle.lists.proofs.Tests.{eqb-or}

same-cons : (x y : ℕ) (xs ys : List ℕ) → (eqb x y && same xs ys) ≡ same (x ∷ xs) (y ∷ ys)
unfolding same
same-cons x y xs ys = go (eqb x y)
  where
    go : (b : Bool) → (b && same xs ys) ≡ (elim b as (λ k. Bool) [ true ↦ same xs ys | false ↦ false ])
    go true = refl
    go false = refl

pub same-pointwise : (xs ys : List ℕ) → pointwise eqb xs ys ≡ same xs ys
unfolding same
same-pointwise [] [] = refl
same-pointwise [] (y ∷ ys) = refl
same-pointwise (x ∷ xs) [] = refl
same-pointwise (x ∷ xs) (y ∷ ys) = ap (λ (b : Bool). eqb x y && b) (same-pointwise xs ys) ∙ same-cons x y xs ys

-- the bits of all the words are none where every word is 0
pub bits-none : (xs : List ℕ) (bits : ℕ) → eqb (fold bit_or bits xs) 0 ≡ (eqb bits 0 && same xs (zeroed xs))
unfolding same zeroed
bits-none [] bits = sym (and-true (eqb bits 0))
bits-none (x ∷ xs) bits =
    bits-none xs (bit_or bits x) ∙ ap (λ (b : Bool). b && same xs (zeroed xs)) (eqb-or bits x)
    ∙ and_assoc (eqb bits 0) (eqb x 0) (same xs (zeroed xs))
    ∙ ap (λ (b : Bool). eqb bits 0 && b) (same-cons x 0 xs (zeroed xs))
