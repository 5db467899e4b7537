-- The comparison of two numbers, by the way they stand. Assumes nothing.
use mathlib.Core.Path.{◌≡◌, refl}
use mathlib.Core.Bool.{true, false, true≢false, false≢true}
use Prim.Native.Nat.{ℕ, ◌<◌, compare, Ordering}
use native.Mathlib.Omega.{arith}
use lib.Dec.{is_le, compare_is_eq}
use borrow.Author.Tests.{le-leb, lt-leb, eq-eqb, ne_eqb}

pub compare-lt : (a b : ℕ) → a < b → compare a b ≡ Ordering.lt
compare-lt a b h = go (compare a b) (le-leb a b (omega arith)) (ne_eqb a b (λ e. omega arith))
  where
    go : (o : Ordering) → is_le o ≡ true → compare_is_eq o ≡ false → o ≡ Ordering.lt
    go Ordering.lt l n = refl
    go Ordering.eq l n = absurd (true≢false n)
    go Ordering.gt l n = absurd (false≢true l)

pub compare-eq : (a b : ℕ) → a ≡ b → compare a b ≡ Ordering.eq
compare-eq a b h = go (compare a b) (eq-eqb a b h)
  where
    go : (o : Ordering) → compare_is_eq o ≡ true → o ≡ Ordering.eq
    go Ordering.lt e = absurd (false≢true e)
    go Ordering.eq e = refl
    go Ordering.gt e = absurd (false≢true e)

pub compare-gt : (a b : ℕ) → b < a → compare a b ≡ Ordering.gt
compare-gt a b h = go (compare a b) (lt-leb a b h)
  where
    go : (o : Ordering) → is_le o ≡ false → o ≡ Ordering.gt
    go Ordering.lt e = absurd (true≢false e)
    go Ordering.eq e = absurd (true≢false e)
    go Ordering.gt e = refl
