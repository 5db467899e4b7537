-- The laws of the tests on lists: `all`, `any`, `same`, `below`, `ascending`. Assumes nothing.
use mathlib.Core.Bool.{Bool, true, false, ◌&&◌, ◌||◌, false≢true, or-true}
use mathlib.Core.List.{List, [], ◌∷◌, ◌++◌}
use mathlib.Core.Path.{◌≡◌, refl, sym, ap, ap₂, ◌∙◌}
use Prim.Native.Nat.{ℕ, zero, suc, ◌+◌, ◌≤◌, ◌<◌}
use native.Mathlib.Numerals.{add-one}
use native.Mathlib.Omega.{arith}
use lib.Bits.{bit_or, or_add_and, and_le_l, and_le_r}
use lib.Dec.{eqb, ltb}
use lib.ListN.{length, get_or, take, drop}
use lib.Seq.{drop-cons}
use borrow.Author.Tests.{eqb-true, eq-eqb, lt-ltb, ltb-true, le-ltb}
use Rattle.lists.specs.Counts.{is, times, Each, Sorted}
use Rattle.lists.specs.Lists.{all, any, same, above, ascending, below}
use Rattle.lists.proofs.Counts.{is_le, is_pos, each_at, each_index, each-cons, each_none}
use Rattle.lists.proofs.Bools.{and_both, and_yes, and-false, and_assoc, or_assoc}

-- ---- `all` and `any`
module _ {A : Type 0} (f : A → Bool) where
  pub all_append : (xs ys : List A) → all f (xs ++ ys) ≡ (all f xs && all f ys)
  unfolding all
  all_append [] ys = refl
  all_append (x ∷ xs) ys = ap (λ (b : Bool). f x && b) (all_append xs ys) ∙ sym (and_assoc (f x) (all f xs) (all f ys))

  pub all-at : (xs : List A) (i : ℕ) (d : A) → all f xs ≡ true → i < length xs → f (get_or xs i d) ≡ true
  unfolding all
  all-at [] i d e l = absurd (omega arith)
  all-at (x ∷ xs) zero d e l = (and_both (f x) (all f xs) e).0
  all-at (x ∷ xs) (suc i) d e l = all-at xs i d (and_both (f x) (all f xs) e).1 (omega arith)

  pub all_yes : (xs : List A) (d : A) → ((i : ℕ) → i < length xs → f (get_or xs i d) ≡ true) → all f xs ≡ true
  unfolding all
  all_yes [] d h = refl
  all_yes (x ∷ xs) d h = and_yes (f x) (all f xs) (h 0 (omega arith)) (all_yes xs d (λ i l. h (suc i) (omega arith)))

  pub all-no : (xs : List A) (i : ℕ) (d : A) → i < length xs → f (get_or xs i d) ≡ false → all f xs ≡ false
  unfolding all
  all-no [] i d l e = absurd (omega arith)
  all-no (x ∷ xs) zero d l e = rw (e, all)
  all-no (x ∷ xs) (suc i) d l e = ap (λ (b : Bool). f x && b) (all-no xs i d (omega arith) e) ∙ and-false (f x)

  -- a turn of a loop over the list
  pub all_drop : (xs : List A) (i : ℕ) (d : A) → i < length xs →
      all f (drop i xs) ≡ (f (get_or xs i d) && all f (drop (i + 1) xs))
  unfolding all
  all_drop xs i d l =
      ap (all f) (drop-cons xs i d l) ∙ ap (λ (k : ℕ). f (get_or xs i d) && all f (drop k xs)) (sym (add-one i))

  pub any_append : (xs ys : List A) → any f (xs ++ ys) ≡ (any f xs || any f ys)
  unfolding any
  any_append [] ys = refl
  any_append (x ∷ xs) ys = ap (λ (b : Bool). f x || b) (any_append xs ys) ∙ sym (or_assoc (f x) (any f xs) (any f ys))

  pub any-drop : (xs : List A) (i : ℕ) (d : A) → i < length xs →
      any f (drop i xs) ≡ (f (get_or xs i d) || any f (drop (i + 1) xs))
  unfolding any
  any-drop xs i d l =
      ap (any f) (drop-cons xs i d l) ∙ ap (λ (k : ℕ). f (get_or xs i d) || any f (drop k xs)) (sym (add-one i))

  pub any_at : (xs : List A) (i : ℕ) (d : A) → i < length xs → f (get_or xs i d) ≡ true → any f xs ≡ true
  unfolding any
  any_at [] i d l e = absurd (omega arith)
  any_at (x ∷ xs) zero d l e = rw (e, any)
  any_at (x ∷ xs) (suc i) d l e = ap (λ (b : Bool). f x || b) (any_at xs i d (omega arith) e) ∙ or-true (f x)

  pub any_none : (xs : List A) → ((x : A) → f x ≡ false) → any f xs ≡ false
  unfolding any
  any_none [] h = refl
  any_none (x ∷ xs) h = ap (λ (b : Bool). b || any f xs) (h x) ∙ any_none xs h

  -- one of two tests
  pub any-either : (g h : A → Bool) → ((x : A) → h x ≡ (f x || g x)) → (xs : List A) → any h xs ≡ (any f xs || any g xs)
  unfolding any
  any-either g h e [] = refl
  any-either g h e (x ∷ xs) = ap₂ ◌||◌ (e x) (any-either g h e xs) ∙ swap (f x) (g x) (any f xs) (any g xs)
    where
      swap : (a b c d : Bool) → ((a || b) || (c || d)) ≡ ((a || c) || (b || d))
      swap true b c d = refl
      swap false true true d = refl
      swap false true false d = refl
      swap false false c d = refl

-- ---- `same`
pub same_refl : (xs : List ℕ) → same xs xs ≡ true
unfolding same
same_refl [] = refl
same_refl (x ∷ xs) = rw (eq-eqb x x refl, same) (same_refl xs)

pub same-yes : (xs ys : List ℕ) → xs ≡ ys → same xs ys ≡ true
same-yes xs ys e = rw e (same_refl ys)

pub same_true : (xs ys : List ℕ) → same xs ys ≡ true → xs ≡ ys
unfolding same
same_true [] [] e = refl
same_true [] (y ∷ ys) e = absurd (false≢true e)
same_true (x ∷ xs) [] e = absurd (false≢true e)
same_true (x ∷ xs) (y ∷ ys) e = go (eqb x y) refl e (same_true xs ys)
  where
    go : (b : Bool) → eqb x y ≡ b → (elim b as (λ k. Bool) [ true ↦ same xs ys | false ↦ false ]) ≡ true →
        (same xs ys ≡ true → xs ≡ ys) → x ∷ xs ≡ y ∷ ys
    go true f g k = rw (eqb-true x y f, k g)
    go false f g k = absurd (false≢true g)

pub same-no : (xs ys : List ℕ) → (xs ≡ ys → ⊥) → same xs ys ≡ false
same-no xs ys n = go (same xs ys) refl
  where
    go : (b : Bool) → same xs ys ≡ b → b ≡ false
    go true e = absurd (n (same_true xs ys e))
    go false e = refl

pub same_false : (xs ys : List ℕ) → same xs ys ≡ false → xs ≡ ys → ⊥
same_false xs ys e f = false≢true (sym e ∙ same-yes xs ys f)

-- of a list in two parts
pub same-append : (n : ℕ) (ws xs ys : List ℕ) → n ≤ length ws → length xs ≡ n →
    same ws (xs ++ ys) ≡ (same (take n ws) xs && same (drop n ws) ys)
unfolding same
same-append zero ws [] ys l e = refl
same-append zero ws (x ∷ xs) ys l e = absurd (omega arith)
same-append (suc n) ws [] ys l e = absurd (omega arith)
same-append (suc n) [] (x ∷ xs) ys l e = absurd (omega arith)
same-append (suc n) (w ∷ ws) (x ∷ xs) ys l e = go (eqb w x) (same-append n ws xs ys (omega arith) (omega arith))
  where
    go : (b : Bool) → same ws (xs ++ ys) ≡ (same (take n ws) xs && same (drop n ws) ys) →
        (elim b as (λ k. Bool) [ true ↦ same ws (xs ++ ys) | false ↦ false ])
        ≡ ((elim b as (λ k. Bool) [ true ↦ same (take n ws) xs | false ↦ false ]) && same (drop n ws) ys)
    go true ih = ih
    go false ih = refl

-- ---- `below` and `ascending`
pub below_each : (n : ℕ) (xs : List ℕ) → below n xs ≡ true → Each (λ v. v < n) xs
unfolding below
below_each n xs e = each_index (λ v. v < n) xs (λ i l. ltb-true (get_or xs i 0) n (all-at (λ x. ltb x n) xs i 0 e l))

pub each_below : (n : ℕ) (xs : List ℕ) → Each (λ v. v < n) xs → below n xs ≡ true
unfolding below
each_below n xs f =
    all_yes (λ x. ltb x n) xs 0 (λ i l. lt-ltb (get_or xs i 0) n (each_at (λ v. v < n) xs i f l))

-- a turn of a loop that keeps the last number
pub above-yes : (x y : ℕ) (ys : List ℕ) → x < y → above x (y ∷ ys) ≡ above y ys
unfolding above
above-yes x y ys l = rw (lt-ltb x y l, above)

pub above-no : (x y : ℕ) (ys : List ℕ) → y ≤ x → above x (y ∷ ys) ≡ false
unfolding above
above-no x y ys l = rw (le-ltb x y l, above)

above-true : (x y : ℕ) (ys : List ℕ) → above x (y ∷ ys) ≡ true → (x < y) × (above y ys ≡ true)
unfolding above
above-true x y ys e = go (ltb x y) refl e
  where
    go : (b : Bool) → ltb x y ≡ b → (elim b as (λ k. Bool) [ true ↦ above y ys | false ↦ false ]) ≡ true →
        (x < y) × (above y ys ≡ true)
    go true f g = (ltb-true x y f, g)
    go false f g = absurd (false≢true g)

pub above-each : (x : ℕ) (ys : List ℕ) → above x ys ≡ true → Each (λ v. x < v) ys
above-each x [] e = λ v h. absurd (omega arith)
above-each x (y ∷ ys) e =
    let r = above-true x y ys e in
    each-cons (λ v. x < v) y ys r.0 (λ v h. let k = above-each y ys r.1 v h in omega (arith, r.0))

-- strictly ascending lists ascend
above-sorted : (x : ℕ) (ys : List ℕ) → above x ys ≡ true → Sorted ys
above-sorted x [] e = tt
above-sorted x (y ∷ ys) e =
    let r = above-true x y ys e in
    ((λ v h. let k = above-each y ys r.1 v h in omega arith), above-sorted y ys r.1)

above-once : (x : ℕ) (ys : List ℕ) (v : ℕ) → above x ys ≡ true → is v x + times v ys ≤ 1
above-once x [] v e = omega (arith, is_le v x)
above-once x (y ∷ ys) v e = go (is v x) refl (above-once y ys v (above-true x y ys e).1)
  where
    go : (n : ℕ) → is v x ≡ n → is v y + times v ys ≤ 1 → is v x + (is v y + times v ys) ≤ 1
    go zero f ih = omega arith
    go (suc n) f ih =
        let h : v ≡ x = is_pos v x (omega arith) in
        let z = each_none (λ u. x < u) v (y ∷ ys) (above-each x (y ∷ ys) e) (λ k. omega arith) in
        omega (arith, is_le v x)

pub ascending-sorted : (xs : List ℕ) → ascending xs ≡ true → Sorted xs
unfolding ascending
ascending-sorted [] e = tt
ascending-sorted (x ∷ xs) e = ((λ v h. let k = above-each x xs e v h in omega arith), above-sorted x xs e)

pub ascending-once : (xs : List ℕ) (v : ℕ) → ascending xs ≡ true → times v xs ≤ 1
unfolding ascending
ascending-once [] v e = omega arith
ascending-once (x ∷ xs) v e = above-once x xs v e

-- ---- the bits of two numbers are none where neither has one
pub eqb-or : (a b : ℕ) → eqb (bit_or a b) 0 ≡ (eqb a 0 && eqb b 0)
eqb-or a b =
    let s = or_add_and a b in
    let l = and_le_l a b in
    let r = and_le_r a b in
    grind arith
