-- The laws of `select`, `range`, `up_to` and `adjust`. Assumes nothing.
use mathlib.Core.Bool.{Bool, true, false, ◌||◌}
use mathlib.Core.List.{List, [], ◌∷◌, ◌++◌, map}
use mathlib.Core.Path.{◌≡◌, refl, sym, ap, ◌∙◌}
use Prim.Native.Nat.{ℕ, zero, suc, ◌+◌, ◌-◌, ◌≤◌, ◌<◌}
use native.Mathlib.Numerals.{add-one}
use native.Mathlib.Omega.{arith}
use lib.ListN.{length, get_or, set, drop}
use lib.Seq.{drop-cons}
use Rattle.lists.specs.Counts.{Each}
use Rattle.lists.specs.Lists.{any, select, filled, adjust, range, up_to}
use Rattle.lists.proofs.Counts.{times-select-yes, times-select-no, each_at, each-cons, each-head, each_tail}

-- ---- `select`
module _ {A : Type 0} (f : A → Bool) where
  pub select_yes : (x : A) (xs : List A) → f x ≡ true → select f (x ∷ xs) ≡ x ∷ select f xs
  unfolding select
  select_yes x xs e = rw (e, select)

  pub select_no : (x : A) (xs : List A) → f x ≡ false → select f (x ∷ xs) ≡ select f xs
  unfolding select
  select_no x xs e = rw (e, select)

  pub select-append : (xs ys : List A) → select f (xs ++ ys) ≡ select f xs ++ select f ys
  unfolding select
  select-append [] ys = refl
  select-append (x ∷ xs) ys = go (f x) (select-append xs ys)
    where
      go : (b : Bool) → select f (xs ++ ys) ≡ select f xs ++ select f ys →
          (elim b as (λ k. List A) [ true ↦ x ∷ select f (xs ++ ys) | false ↦ select f (xs ++ ys) ])
          ≡ (elim b as (λ k. List A) [ true ↦ x ∷ select f xs | false ↦ select f xs ]) ++ select f ys
      go true ih = ap (λ (r : List A). x ∷ r) ih
      go false ih = ih

  -- some element passes a test exactly if there is one to select
  pub any-select : (xs : List A) → any f xs ≡ filled (select f xs)
  unfolding any select
  any-select [] = refl
  any-select (x ∷ xs) = go (f x) (any-select xs)
    where
      go : (b : Bool) → any f xs ≡ filled (select f xs) →
          (b || any f xs) ≡ filled {A = A} (elim b as (λ k. List A) [ true ↦ x ∷ select f xs | false ↦ select f xs ])
      go true ih = refl
      go false ih = ih

  pub select_short : (xs : List A) → length (select f xs) ≤ length xs
  unfolding select
  select_short [] = omega arith
  select_short (x ∷ xs) = go (f x) (select_short xs)
    where
      go : (b : Bool) → length (select f xs) ≤ length xs →
          length {A = A} (elim b as (λ k. List A) [ true ↦ x ∷ select f xs | false ↦ select f xs ]) ≤ suc (length xs)
      go true ih = omega arith
      go false ih = omega arith

  pub select-all : (xs : List A) (d : A) → ((i : ℕ) → i < length xs → f (get_or xs i d) ≡ true) → select f xs ≡ xs
  unfolding select
  select-all [] d h = refl
  select-all (x ∷ xs) d h =
      select_yes x xs (h 0 (omega arith)) ∙ ap (λ (r : List A). x ∷ r) (select-all xs d (λ i l. h (suc i) (omega arith)))

  pub select-none : (xs : List A) (d : A) → ((i : ℕ) → i < length xs → f (get_or xs i d) ≡ false) → select f xs ≡ []
  unfolding select
  select-none [] d h = refl
  select-none (x ∷ xs) d h = select_no x xs (h 0 (omega arith)) ∙ select-none xs d (λ i l. h (suc i) (omega arith))

  -- a turn of a loop over the list
  pub select-drop-yes : (xs : List A) (i : ℕ) (d : A) → i < length xs → f (get_or xs i d) ≡ true →
      select f (drop i xs) ≡ get_or xs i d ∷ select f (drop (i + 1) xs)
  select-drop-yes xs i d l e =
      ap (select f) (drop-cons xs i d l) ∙ select_yes (get_or xs i d) (drop (suc i) xs) e
      ∙ ap (λ (k : ℕ). get_or xs i d ∷ select f (drop k xs)) (sym (add-one i))

  pub select-drop-no : (xs : List A) (i : ℕ) (d : A) → i < length xs → f (get_or xs i d) ≡ false →
      select f (drop i xs) ≡ select f (drop (i + 1) xs)
  select-drop-no xs i d l e =
      ap (select f) (drop-cons xs i d l) ∙ select_no (get_or xs i d) (drop (suc i) xs) e
      ∙ ap (λ (k : ℕ). select f (drop k xs)) (sym (add-one i))

pub select-map : {A B : Type 0} (f : B → Bool) (g : A → B) (xs : List A) →
    select f (map g xs) ≡ map g (select (λ x. f (g x)) xs)
unfolding select
select-map f g [] = refl
select-map {A} {B} f g (x ∷ xs) = go (f (g x)) (select-map f g xs)
  where
    go : (b : Bool) → select f (map g xs) ≡ map g (select (λ y. f (g y)) xs) →
        (elim b as (λ k. List B) [ true ↦ g x ∷ select f (map g xs) | false ↦ select f (map g xs) ])
        ≡ map g (elim b as (λ k. List A) [ true ↦ x ∷ select (λ y. f (g y)) xs | false ↦ select (λ y. f (g y)) xs ])
    go true ih = ap (λ (r : List B). g x ∷ r) ih
    go false ih = ih

pub select-cong : (f g : ℕ → Bool) (xs : List ℕ) → Each (λ v. f v ≡ g v) xs → select f xs ≡ select g xs
unfolding select
select-cong f g [] h = refl
select-cong f g (x ∷ xs) h =
    step (g x) (each-head (λ v. f v ≡ g v) x xs h) refl (select-cong f g xs (each_tail (λ v. f v ≡ g v) x xs h))
  where
    step : (c : Bool) → f x ≡ c → g x ≡ c → select f xs ≡ select g xs → select f (x ∷ xs) ≡ select g (x ∷ xs)
    step true d e ih = select_yes f x xs d ∙ ap (λ (r : List ℕ). x ∷ r) ih ∙ sym (select_yes g x xs e)
    step false d e ih = select_no f x xs d ∙ ih ∙ sym (select_no g x xs e)

pub select-nothing : (f : ℕ → Bool) (xs : List ℕ) → Each (λ v. f v ≡ false) xs → select f xs ≡ []
select-nothing f xs h = select-none f xs 0 (λ i l. each_at (λ v. f v ≡ false) xs i h l)

pub each-select : (P : ℕ → Type 0) (f : ℕ → Bool) (xs : List ℕ) → Each P xs → Each P (select f xs)
each-select P f xs h v k = go (f v) refl
  where
    go : (b : Bool) → f v ≡ b → P v
    go true e = h v (omega (arith, times-select-yes f v xs e))
    go false e = absurd (omega (arith, times-select-no f v xs e))

-- ---- `range` and `up_to`
pub length-range : (i n : ℕ) → length (range i n) ≡ n
unfolding range
length-range i zero = refl
length-range i (suc n) = ap suc (length-range (suc i) n)

pub length-up_to : (n : ℕ) → length (up_to n) ≡ n
unfolding up_to
length-up_to n = length-range 0 n

pub get_or-range : (i n j d : ℕ) → j < n → get_or (range i n) j d ≡ i + j
unfolding range
get_or-range i zero j d l = absurd (omega arith)
get_or-range i (suc n) zero d l = omega arith
get_or-range i (suc n) (suc j) d l = get_or-range (suc i) n j d (omega arith) ∙ omega arith

pub get_or-up_to : (n j d : ℕ) → j < n → get_or (up_to n) j d ≡ j
unfolding up_to
get_or-up_to n j d l = get_or-range 0 n j d l ∙ omega arith

pub range-append : (i m n : ℕ) → range i (m + n) ≡ range i m ++ range (i + m) n
unfolding range
range-append i zero n = let e : i + 0 ≡ i = omega arith in let k : 0 + n ≡ n = omega arith in rw (e, k)
range-append i (suc m) n =
    let e : suc i + m ≡ i + suc m = omega arith in
    let k : suc m + n ≡ suc (m + n) = omega arith in
    ap (range i) k ∙ ap (λ (r : List ℕ). i ∷ r) (range-append (suc i) m n ∙ ap (λ (j : ℕ). range (suc i) m ++ range j n) e)

pub range_cons : (i n : ℕ) → range i (n + 1) ≡ i ∷ range (i + 1) n
unfolding range
range_cons i n = rw (add-one n, add-one i)

-- a turn of a loop from i up to n
pub range-turn : (i n : ℕ) → i < n → range i (n - i) ≡ i ∷ range (i + 1) (n - (i + 1))
range-turn i n l = let e : n - i ≡ n - (i + 1) + 1 = omega arith in ap (range i) e ∙ range_cons i (n - (i + 1))

pub up_to-none : up_to 0 ≡ []
unfolding up_to range
up_to-none = refl

pub up_to-more : (n : ℕ) → up_to (n + 1) ≡ up_to n ++ (n ∷ [])
unfolding up_to range
up_to-more n = let e : 0 + n ≡ n = omega arith in range-append 0 n 1 ∙ ap (λ (j : ℕ). range 0 n ++ (j ∷ [])) e

pub range-from : (i n : ℕ) → Each (λ v. (i ≤ v) × (v < i + n)) (range i n)
unfolding range
range-from i zero = λ v h. absurd (omega arith)
range-from i (suc n) =
    each-cons (λ v. (i ≤ v) × (v < i + suc n)) i (range (suc i) n) (omega arith, omega arith)
    (λ v h. let k = range-from (suc i) n v h in (omega arith, omega arith))

-- ---- `adjust`
module _ {A : Type 0} (f : A → A) where
  pub length-adjust : (n : ℕ) (xs : List A) → length (adjust f n xs) ≡ length xs
  unfolding adjust
  length-adjust n [] = refl
  length-adjust zero (x ∷ xs) = refl
  length-adjust (suc n) (x ∷ xs) = ap suc (length-adjust n xs)

  pub adjust-set : (n : ℕ) (xs : List A) (d : A) → n < length xs → adjust f n xs ≡ set xs n (f (get_or xs n d))
  unfolding adjust
  adjust-set n [] d l = absurd (omega arith)
  adjust-set zero (x ∷ xs) d l = refl
  adjust-set (suc n) (x ∷ xs) d l = ap (λ (r : List A). x ∷ r) (adjust-set n xs d (omega arith))

  pub adjust-past : (n : ℕ) (xs : List A) → length xs ≤ n → adjust f n xs ≡ xs
  unfolding adjust
  adjust-past n [] l = refl
  adjust-past zero (x ∷ xs) l = absurd (omega arith)
  adjust-past (suc n) (x ∷ xs) l = ap (λ (r : List A). x ∷ r) (adjust-past n xs (omega arith))

  -- a view that the change leaves alone
  pub map-adjust : {B : Type 0} (g : A → B) (n : ℕ) (xs : List A) → ((x : A) → g (f x) ≡ g x) →
      map g (adjust f n xs) ≡ map g xs
  unfolding adjust
  map-adjust g n [] h = refl
  map-adjust {B} g zero (x ∷ xs) h = ap (λ (y : B). y ∷ map g xs) (h x)
  map-adjust {B} g (suc n) (x ∷ xs) h = ap (λ (r : List B). g x ∷ r) (map-adjust g n xs h)
