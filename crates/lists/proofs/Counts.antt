-- The laws of `times`, `Each` and `Perm`. Assumes nothing.
use mathlib.Core.Bool.{Bool, true, false}
use mathlib.Core.List.{List, [], ◌∷◌, ◌++◌, map}
use mathlib.Core.Logic.{◌⊎◌, inl, inr}
use mathlib.Core.Path.{◌≡◌, refl, sym, ap, ◌∙◌}
use Prim.Native.Nat.{ℕ, zero, suc, ◌+◌, ◌≤◌, ◌<◌}
use native.Mathlib.Numerals.{add-one}
use native.Mathlib.Omega.{arith}
use lib.Dec.{eqb, ltb}
use lib.ListN.{length, get_or, set, take, drop, replicate, take-append-drop}
use lib.Seq.{take-suc}
use borrow.Author.Tests.{eqb-true, eqb-false, eq-eqb, ne_eqb, ltb-true, ltb-false}
use Rattle.lists.specs.Counts.{is, times, Perm, Each}
use Rattle.lists.specs.Lists.{concat, select, sum}

pub same_or : (m n : ℕ) → (m ≡ n) ⊎ (m ≡ n → ⊥)
same_or m n = go (eqb m n) refl
  where
    go : (b : Bool) → eqb m n ≡ b → (m ≡ n) ⊎ (m ≡ n → ⊥)
    go true e = inl (eqb-true m n e)
    go false e = inr (eqb-false m n e)

pub lt-or-ge : (m n : ℕ) → (m < n) ⊎ (n ≤ m)
lt-or-ge m n = go (ltb m n) refl
  where
    go : (b : Bool) → ltb m n ≡ b → (m < n) ⊎ (n ≤ m)
    go true e = inl (ltb-true m n e)
    go false e = inr (ltb-false m n e)

-- ---- `is`
pub is_le : (v x : ℕ) → is v x ≤ 1
unfolding is
is_le v x = go (eqb v x)
  where
    go : (b : Bool) → (elim b as (λ k. ℕ) [ true ↦ 1 | false ↦ 0 ]) ≤ 1
    go true = omega arith
    go false = omega arith

pub is-equal : (v x : ℕ) → v ≡ x → is v x ≡ 1
unfolding is
is-equal v x e = rw (eq-eqb v x e, is)

pub is_same : (v : ℕ) → is v v ≡ 1
is_same v = is-equal v v refl

pub is-other : (v x : ℕ) → (v ≡ x → ⊥) → is v x ≡ 0
unfolding is
is-other v x n = rw (ne_eqb v x n, is)

pub is_pos : (v x : ℕ) → 1 ≤ is v x → v ≡ x
is_pos v x h = go (same_or v x)
  where
    go : (v ≡ x) ⊎ (v ≡ x → ⊥) → v ≡ x
    go (inl e) = e
    go (inr n) = absurd (omega (arith, is-other v x n))

-- ---- `times`
pub times-append : (v : ℕ) (xs ys : List ℕ) → times v (xs ++ ys) ≡ times v xs + times v ys
times-append v [] ys = omega arith
times-append v (x ∷ xs) ys = omega (arith, times-append v xs ys)

pub times-set : (v : ℕ) (xs : List ℕ) (i a : ℕ) → i < length xs →
    times v (set xs i a) + is v (get_or xs i 0) ≡ times v xs + is v a
times-set v [] i a h = omega arith
times-set v (x ∷ xs) zero a h = omega arith
times-set v (x ∷ xs) (suc i) a h = let h' : i < length xs = omega arith in omega (arith, times-set v xs i a h')

pub times-split : (v n : ℕ) (xs : List ℕ) → times v xs ≡ times v (take n xs) + times v (drop n xs)
times-split v n xs = ap (times v) (sym (take-append-drop n xs)) ∙ times-append v (take n xs) (drop n xs)

pub times-take-le : (v i : ℕ) (xs : List ℕ) → times v (take i xs) ≤ times v xs
times-take-le v i xs = omega (arith, times-split v i xs)

pub times_more : (v : ℕ) (xs : List ℕ) (i : ℕ) → i < length xs →
    times v (take (i + 1) xs) ≡ times v (take i xs) + is v (get_or xs i 0)
times_more v xs i l = rw (add-one, take-suc xs i 0 l, times-append v (take i xs) (get_or xs i 0 ∷ [])) (omega arith)

pub times-at : (xs : List ℕ) (i : ℕ) → i < length xs → 1 ≤ times (get_or xs i 0) xs
times-at [] i h = omega arith
times-at (x ∷ xs) zero h = omega (arith, is_same x)
times-at (x ∷ xs) (suc i) h = let h' : i < length xs = omega arith in omega (arith, times-at xs i h')

pub times-le : (v : ℕ) (xs : List ℕ) → times v xs ≤ length xs
times-le v [] = omega arith
times-le v (x ∷ xs) = omega (arith, is_le v x, times-le v xs)

pub times-replicate : (v n a : ℕ) → (v ≡ a → ⊥) → times v (replicate n a) ≡ 0
times-replicate v zero a h = refl
times-replicate v (suc n) a h = omega (arith, is-other v a h, times-replicate v n a h)

pub times-concat : (v : ℕ) (xss : List (List ℕ)) → times v (concat xss) ≡ sum (map (times v) xss)
unfolding concat sum
times-concat v [] = refl
times-concat v (xs ∷ xss) = times-append v xs (concat xss) ∙ ap (λ (n : ℕ). times v xs + n) (times-concat v xss)

-- a map that sends u, and nothing else, to v; one that sends nothing to v
pub times-map : (f : ℕ → ℕ) (v u : ℕ) (xs : List ℕ) → ((x : ℕ) → is v (f x) ≡ is u x) → times v (map f xs) ≡ times u xs
times-map f v u [] h = refl
times-map f v u (x ∷ xs) h = omega (arith, h x, times-map f v u xs h)

pub times-map-none : (f : ℕ → ℕ) (v : ℕ) (xs : List ℕ) → ((x : ℕ) → v ≡ f x → ⊥) → times v (map f xs) ≡ 0
times-map-none f v [] h = refl
times-map-none f v (x ∷ xs) h = omega (arith, is-other v (f x) (h x), times-map-none f v xs h)

module _ (f : ℕ → Bool) where
  pub times-select-yes : (v : ℕ) (xs : List ℕ) → f v ≡ true → times v (select f xs) ≡ times v xs
  unfolding select
  times-select-yes v [] e = refl
  times-select-yes v (x ∷ xs) e = go (f x) refl (times-select-yes v xs e)
    where
      go : (b : Bool) → f x ≡ b → times v (select f xs) ≡ times v xs →
          times v (elim b as (λ k. List ℕ) [ true ↦ x ∷ select f xs | false ↦ select f xs ]) ≡ is v x + times v xs
      go true d ih = omega (arith, ih)
      go false d ih =
          let n : v ≡ x → ⊥ = λ p. let z : true ≡ false = sym e ∙ ap f p ∙ d in absurd (let w : ◌≡◌ {A = ℕ} 0 1 = cc in omega arith) in
          omega (arith, ih, is-other v x n)

  pub times-select-no : (v : ℕ) (xs : List ℕ) → f v ≡ false → times v (select f xs) ≡ 0
  unfolding select
  times-select-no v [] e = refl
  times-select-no v (x ∷ xs) e = go (f x) refl (times-select-no v xs e)
    where
      go : (b : Bool) → f x ≡ b → times v (select f xs) ≡ 0 →
          times v (elim b as (λ k. List ℕ) [ true ↦ x ∷ select f xs | false ↦ select f xs ]) ≡ 0
      go true d ih =
          let n : v ≡ x → ⊥ = λ p. let z : true ≡ false = sym d ∙ ap f (sym p) ∙ e in
          absurd (let w : ◌≡◌ {A = ℕ} 0 1 = cc in omega arith) in
          omega (arith, ih, is-other v x n)
      go false d ih = ih

-- ---- `Each`
-- a property at each index is one of each number
pub each_index : (P : ℕ → Type 0) (xs : List ℕ) → ((i : ℕ) → i < length xs → P (get_or xs i 0)) → Each P xs
each_index P [] f v h = absurd (omega arith)
each_index P (x ∷ xs) f v h = go (is v x) refl (λ h'. each_index P xs (λ i l. f (suc i) (omega arith)) v h')
  where
    go : (n : ℕ) → is v x ≡ n → (1 ≤ times v xs → P v) → P v
    go zero e k = k (omega arith)
    go (suc n) e k = rw (is_pos v x (omega arith)) (f 0 (omega arith))

pub each_at : (P : ℕ → Type 0) (xs : List ℕ) (i : ℕ) → Each P xs → i < length xs → P (get_or xs i 0)
each_at P xs i f l = f (get_or xs i 0) (times-at xs i l)

pub each-cons : (P : ℕ → Type 0) (x : ℕ) (xs : List ℕ) → P x → Each P xs → Each P (x ∷ xs)
each-cons P x xs p f v h = go (is v x) refl
  where
    go : (n : ℕ) → is v x ≡ n → P v
    go zero e = f v (omega arith)
    go (suc n) e = rw (is_pos v x (omega arith)) p

pub each-head : (P : ℕ → Type 0) (x : ℕ) (xs : List ℕ) → Each P (x ∷ xs) → P x
each-head P x xs f = f x (omega (arith, is_same x))

pub each_tail : (P : ℕ → Type 0) (x : ℕ) (xs : List ℕ) → Each P (x ∷ xs) → Each P xs
each_tail P x xs f v h = f v (omega arith)

pub each_append : (P : ℕ → Type 0) (xs ys : List ℕ) → Each P xs → Each P ys → Each P (xs ++ ys)
each_append P [] ys f g = g
each_append P (x ∷ xs) ys f g =
    each-cons P x (xs ++ ys) (each-head P x xs f) (each_append P xs ys (each_tail P x xs f) g)

pub each_map : (P : ℕ → Type 0) (f : ℕ → ℕ) (xs : List ℕ) → Each (λ x. P (f x)) xs → Each P (map f xs)
each_map P f [] h = λ v k. absurd (omega arith)
each_map P f (x ∷ xs) h =
    each-cons P (f x) (map f xs) (each-head (λ y. P (f y)) x xs h) (each_map P f xs (each_tail (λ y. P (f y)) x xs h))

pub each_take : (P : ℕ → Type 0) (n : ℕ) (xs : List ℕ) → Each P xs → Each P (take n xs)
each_take P n xs f v h = f v (omega (arith, times-split v n xs))

pub each-drop : (P : ℕ → Type 0) (n : ℕ) (xs : List ℕ) → Each P xs → Each P (drop n xs)
each-drop P n xs f v h = f v (omega (arith, times-split v n xs))

pub each-perm : (P : ℕ → Type 0) (xs ys : List ℕ) → Perm xs ys → Each P xs → Each P ys
each-perm P xs ys p f v h = f v (omega (arith, p v))

-- what lacks the property does not stand there
pub each_none : (P : ℕ → Type 0) (v : ℕ) (xs : List ℕ) → Each P xs → (P v → ⊥) → times v xs ≡ 0
each_none P v xs f n = go (times v xs) refl
  where
    go : (k : ℕ) → times v xs ≡ k → k ≡ 0
    go zero e = refl
    go (suc k) e = absurd (n (f v (omega arith)))

-- ---- `Perm`
pub perm-tail : (x : ℕ) (xs ys : List ℕ) → Perm (x ∷ xs) (x ∷ ys) → Perm xs ys
perm-tail x xs ys p v = omega (arith, p v)

pub perm-append : (as' bs xs ys : List ℕ) → Perm as' bs → Perm xs ys → Perm (as' ++ xs) (bs ++ ys)
perm-append as' bs xs ys p q v = omega (arith, times-append v as' xs, times-append v bs ys, p v, q v)

pub perm-select : (f : ℕ → Bool) (xs ys : List ℕ) → Perm xs ys → Perm (select f xs) (select f ys)
perm-select f xs ys p v = go (f v) refl
  where
    go : (b : Bool) → f v ≡ b → times v (select f xs) ≡ times v (select f ys)
    go true e = times-select-yes f v xs e ∙ p v ∙ sym (times-select-yes f v ys e)
    go false e = times-select-no f v xs e ∙ sym (times-select-no f v ys e)

-- x taken out of a list once
unfoldable erase : ℕ → List ℕ → List ℕ
erase x [] = []
erase x (y ∷ ys) = elim (eqb x y) [ true ↦ ys | false ↦ y ∷ erase x ys ]

record Erased (x : ℕ) (ys zs : List ℕ) : Type 0 where
  shorter : suc (length zs) ≡ length ys
  fewer : (v : ℕ) → is v x + times v zs ≡ times v ys

erased : (x : ℕ) (ys : List ℕ) → 1 ≤ times x ys → Erased x ys (erase x ys)
unfolding erase
erased x [] h = absurd (omega arith)
erased x (y ∷ ys) h = go (eqb x y) refl (erased x ys)
  where
    go : (b : Bool) → eqb x y ≡ b → (1 ≤ times x ys → Erased x ys (erase x ys)) →
        Erased x (y ∷ ys) (elim b as (λ k. List ℕ) [ true ↦ ys | false ↦ y ∷ erase x ys ])
    go true e ih = record { shorter = refl; fewer = λ v. rw (eqb-true x y e) }
    go false e ih =
        let r = ih (omega (arith, is-other x y (eqb-false x y e))) in
        record { shorter = omega (arith, r.shorter); fewer = λ v. omega (arith, r.fewer v) }

-- as long, and none more often: the same numbers
pub perm-full : (xs ys : List ℕ) → length xs ≡ length ys → ((v : ℕ) → times v xs ≤ times v ys) → Perm xs ys
perm-full [] [] l c v = refl
perm-full [] (y ∷ ys) l c v = absurd (omega arith)
perm-full (x ∷ xs) ys l c v =
    let r = erased x ys (omega (arith, c x, is_same x)) in
    omega (arith, r.fewer v, perm-full xs (erase x ys) (omega (arith, r.shorter)) (λ u. omega (arith, r.fewer u, c u)) v)

pub perm-length : (xs ys : List ℕ) → Perm xs ys → length xs ≡ length ys
perm-length [] [] p = refl
perm-length [] (y ∷ ys) p = absurd (omega (arith, p y, is_same y))
perm-length (x ∷ xs) ys p =
    let r = erased x ys (omega (arith, p x, is_same x)) in
    omega (arith, r.shorter, perm-length xs (erase x ys) (λ v. omega (arith, r.fewer v, p v)))

map-erase : (f : ℕ → ℕ) (v x : ℕ) (ys : List ℕ) → 1 ≤ times x ys →
    times v (map f ys) ≡ is v (f x) + times v (map f (erase x ys))
unfolding erase
map-erase f v x [] h = absurd (omega arith)
map-erase f v x (y ∷ ys) h = go (eqb x y) refl (map-erase f v x ys)
  where
    go : (b : Bool) → eqb x y ≡ b → (1 ≤ times x ys → times v (map f ys) ≡ is v (f x) + times v (map f (erase x ys))) →
        is v (f y) + times v (map f ys)
        ≡ is v (f x) + times v (map f (elim b as (λ k. List ℕ) [ true ↦ ys | false ↦ y ∷ erase x ys ]))
    go true e ih = rw (eqb-true x y e)
    go false e ih = omega (arith, ih (omega (arith, is-other x y (eqb-false x y e))))

pub perm-map : (f : ℕ → ℕ) (xs ys : List ℕ) → Perm xs ys → Perm (map f xs) (map f ys)
perm-map f [] [] p v = refl
perm-map f [] (y ∷ ys) p v = absurd (omega (arith, p y, is_same y))
perm-map f (x ∷ xs) ys p v =
    let h : 1 ≤ times x ys = omega (arith, p x, is_same x) in
    let r = erased x ys h in
    omega (arith, map-erase f v x ys h, perm-map f xs (erase x ys) (λ u. omega (arith, r.fewer u, p u)) v)

pub perm-concat : {A : Type 0} (f g : A → List ℕ) (as' : List A) → ((a : A) → Perm (f a) (g a)) →
    Perm (concat (map f as')) (concat (map g as'))
unfolding concat
perm-concat f g [] p = λ v. refl
perm-concat f g (a ∷ as') p =
    perm-append (f a) (g a) (concat (map f as')) (concat (map g as')) (p a) (perm-concat f g as' p)
