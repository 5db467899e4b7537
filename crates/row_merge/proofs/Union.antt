-- The union of two ascending lists, step by step; one as long as its second list is that list. Assumes nothing.
use mathlib.Core.Path.{◌≡◌, refl, sym, ◌∙◌, ap, ap₂}
use mathlib.Core.List.{List, [], ◌∷◌, ◌++◌, append_assoc}
use Prim.Native.Nat.{ℕ, ◌+◌, ◌≤◌, ◌<◌, compare, Ordering}
use native.Mathlib.Decide.{ℕ_discrete, dec_lt}
use native.Mathlib.Numerals.{add-one}
use native.Mathlib.Omega.{arith}
use lib.ListN.{length, take, set}
use lib.Seq.{take-suc-set}
use Rattle.model.specs.Union.{into, union}
use Rattle.row_subsume.proofs.Compare.{compare-lt, compare-eq, compare-gt}

pub union-none : (bs : List ℕ) → union [] bs ≡ bs
unfolding union
union-none bs = refl

pub union_left : (a : ℕ) (xs : List ℕ) → union (a ∷ xs) [] ≡ a ∷ union xs []
unfolding union into
union_left a xs = refl

module _ (a b : ℕ) (xs bs : List ℕ) where
  step : {o : Ordering} → compare a b ≡ o
      → union (a ∷ xs) (b ∷ bs)
      ≡ (elim o as (λ k. List ℕ)
      [ Ordering.lt ↦ a ∷ union xs (b ∷ bs) | Ordering.eq ↦ a ∷ union xs bs | Ordering.gt ↦ b ∷ union (a ∷ xs) bs ])
  unfolding union into
  step e =
      ap (λ (o : Ordering). elim o as (λ k. List ℕ)
      [ Ordering.lt ↦ a ∷ union xs (b ∷ bs) | Ordering.eq ↦ a ∷ union xs bs | Ordering.gt ↦ b ∷ union (a ∷ xs) bs ]) e

  pub union-less : a < b → union (a ∷ xs) (b ∷ bs) ≡ a ∷ union xs (b ∷ bs)
  union-less h = step (compare-lt a b h)

  pub union-equal : a ≡ b → union (a ∷ xs) (b ∷ bs) ≡ a ∷ union xs bs
  union-equal h = step (compare-eq a b h)

  pub union-greater : b < a → union (a ∷ xs) (b ∷ bs) ≡ b ∷ union (a ∷ xs) bs
  union-greater h = step (compare-gt a b h)

cases-ab : (a b : ℕ) (P : Type 0) → (a < b → P) → (a ≡ b → P) → (b < a → P) → P
cases-ab a b P f g h = elim (dec_lt a b) [ yes l ↦ f l | no l ↦ elim (ℕ_discrete a b) [ yes e ↦ g e | no n ↦ h (omega arith) ] ]

pub union-long : (xs bs : List ℕ) → length bs ≤ length (union xs bs)
union-long [] bs = rw (union-none bs) (omega arith)
union-long (a ∷ xs) [] = omega arith
union-long (a ∷ xs) (b ∷ bs) =
    let i1 = union-long xs (b ∷ bs) in
    let i2 = union-long xs bs in
    let i3 = union-long (a ∷ xs) bs in
    cases-ab a b (length (b ∷ bs) ≤ length (union (a ∷ xs) (b ∷ bs)))
    (λ l. rw (union-less a b xs bs l) (omega arith)) (λ e. rw (union-equal a b xs bs e) (omega arith))
    (λ l. rw (union-greater a b xs bs l) (omega arith))

pub union-same : (xs bs : List ℕ) → length (union xs bs) ≡ length bs → union xs bs ≡ bs
union-same [] bs e = union-none bs
union-same (a ∷ xs) [] e = absurd (let q = ap length (union_left a xs) in omega arith)
union-same (a ∷ xs) (b ∷ bs) e =
    let i = union-long xs (b ∷ bs) in
    cases-ab a b (union (a ∷ xs) (b ∷ bs) ≡ b ∷ bs)
    (λ l. absurd (let q = ap length (union-less a b xs bs l) in omega arith))
    (λ q. union-equal a b xs bs q
    ∙ ap₂ (λ (x : ℕ) (l : List ℕ). x ∷ l) q (union-same xs bs (let r = ap length (union-equal a b xs bs q) in omega arith)))
    (λ l. union-greater a b xs bs l
    ∙ ap (λ (t : List ℕ). b ∷ t) (union-same (a ∷ xs) bs (let r = ap length (union-greater a b xs bs l) in omega arith)))

-- ---- the first literal of a union of what is left of two lists
pub first-none : {l r : List ℕ} → [] ≡ l → [] ≡ r → [] ≡ union l r
first-none f g = rw (← f, ← g) (sym (union-none []))

pub first-right : {l r : List ℕ} (b : ℕ) (bs : List ℕ) → [] ≡ l → b ∷ bs ≡ r → b ∷ union l bs ≡ union l r
first-right b bs f g = rw (← f, ← g, union-none, union-none) refl

pub first_left : {l r : List ℕ} (a : ℕ) (xs : List ℕ) → a ∷ xs ≡ l → [] ≡ r → a ∷ union xs r ≡ union l r
first_left a xs f g = rw (← f, ← g) (sym (union_left a xs))

module _ {l r : List ℕ} {a b : ℕ} {xs bs : List ℕ} (f : a ∷ xs ≡ l) (g : b ∷ bs ≡ r) where
  pub first-less : a < b → a ∷ union xs r ≡ union l r
  first-less h = rw (← f, ← g) (sym (union-less a b xs bs h))

  pub first-equal : a ≡ b → a ∷ union xs bs ≡ union l r
  first-equal h = rw (← f, ← g) (sym (union-equal a b xs bs h))

  pub first-greater : b < a → b ∷ union l bs ≡ union l r
  first-greater h = rw (← f, ← g) (sym (union-greater a b xs bs h))

-- ---- a list walked by position, and one written from the front
pub take_more : (n x : ℕ) (xs ws : List ℕ) → n < length ws → take (n + 1) (set ws n x) ++ xs ≡ take n ws ++ (x ∷ xs)
take_more n x xs ws h =
    ap (λ (q : List ℕ). q ++ xs) (ap (λ (k : ℕ). take k (set ws n x)) (add-one n) ∙ take-suc-set ws n x h)
    ∙ append_assoc (take n ws) (x ∷ []) xs
