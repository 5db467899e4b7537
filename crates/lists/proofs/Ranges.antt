-- The laws of `select` over a run of numbers: which are chosen, and the first of them. Assumes nothing.
use mathlib.Core.Path.{◌≡◌, refl, sym, ap, ap₂, ◌∙◌}
use mathlib.Core.Bool.{Bool, true, false}
use mathlib.Core.List.{List, [], ◌∷◌}
use Prim.Native.Nat.{ℕ, zero, suc, ◌+◌, ◌≤◌, ◌<◌}
use native.Mathlib.Nat.{le_refl}
use native.Mathlib.Decide.{ℕ_discrete}
use native.Mathlib.Omega.{arith}
use Rattle.lists.specs.Lists.{select, range}
use Rattle.lists.proofs.Selects.{select_yes, select_no, select-cong, select-nothing, range-from}

pub select-on : (f : ℕ → Bool) (a n : ℕ) → f a ≡ true → select f (range a (suc n)) ≡ a ∷ select f (range (suc a) n)
unfolding range
select-on f a n e = select_yes f a (range (suc a) n) e

pub select-off : (f : ℕ → Bool) (a n : ℕ) → f a ≡ false → select f (range a (suc n)) ≡ select f (range (suc a) n)
unfolding range
select-off f a n e = select_no f a (range (suc a) n) e

pub select-zero : (f : ℕ → Bool) (a : ℕ) → select f (range a zero) ≡ []
unfolding select range
select-zero f a = refl

pub select-ext : (f g : ℕ → Bool) (n a : ℕ) → ((z : ℕ) → a ≤ z → z < a + n → f z ≡ g z) → select f (range a n) ≡ select g (range a n)
select-ext f g n a h = select-cong f g (range a n) (λ z t. let k = range-from a n z t in h z k.0 k.1)

pub select-nowhere : (f : ℕ → Bool) (n a : ℕ) → ((z : ℕ) → a ≤ z → z < a + n → f z ≡ false) → select f (range a n) ≡ []
select-nowhere f n a h = select-nothing f (range a n) (λ z t. let k = range-from a n z t in h z k.0 k.1)

-- k is the first that f chooses, and g chooses the others
pub record Splits (f g : ℕ → Bool) (k a n : ℕ) : Type 0 where
  pub low : a ≤ k
  pub high : k < a + n
  pub chosen : f k ≡ true
  pub before : (z : ℕ) → a ≤ z → z < k → f z ≡ false
  pub gone : g k ≡ false
  pub others : (z : ℕ) → a ≤ z → z < a + n → (z ≡ k → ⊥) → f z ≡ g z

pub select-next : (f g : ℕ → Bool) (k n a : ℕ) → Splits f g k a n → select f (range a n) ≡ k ∷ select g (range a n)
select-next f g k zero a s = let h = s.high in absurd (out s.low h)
  where
    out : a ≤ k → k < a + 0 → ⊥
    out l h = omega arith
select-next f g k (suc n) a s = go (ℕ_discrete a k) (select-next f g k n (suc a))
  where
    go : Dec (a ≡ k) → (Splits f g k (suc a) n → select f (range (suc a) n) ≡ k ∷ select g (range (suc a) n))
        → select f (range a (suc n)) ≡ k ∷ select g (range a (suc n))
    go (yes e) ih =
        select-on f a n (ap f e ∙ s.chosen)
        ∙ ap₂ (λ (x : ℕ) (l : List ℕ). x ∷ l) e
        (select-ext f g n (suc a) (λ z l m. s.others z (omega arith) (omega arith) (λ q. omega arith))
        ∙ sym (select-off g a n (ap g e ∙ s.gone)))
    go (no d) ih =
        let l : a < k = let low = s.low in omega arith in
        let off : f a ≡ false = s.before a (le_refl a) l in
        select-off f a n off
        ∙ ih (record {
          low = l;
          high = let h = s.high in omega arith;
          chosen = s.chosen;
          before = λ z i j. s.before z (omega arith) j;
          gone = s.gone;
          others = λ z i j q. s.others z (omega arith) (omega arith) q;
        })
        ∙ ap (λ (r : List ℕ). k ∷ r) (sym (select-off g a n (sym (s.others a (le_refl a) (omega arith) d) ∙ off)))
