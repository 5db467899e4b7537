-- A call that is made several times, of a function that is given. Assumes nothing.
use mathlib.Core.Path.{◌≡◌, sym, ap, ◌∙◌}
use Prim.Native.Nat.{ℕ, zero, suc, ◌-◌, ◌<◌}
use native.Mathlib.Omega.{arith}
use Rattle.std.specs.Fn.{Shared}
use denote.Ref.{MutBor}
use Rattle.leaves.specs.Calls.{again}
use Rattle.leaves.specs.Repeats.{Calls, Repeats}

module _ {F S R : Type 0} (g : Shared F (MutBor S × Unit {0}) (R × (MutBor S × Unit {0}))) (f : F) where
  pub turn : (n m : ℕ) (x : S) (q : R) (z : S) (r : R) (y : S)
      → m ≡ n - 1 → 0 < n → Calls g f x q z → Repeats g f m z r y → Repeats g f n x r y
  unfolding Repeats
  turn zero m x q z r y less l c e = absurd (omega arith)
  turn (suc n) m x q z r y less l c e = let same : n ≡ m = omega arith in (q, z, c, rw same e)

  pub last : (n : ℕ) (x : S) (r : R) (y : S) → n ≡ 0 → Calls g f x r y → Repeats g f n x r y
  unfolding Repeats
  last zero x r y l c = c
  last (suc n) x r y l c = absurd (omega arith)

  -- what it says where each call is a function of the state
  module _ {T E : Type 0} (once : T → E) (next : E → T) (at : S → T) (of : R → S → E)
      (each : (x : S) (r : R) (y : S) → Calls g f x r y → of r y ≡ once (at x))
      (leaves : (r : R) (y : S) → next (of r y) ≡ at y) where
    pub again-repeats : (n : ℕ) (x : S) (r : R) (y : S) → Repeats g f n x r y → of r y ≡ again once next n (at x)
    unfolding again Repeats
    again-repeats zero x r y e = each x r y e
    again-repeats (suc n) x r y e =
        again-repeats n e.1 r y e.3
        ∙ ap (λ (t : T). again once next n t) (sym (leaves e.0 e.1) ∙ ap next (each x e.0 e.1 e.2))
