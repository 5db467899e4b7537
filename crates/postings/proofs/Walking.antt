-- The laws of a walk: by its first step, in two parts, its ticks, and its steps where nothing stopped it. Assumes nothing.
use mathlib.Core.Path.{◌≡◌, refl, sym, ap, ◌∙◌}
use mathlib.Core.List.{List, [], ◌∷◌, ◌++◌}
use Prim.Native.Nat.{ℕ}
use native.Mathlib.Omega.{arith}
use lib.ListN.{length}
use Rattle.meter.specs.declared.Meter.{Meter}
use Rattle.std.specs.Prelude.{Result, Err}
use Rattle.meter.specs.declared.Stopped as meter
use Rattle.meter.specs.Results.{tick_end}
use Rattle.meter.specs.Tick.{Tick, Ticked, Stopped}
use Rattle.meter.specs.Meter.{tick_of, on_tick, ticks}
use Rattle.postings.specs.Steps.{Walk, walked, onward, steps, walk}

module _ {A S : Type 0} (step : A → S → S) where
  pub walk_none : (s : S) (m : Meter) → walk step [] s m ≡ walked (Ticked m) s
  unfolding walk
  walk_none s m = refl

  -- the first step, by its tick
  pub walk_step : (x : A) (xs : List A) (s : S) (m : Meter) {r : Tick} → r ≡ tick_of m →
      walk step (x ∷ xs) s m ≡ onward r s (λ t. walk step xs (step x t))
  unfolding walk
  walk_step x xs s m e = rw e refl

  walk-both : (xs ys : List A) (s : S) (m : Meter)
      → walk step (xs ++ ys) s m ≡ onward (walk step xs s m).end (walk step xs s m).state (walk step ys)
  unfolding walk
  walk-both [] ys s m = refl
  walk-both (x ∷ xs) ys s m = go (tick_of m) (walk-both xs ys (step x s))
    where
      go : (r : Tick)
          → ((k : Meter)
          → walk step (xs ++ ys) (step x s) k ≡ onward (walk step xs (step x s) k).end (walk step xs (step x s) k).state (walk step ys))
          → onward r s (λ t. walk step (xs ++ ys) (step x t))
          ≡ onward (onward r s (λ t. walk step xs (step x t))).end (onward r s (λ t. walk step xs (step x t))).state (walk step ys)
      go (Ticked k) h = h k
      go (Stopped k) h = refl

  -- no step is left
  pub walk-done : (xs : List A) (s : S) (m : Meter) → xs ≡ [] → walked (Ticked m) s ≡ walk step xs s m
  walk-done xs s m e = rw (e, walk_none s m) refl

  -- stopped before the last of xs, it is stopped before the last of xs and ys
  pub walk-stopped : (xs ys : List A) (s : S) (m k : Meter) → Stopped k ≡ (walk step xs s m).end
      → Stopped k ≡ (walk step (xs ++ ys) s m).end
  walk-stopped xs ys s m k e =
      ap (λ (t : Tick). (onward t (walk step xs s m).state (walk step ys)).end) e ∙ ap (λ (w : Walk S). w.end) (sym (walk-both xs ys s m))

  -- xs, then ys, by how xs ended
  pub walk-append : (xs ys : List A) (s : S) (m : Meter) {r : Walk S} → r ≡ walk step xs s m →
      walk step (xs ++ ys) s m ≡ onward r.end r.state (walk step ys)
  walk-append xs ys s m e = rw e (walk-both xs ys s m)

  -- as many ticks as steps
  pub walk-ticks : (xs : List A) (s : S) (m : Meter) → (walk step xs s m).end ≡ ticks (length xs) m
  unfolding walk ticks
  walk-ticks [] s m = refl
  walk-ticks (x ∷ xs) s m = go (tick_of m) (walk-ticks xs (step x s))
    where
      go : (r : Tick) → ((k : Meter) → (walk step xs (step x s) k).end ≡ ticks (length xs) k) →
          (onward r s (λ t. walk step xs (step x t))).end ≡ on_tick r (ticks (length xs))
      go (Ticked k) h = h k
      go (Stopped k) h = refl

  -- where nothing stopped it all steps are taken
  pub walk-whole : (xs : List A) (s : S) (m k : Meter) → (walk step xs s m).end ≡ Ticked k → (walk step xs s m).state ≡ steps step xs s
  unfolding walk steps
  walk-whole [] s m k e = refl
  walk-whole (x ∷ xs) s m k e = go (tick_of m) (λ n. walk-whole xs (step x s) n k) e
    where
      go : (r : Tick)
          → ((n : Meter) → (walk step xs (step x s) n).end ≡ Ticked k → (walk step xs (step x s) n).state ≡ steps step xs (step x s))
          → (onward r s (λ t. walk step xs (step x t))).end ≡ Ticked k
          → (onward r s (λ t. walk step xs (step x t))).state ≡ steps step xs (step x s)
      go (Ticked n) h f = h n f
      go (Stopped n) h f = absurd (never f)
        where
          never : Stopped n ≡ Ticked k → ⊥
          never f = let z : ◌≡◌ {A = ℕ} 0 1 = cc in omega arith

-- a walk that an error ended
pub walk-ended : {A S : Type 0} {r : Result A meter.Stopped} {e : meter.Stopped} {w : Walk S} (m : Meter) (s : S)
    → r ≡ Err e → walked (Stopped m) s ≡ w → walked (tick_end r m) s ≡ w
walk-ended m s h q = rw h q
