-- A place with lower words before it and others from it on. Assumes nothing.
use mathlib.Core.Path.{◌≡◌}
use mathlib.Core.List.{List}
use Prim.Native.Nat.{ℕ, ◌-◌, ◌≤◌, ◌<◌}
use native.Mathlib.Omega.{arith}
use lib.ListN.{length, get_or}
use Rattle.lists.specs.Counts.{Sorted}
use Rattle.lists.specs.Marks.{lower_bound}
use Rattle.lists.proofs.Marks.{lower-at}
use Rattle.lists.proofs.Sorts.{sorted-index}

-- in an ascending list its two neighbours decide
pub lower-here : (xs : List ℕ) (bound at : ℕ) → Sorted xs → at ≤ length xs → (0 < at → get_or xs (at - 1) 0 < bound)
    → (at < length xs → bound ≤ get_or xs at 0) →
    at ≡ lower_bound bound xs
lower-here xs bound at s l p q =
    lower-at bound xs at l
    (λ k h. let b = p (omega arith) in omega (arith, sorted-index xs s k (at - 1) (omega arith) (omega arith)))
    (λ k h m. let b = q (omega arith) in omega (arith, sorted-index xs s at k h m))
