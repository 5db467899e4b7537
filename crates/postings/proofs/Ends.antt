-- The search for the end of the postings: from z on the words are not 0 up to n, and 0 from n on. Assumes nothing.
use mathlib.Core.Path.{◌≡◌}
use mathlib.Core.Bool.{true, false}
use mathlib.Core.List.{List}
use Prim.Native.Nat.{ℕ, ◌+◌, ◌-◌, ◌≤◌, ◌<◌}
use native.Mathlib.Omega.{arith}
use lib.Dec.{ltb}
use lib.ListN.{length, get_or}
use borrow.Author.Tests.{ltb-true, ltb-false, lt-ltb}
use Rattle.std.specs.List.Sorted.{IsPartitionPoint, IsPartitionedBy}
use Rattle.postings.proofs.Cuts.{cut, cut-long, cut-at}

-- where the postings end at n
pub record EndsAt (ws : List ℕ) (z n : ℕ) : Type 0 where
  pub order : z ≤ n
  pub within : n ≤ length ws
  pub some : (k : ℕ) → z ≤ k → k < n → 0 < get_or ws k 0
  pub none : (k : ℕ) → n ≤ k → get_or ws k 0 ≡ 0

module _ {ws : List ℕ} {z n : ℕ} (e : EndsAt ws z n) where
  -- past the first z those that are not 0 come first
  pub ends-parted : IsPartitionedBy (ltb 0) (cut z ws)
  ends-parted i j d h l m =
      let some : 0 < get_or (cut z ws) j d = ltb-true 0 (get_or (cut z ws) j d) m in
      let past : n ≤ z + j → ⊥ = λ q. omega (arith, cut-at z ws j d l, e.none (z + j) q) in
      lt-ltb 0 (get_or (cut z ws) i d)
      (omega (arith, cut-at z ws i d (omega arith), e.some (z + i) (omega arith) (omega (arith, past))))

  -- and where they end the postings do
  pub ends-at : (r : ℕ) → r ≤ length (cut z ws)
      → IsPartitionPoint (λ x. ltb 0 x ≡ true) (λ x. ltb 0 x ≡ false) (cut z ws) r → z + r ≡ n
  ends-at r l p =
      let long = cut-long z ws in
      let low : z + r < n → ⊥ = λ h.
      let k : r < length (cut z ws) = omega (arith, e.within) in
      omega (arith, ltb-false 0 (get_or (cut z ws) r 0) (p.1 r 0 (omega arith) k), cut-at z ws r 0 k, e.some (z + r) (omega arith) h) in
      let high : n < z + r → ⊥ = λ h.
      let k : n - z < length (cut z ws) = omega arith in
      let q : z + (n - z) ≡ n = omega (arith, e.order) in
      omega (
        arith,
        ltb-true 0 (get_or (cut z ws) (n - z) 0) (p.0 (n - z) 0 (omega arith) (omega (arith, e.order))),
        cut-at z ws (n - z) 0 k,
        e.none (z + (n - z)) (omega arith),
      ) in
      omega (arith, low, high)
