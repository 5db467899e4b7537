use native.Mathlib.Omega.{arith}
use lib.Dec.{ltb}
use borrow.Author.Rules.{rules}
use borrow.Author.Tests.{ltb-true, ltb-false}
use Prim.Native.Nat.{ℕ}
use Rattle.std.proofs.lemmas.List.Sorted.{IsPartitionPoint-from_clause, IsPartitionedBy-ltb, IsNonDecreasingBy-from_default}
use Rattle.lists.proofs.Marks.{lower-at}
use Rattle.lists.proofs.Sorts.{sorted-index}
use Rattle.lists.proofs.positions.partition_point.Goals as goal

pub returns : goal.returns
returns c =
    let xs = c.args.xs.now in
    let bound = c.args.bound in
    let ascends = IsNonDecreasingBy-from_default (λ (x : ℕ). x) xs 0 (sorted-index xs c.requires) in
    let parted = IsPartitionedBy-ltb (λ (x : ℕ). x) xs bound ascends in
    let point =
    IsPartitionPoint-from_clause (λ (x : ℕ). ltb x bound) _ _ c.partition_point.ensures.partitioned parted (λ a r q k. search rules) in
    lower-at bound xs _ c.partition_point.ensures.bound
    (λ k l. ltb-true _ _ (point.0 k 0 (omega arith) l)) (λ k h l. ltb-false _ _ (point.1 k 0 h l))
