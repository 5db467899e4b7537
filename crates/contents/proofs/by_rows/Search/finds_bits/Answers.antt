use Prim.Native.Nat.{◌-◌}
use native.Mathlib.Omega.{arith}
use lib.Bits.{and_le_r}
use Rattle.contents.proofs.Places.{bits-step, bits-end}
use borrow.Author.Rules.{rules}
use Rattle.contents.proofs.by_rows.Search.finds_bits.Goals as goal

pub loop-left-preserved : goal.loop-left-preserved
loop-left-preserved c =
    let a = c.args in
    let n = c.loop-left.left in
    let t = c.loop-left-test.true in (
      search rules,
      omega (arith, and_le_r n (n - 1), c.loop-left.invariant.1),
      bits-step a.self.words.now a.places.now c.loop-left.places a.self.position a.x a.bits n _ c.loop-left.invariant.1 (omega (arith, t))
          c.loop-left.invariant.2
          (c.finds.ensures (c.if-not-finds.false)),
    )

pub returns : goal.returns
returns c =
    let a = c.args in
    λ e. bits-end a.self.words.now a.places.now c.loop-left.places a.self.position a.x a.bits c.loop-left.left c.loop-left-test.false
    c.loop-left.invariant.2
