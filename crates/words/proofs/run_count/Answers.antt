use mathlib.Core.Path.{◌≡◌, sym, ◌∙◌}
use mathlib.Core.List.{List, [], ◌∷◌}
use Prim.Native.Nat.{ℕ}
use native.Mathlib.Omega.{arith}
use lib.ListN.{length}
use borrow.Author.Tests.{eqb-true, eqb-false}
use Rattle.words.specs.Codes.{runs}
use Rattle.words.proofs.Codes.{runs_none, runs-kept, runs-more, runs-end}
use Rattle.words.proofs.run_count.Goals.{else-codes-i, then-codes-i}
use Rattle.words.proofs.run_count.Goals as goal

no-codes : (cs : List ℕ) (bits : ℕ) → length cs ≡ 0 → 0 ≡ runs bits cs
no-codes [] bits e = sym (runs_none bits)
no-codes (c ∷ cs) bits e = absurd (omega arith)

pub returns-then-is_empty : goal.returns-then-is_empty
returns-then-is_empty c = no-codes c.args.codes.now c.args.shift (eqb-true _ 0 (sym c.is_empty.ensures ∙ c.if-is_empty.true))

pub loop-i-preserved : goal.loop-i-preserved
loop-i-preserved c =
    let cs = c.args.codes.now in
    let i = c.loop-i.i in
    elim c.if-codes-i.branch [
      | then-codes-i w ↦
          let t = runs-more c.args.shift cs i (omega arith) c.loop-i-test.true w.if-codes-i.true in
          (omega (arith, w.count-is), omega (arith, w.count-is))
      | else-codes-i w ↦
          let t = runs-kept c.args.shift cs i (omega arith) c.loop-i-test.true w.if-codes-i.false in
          (omega (arith, w.count-is), omega (arith, w.count-is))
    ]

pub returns : goal.returns
returns c =
    let some : length c.args.codes.now ≡ 0 → ⊥ = eqb-false _ 0 (sym c.is_empty.ensures ∙ c.if-is_empty.false) in
    omega (arith, runs-end c.args.shift c.args.codes.now c.loop-i.i (omega arith) (omega arith), c.loop-i.invariant.1)
