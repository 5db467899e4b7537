use mathlib.Core.Path.{◌≡◌, sym, ap, ◌∙◌}
use native.Mathlib.Omega.{arith}
use Prim.Native.Nat.{ℕ, ◌-◌}
use lib.ListN.{length}
use borrow.Rule.Slice.PartMut.{put_mid}
use Rattle.lists.specs.Lists.{pad}
use Rattle.lists.specs.Marks.{marked}
use Rattle.lists.proofs.Pads.{put-zeroed}
use Rattle.lists.proofs.positions.Gathering.{gathered-start, gathered-mark, gathered-skip, gathered-end, gathered-count}
use Rattle.lists.proofs.positions.gather.Goals as goal
use Rattle.lists.proofs.positions.gather.Goals.{then-x-ne0, else-x-ne0}

pub loop-p-init : goal.loop-p-init
loop-p-init c = gathered-start _

pub loop-p-preserved : goal.loop-p-preserved
loop-p-preserved c =
    let inv = c.loop-p.invariant in
    let more = c.loop-p-test.true in
    elim c.if-x-ne0.branch [
      | then-x-ne0 w ↦ rw w.k-is (gathered-mark _ _ _ _ inv more w.if-x-ne0.true)
      | else-x-ne0 w ↦ rw w.k-is (gathered-skip _ _ _ _ inv more w.if-x-ne0.false)
    ]

pub returns : goal.returns
returns c =
    let ms = c.args.out.now in
    let out = c.loop-p.out in
    let k = c.loop-p.k in
    let left : c.loop-p.p ≡ length ms = omega arith in
    let n = gathered-count _ _ _ _ c.loop-p.invariant left in record {
      value = n;
      out_after = ap (put_mid k (length out - k) out) c.fill_zero.ensures
          ∙ put-zeroed out (marked ms) k (sym n) (gathered-end _ _ _ _ c.loop-p.invariant left)
          ∙ ap (λ (j : ℕ). pad j (marked ms)) c.loop-p.invariant.long;
    }
