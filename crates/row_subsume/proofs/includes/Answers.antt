use native.Mathlib.Omega.{arith}
use mathlib.Core.Path.{◌∙◌}
use Prim.Native.Nat.{◌<◌}
use Rattle.slots.specs.Cursor.{rest-start}
use Rattle.meter.proofs.Payments.{passed}
use Rattle.row_subsume.proofs.Including.{include-all, include-unpaid, include-none, include-less, include-equal, include-greater}
use Rattle.row_subsume.proofs.includes.Goals as goal

pub wanted-init : goal.wanted-init
wanted-init c = record {
  have = rw c.start-have.ensures (omega arith, omega arith);
  want = rw c.start-want.ensures (omega arith, omega arith);
  same = simp (c.start-have.ensures, c.start-want.ensures, rest-start);
}

pub returns-in_err-pay : goal.returns-in_err-pay
returns-in_err-pay c =
    include-unpaid _ _ _ _ _ _ (passed c.from_residual.ensures.1) c.in_err-pay.ensures ∙ c.loop-c.invariant.same

pub returns-in_default-next : goal.returns-in_default-next
returns-in_default-next c =
    include-none _ _ _ _ c.in_ok-pay.ensures c.in_default-next.ensures.0 ∙ c.loop-c.invariant.same

pub wanted-preserved : goal.wanted-preserved
wanted-preserved c = record {
  have = c.in-Some-next.ensures.1;
  want = c.in-Some.ensures.1;
  same = include-equal _ _ _ _ c.in_ok-pay.ensures _ _ c.in-Some-next.ensures.0 c.if-c-w.true ∙ c.loop-c.invariant.same;
}

pub returns-then-w-c : goal.returns-then-w-c
returns-then-w-c c =
    include-greater _ _ _ _ c.in_ok-pay.ensures _ _ c.in-Some-next.ensures.0 c.if-w-c.true ∙ c.loop-c.invariant.same

pub loop-c-preserved : goal.loop-c-preserved
loop-c-preserved c =
    let n = c.if-c-w.false in
    let h : c.in-Some-next.c < c.in-Some.w = omega arith in record {
      have = c.in-Some-next.ensures.1;
      same = include-less _ _ _ _ c.in_ok-pay.ensures _ _ c.in-Some-next.ensures.0 h ∙ c.loop-c.invariant.same;
    }

pub returns : goal.returns
returns c = include-all _ _ _ c.in_default.ensures.0 ∙ c.wanted.invariant.same
