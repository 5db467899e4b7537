use native.Mathlib.Omega.{arith}
use mathlib.Core.Path.{ap, ◌∙◌}
use lib.ListN.{length}
use Rattle.slots.specs.Cursor.{rest-start}
use Rattle.meter.proofs.Payments.{passed}
use Rattle.row_merge.proofs.Asking.{alike-end, alike-unpaid, alike-equal, alike-differs}
use Rattle.row_merge.proofs.same_literals.Goals as goal

pub loop-k-init : goal.loop-k-init
loop-k-init c = record {
  left = rw c.start-x.ensures (omega arith, omega arith);
  right = rw c.start-y.ensures (omega arith, omega arith);
  long = simp (c.start-x.ensures, c.start-y.ensures, rest-start) c.requires.fact_3;
  same = simp (c.start-x.ensures, c.start-y.ensures, rest-start);
}

pub returns-in_err-pay : goal.returns-in_err-pay
returns-in_err-pay c =
    alike-unpaid _ _ _ _ _ _ c.in-Some.ensures.0 c.in-Some-next.ensures.0 _ (passed c.from_residual.ensures.1) c.in_err-pay.ensures
    ∙ c.loop-k.invariant.same

pub returns-then-k-j : goal.returns-then-k-j
returns-then-k-j c =
    alike-differs _ _ _ _ _ _ c.in-Some.ensures.0 c.in-Some-next.ensures.0 c.in_ok-pay.ensures c.if-k-j.true ∙ c.loop-k.invariant.same

pub loop-k-preserved : goal.loop-k-preserved
loop-k-preserved c = record {
  left = c.in-Some.ensures.1;
  right = c.in-Some-next.ensures.1;
  long = omega (arith, ap length c.in-Some.ensures.0, ap length c.in-Some-next.ensures.0, c.loop-k.invariant.long);
  same = alike-equal _ _ _ _ _ _ c.in-Some.ensures.0 c.in-Some-next.ensures.0 c.in_ok-pay.ensures c.if-k-j.false
      ∙ c.loop-k.invariant.same;
}

pub returns : goal.returns
returns c = alike-end _ _ _ c.in_default.ensures.0 c.loop-k.invariant.long ∙ c.loop-k.invariant.same
