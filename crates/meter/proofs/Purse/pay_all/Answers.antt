-- `Purse::pay_all`: the first that is not paid ends it. Assumes nothing.
use Prim.Native.Nat.{◌+◌, ◌-◌, ◌<◌, suc}
use native.Mathlib.Omega.{arith}
use mathlib.Core.Path.{◌≡◌, sym, ◌∙◌}
use Rattle.meter.proofs.Laws.{pay-none}
use Rattle.meter.proofs.Payments.{passed, read-one, paid-one}
use Rattle.meter.proofs.Purse.pay_all.Goals as goal

pub returns-in_err-pay : goal.returns-in_err-pay
returns-in_err-pay c =
    let l : 0 < c.args.reads - c.loop.counter = omega arith in
    read-one _ _ _ _ (passed c.from_residual.ensures.1) l c.in_err-pay.ensures ∙ c.loop.invariant

pub loop-preserved : goal.loop-preserved
loop-preserved c =
    let s : c.args.reads - c.loop.counter ≡ suc (c.args.reads - (c.loop.counter + 1)) = omega arith in
    paid-one _ _ _ c.in_ok-pay.ensures ∙ rw s at c.loop.invariant

pub returns : goal.returns
returns c =
    let z : c.args.reads - c.loop.counter ≡ 0 = omega arith in
    sym (rw z (pay-none _ _)) ∙ c.loop.invariant
