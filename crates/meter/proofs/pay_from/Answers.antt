-- `pay_from`: declined, stopped, paid, of either account. Assumes nothing.
use mathlib.Core.Path.{sym}
use Rattle.meter.proofs.Laws.{pay-empty, pay-ticked, pay-halted}
use Rattle.meter.proofs.Payments.{passed}
use Rattle.meter.proofs.pay_from.Goals as goal

pub returns-then-reads-eq0 : goal.returns-then-reads-eq0
returns-then-reads-eq0 c = record {
  capture = pay-empty _ _ c.if-reads-eq0.true;
  sharing = pay-empty _ _ c.if-reads-eq0.true;
}

pub returns-in_err-tick : goal.returns-in_err-tick
returns-in_err-tick c = record {
  capture = rw (passed c.from_residual.ensures.1) (pay-halted _ _ c.if-reads-eq0.false (sym c.in_err-tick.ensures));
  sharing = rw (passed c.from_residual.ensures.1) (pay-halted _ _ c.if-reads-eq0.false (sym c.in_err-tick.ensures));
}

pub returns : goal.returns
returns c = record {
  capture = pay-ticked _ _ c.if-reads-eq0.false (sym c.in_ok-tick.ensures);
  sharing = pay-ticked _ _ c.if-reads-eq0.false (sym c.in_ok-tick.ensures);
}
