-- `row_deduce::scalar_next`: the code at the cursor, or the end. Assumes nothing.
use Rattle.meter.proofs.Payments.{passed}
use Rattle.row_deduce.proofs.Publishing.{stops-on, single-end, single-stopped, single-ticked}
use Rattle.row_deduce.proofs.scalar_next.Goals as goal

pub returns-then-side-next : goal.returns-then-side-next
returns-then-side-next c = single-end _ _ _ _ c.if-side-next.true

pub returns-in_err-tick : goal.returns-in_err-tick
returns-in_err-tick c =
    stops-on _ _ (passed c.from_residual.ensures.1) (single-stopped _ _ _ _ c.if-side-next.false c.in_err-tick.ensures)

pub returns : goal.returns
returns c = single-ticked _ _ _ _ c.if-side-next.false c.in_ok-tick.ensures
