-- `post_row`: the two sides one after the other. Assumes nothing.
use native.Mathlib.Omega.{arith}
use Rattle.meter.proofs.Payments.{passed}
use Rattle.postings.proofs.Fills.{filled-ended}
use Rattle.postings.proofs.Rows.{row_laid, first-side, second-side, row-walk, row-stopped}
use Rattle.postings.proofs.filling.post_row.Goals as goal

pub conditions-conditions-requires : goal.conditions-conditions-requires
conditions-conditions-requires c = omega (arith, (row_laid c.requires).long)

pub outputs-outputs-requires-clause-fact_1 : goal.outputs-outputs-requires-clause-fact_1
outputs-outputs-requires-clause-fact_1 c = omega (arith, (row_laid c.requires).long)

pub outputs-outputs-requires-clause-fact_2 : goal.outputs-outputs-requires-clause-fact_2
outputs-outputs-requires-clause-fact_2 c = (row_laid c.requires).counted

pub post_side-requires : goal.post_side-requires
post_side-requires c = rw c.conditions-conditions.ensures (first-side c.requires)

pub returns-in_err-next : goal.returns-in_err-next
returns-in_err-next c =
    filled-ended _ _ _ (passed c.from_residual.ensures.1)
    (row-stopped c.requires _ _ _ (rw c.conditions-conditions.ensures at c.in_err-next.ensures))

pub post_side-requires-2 : goal.post_side-requires-2
post_side-requires-2 c =
    rw (c.outputs-outputs.ensures, c.post_side.auto.postings)
    (second-side c.requires _ _ _ (rw c.conditions-conditions.ensures at c.in_ok-next.ensures))

pub returns : goal.returns
returns c =
    rw (row-walk c.requires _ _ _ (rw c.conditions-conditions.ensures at c.in_ok-next.ensures))
    (rw c.outputs-outputs.ensures at c.post_side-2.ensures)
