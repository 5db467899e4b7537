-- `sweep_row` meets its contract: marked already, not paid, or the question of the row. Assumes nothing.
use native.Mathlib.Omega.{arith}
use mathlib.Core.Path.{◌≡◌, sym, ◌∙◌}
use mathlib.Core.Bool.{false}
use Rattle.words.specs.Region.{has}
use Rattle.meter.specs.Read.{Paid}
use Rattle.meter.specs.Meter.{pay}
use Rattle.meter.proofs.Laws.{pay-none}
use Rattle.meter.proofs.Payments.{passed, read-one, read-more, paid-one, unanswered, answered}
use Rattle.model.specs.Rows.{subsumes, subsumes_reads}
use Rattle.model.specs.Slots.{row_in}
use Rattle.retain_compare.specs.Turns.{sweep_reads}
use Rattle.retain_compare.proofs.sweep_row.Goals.{Else-contains, In_ok-subsumes}
use Rattle.retain_compare.proofs.sweep_row.Goals as goal

unmarked : (c : Else-contains) → has c.args.replaced.now c.args.position ≡ false
unmarked c = sym c.contains.ensures ∙ c.if-contains.false

-- one read, then those of the question
asked : (c : In_ok-subsumes) → Paid c.subsumes.new.purse.account c.subsumes.new.purse.meter
    ≡ pay (sweep_reads (has c.args.replaced.now c.args.position) (row_in c.args.p.now) (row_in c.args.row.now)) c.args.purse.now.account
    c.args.purse.now.meter
asked c =
    rw (unmarked (goal.at.In_ok-subsumes c).Else-contains)
    ((answered _ _ _ _ _ _ c.in_ok-subsumes.ensures).1 ∙ paid-one _ _ _ c.in_ok-pay.ensures)

pub returns-then-contains-clause-paid : goal.returns-then-contains-clause-paid
returns-then-contains-clause-paid c = rw (sym c.contains.ensures ∙ c.if-contains.true) (sym (pay-none _ _))

pub returns-in_err-pay-clause-paid : goal.returns-in_err-pay-clause-paid
returns-in_err-pay-clause-paid c =
    rw (unmarked (goal.at.returns-in_err-pay-clause-paid c).Else-contains)
    (read-one _ _ _ _ (passed c.from_residual.ensures.1) (omega arith) c.in_err-pay.ensures)

pub returns-in_err-subsumes-clause-paid : goal.returns-in_err-subsumes-clause-paid
returns-in_err-subsumes-clause-paid c =
    let p = row_in c.args.p.now in
    let r = row_in c.args.row.now in
    let n = subsumes_reads p r in
    rw (unmarked (goal.at.returns-in_err-subsumes-clause-paid c).Else-contains)
    (read-more n n _ _ _ (passed c.from_residual-in_err-subsumes.ensures.1) (omega arith)
    (unanswered (subsumes p r) n _ _ _ _ c.in_err-subsumes.ensures)
    ∙ paid-one _ _ _ c.in_ok-pay.ensures)

pub returns-then-branch-clause-paid : goal.returns-then-branch-clause-paid
returns-then-branch-clause-paid c = asked (goal.at.returns-then-branch-clause-paid c).In_ok-subsumes

pub returns-else-branch-clause-paid : goal.returns-else-branch-clause-paid
returns-else-branch-clause-paid c = asked (goal.at.returns-else-branch-clause-paid c).In_ok-subsumes
