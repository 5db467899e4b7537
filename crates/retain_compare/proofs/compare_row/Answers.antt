-- `compare_row` meets its contract: the read, whether the row subsumes the proposal, and the union. Assumes nothing.
use mathlib.Core.Path.{◌≡◌, sym, ◌∙◌}
use Rattle.meter.proofs.Payments.{passed, answered}
use Rattle.model.specs.Slots.{row_in}
use Rattle.model.specs.Union.{joins}
use Rattle.row_propose.proofs.Proposing.{proposed-laid}
use Rattle.retain_compare.proofs.Joining.{joins-both, joins-alone, beside-unpaid, beside-unasked, beside-found, beside-unjoined}
use Rattle.retain_compare.proofs.Joining.{beside-joined}
use Rattle.retain_compare.proofs.compare_row.Goals.{In_ok-union_outputs}
use Rattle.retain_compare.proofs.compare_row.Goals as goal

-- the answer to the union's question
joins-is : (c : In_ok-union_outputs)
    → c.in_ok-union_outputs.field-0 ≡ joins c.args.most (row_in c.args.row.now) (row_in c.args.p.now)
joins-is c = (answered _ _ _ _ _ _ c.in_ok-union_outputs.ensures.asked).0

pub returns-in_err-pay-clause-asked : goal.returns-in_err-pay-clause-asked
returns-in_err-pay-clause-asked c =
    beside-unpaid c.args.most (row_in c.args.row.now) (row_in c.args.p.now) _ _ _ (passed c.from_residual.ensures.1) c.in_err-pay.ensures

pub subsumes-requires-clause-fact_2 : goal.subsumes-requires-clause-fact_2
subsumes-requires-clause-fact_2 c = proposed-laid c.args.p.now c.requires.fact_2

pub returns-in_err-subsumes-clause-asked : goal.returns-in_err-subsumes-clause-asked
returns-in_err-subsumes-clause-asked c =
    beside-unasked c.args.most (row_in c.args.row.now) (row_in c.args.p.now) _ _ c.in_ok-pay.ensures _
    (passed c.from_residual-in_err-subsumes.ensures.1) c.in_err-subsumes.ensures

pub returns-then-branch-clause-asked : goal.returns-then-branch-clause-asked
returns-then-branch-clause-asked c =
    beside-found c.args.most (row_in c.args.row.now) (row_in c.args.p.now) _ _ c.in_ok-pay.ensures _ c.in_ok-subsumes.ensures
    c.if-branch.true

pub returns-in_err-union_outputs-clause-asked : goal.returns-in_err-union_outputs-clause-asked
returns-in_err-union_outputs-clause-asked c =
    beside-unjoined c.args.most (row_in c.args.row.now) (row_in c.args.p.now) _ _ c.in_ok-pay.ensures _ c.in_ok-subsumes.ensures
    c.if-branch.false _ (passed c.from_residual-in_err-union_outputs.ensures.1) c.in_err-union_outputs.ensures.asked

pub returns-then-branch-2-clause-asked : goal.returns-then-branch-2-clause-asked
returns-then-branch-2-clause-asked c =
    beside-joined c.args.most (row_in c.args.row.now) (row_in c.args.p.now) _ _ c.in_ok-pay.ensures _ c.in_ok-subsumes.ensures
    c.if-branch.false _ _ c.in_ok-union_outputs.ensures.asked

pub returns-then-branch-2-clause-joined : goal.returns-then-branch-2-clause-joined
returns-then-branch-2-clause-joined c =
    joins-both c.args.most (row_in c.args.row.now) (row_in c.args.p.now) _ _
    (sym (joins-is (goal.at.returns-then-branch-2-clause-joined c).In_ok-union_outputs) ∙ c.if-branch-2.true)
    (rw c.if-branch-2.true at c.in_ok-union_outputs.ensures.grows) c.insert.ensures

pub returns-else-branch-2-clause-asked : goal.returns-else-branch-2-clause-asked
returns-else-branch-2-clause-asked c =
    beside-joined c.args.most (row_in c.args.row.now) (row_in c.args.p.now) _ _ c.in_ok-pay.ensures _ c.in_ok-subsumes.ensures
    c.if-branch.false _ _ c.in_ok-union_outputs.ensures.asked

pub returns-else-branch-2-clause-joined : goal.returns-else-branch-2-clause-joined
returns-else-branch-2-clause-joined c =
    joins-alone c.args.most (row_in c.args.row.now) (row_in c.args.p.now) _ _
    (sym (joins-is (goal.at.returns-else-branch-2-clause-joined c).In_ok-union_outputs) ∙ c.if-branch-2.false)
    (rw c.if-branch-2.false at c.in_ok-union_outputs.ensures.grows ∙ sym c.requires.fact_2.form)
