-- `is_row` meets its contract: the four tests, in the code's order. Assumes nothing.
use mathlib.Core.Path.{sym, ◌∙◌}
use Rattle.row_propose.proofs.Climbing.{row-long, row-wide, row-codes}
use Rattle.row_propose.proofs.is_row.Goals as goal

pub returns-then-most_conditions-conditions : goal.returns-then-most_conditions-conditions
returns-then-most_conditions-conditions c =
    let a = c.args in row-long a.atoms _ _ _ _ c.if-most_conditions-conditions.true

pub returns-then-most_outputs-outputs : goal.returns-then-most_outputs-outputs
returns-then-most_outputs-outputs c =
    let a = c.args in row-wide a.atoms _ _ _ _ c.if-most_conditions-conditions.false c.if-most_outputs-outputs.true

pub returns-then-not-ascends : goal.returns-then-not-ascends
returns-then-not-ascends c =
    let a = c.args in
    row-codes a.atoms _ _ _ _ c.if-most_conditions-conditions.false c.if-most_outputs-outputs.false
    (sym c.if-not-ascends.true ∙ c.ascends.ensures)

pub returns : goal.returns
returns c =
    let a = c.args in
    c.ascends-2.ensures
    ∙ row-codes a.atoms _ _ _ _ c.if-most_conditions-conditions.false c.if-most_outputs-outputs.false
    (sym c.if-not-ascends.false ∙ c.ascends.ensures)
