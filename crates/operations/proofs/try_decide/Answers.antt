-- `operations::try_decide`. One law for each way out. Assumes nothing.
use mathlib.Core.Path.{sym, ◌∙◌}
use Rattle.operations.proofs.Deciding.{decide-refused, decide-done}
use Rattle.operations.proofs.try_decide.Goals as goal

pub returns-then-not-is_region : goal.returns-then-not-is_region
returns-then-not-is_region c =
    let a = c.args in
    decide-refused a.atoms a.held.now a.cut.now a.atom a.value
    (sym c.is_region.ensures ∙ c.if-not-is_region.true)

pub returns : goal.returns
returns c =
    let a = c.args in
    decide-done a.atoms a.held.now a.cut.now a.atom a.value _ _ _
    (sym c.is_region.ensures
    ∙ c.if-not-is_region.false)
    c.decide.ensures
