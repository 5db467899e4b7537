-- `row_deduce::code_state`: it holds, is contradicted, or neither. Assumes nothing.
use mathlib.Core.Path.{sym, ◌∙◌}
use Rattle.words.specs.Region.{region}
use Rattle.row_deduce.proofs.Scalar.{code-holds, code-idle, code-open}
use Rattle.row_deduce.proofs.code_state.Goals as goal

pub returns-then-holds : goal.returns-then-holds
returns-then-holds c =
    code-holds (region c.args.held.now c.args.cut.now) c.args.code (sym c.holds.ensures ∙ c.if-holds.true)

pub returns-then-contradicts : goal.returns-then-contradicts
returns-then-contradicts c =
    code-idle (region c.args.held.now c.args.cut.now) c.args.code (sym c.holds.ensures ∙ c.if-holds.false)
    (sym c.contradicts.ensures ∙ c.if-contradicts.true)

pub returns : goal.returns
returns c =
    code-open (region c.args.held.now c.args.cut.now) c.args.code (sym c.holds.ensures ∙ c.if-holds.false)
    (sym c.contradicts.ensures ∙ c.if-contradicts.false)
