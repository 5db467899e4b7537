-- `contents::by_postings::times_posted`. By the form of the slot. Assumes nothing.
use Rattle.std.proofs.Common.{ap, ◌∙◌}
use Rattle.contents.specs.Lent.{one_if}
use Rattle.contents.proofs.Holding.{from-one, times-scalar, times-packed}
use Rattle.contents.proofs.by_postings.times_posted.Goals as goal

pub returns-then-slot-eq0 : goal.returns-then-slot-eq0
returns-then-slot-eq0 c =
    times-scalar c.args.slot.now c.requires.fact_1 c.if-slot-eq0.true c.args.atom _ _
    (from-one _ c.from.ensures ∙ ap one_if c.codes_have.ensures)
    (from-one _ c.from-then-slot-eq0.ensures ∙ ap one_if c.codes_have-then-slot-eq0.ensures)

pub returns : goal.returns
returns c =
    times-packed c.args.slot.now c.requires.fact_1 c.if-slot-eq0.false c.args.atom _ _
    (from-one _ c.from-2.ensures ∙ ap one_if c.groups_have.ensures)
    (from-one _ c.from-3.ensures ∙ ap one_if c.groups_have-2.ensures)
