-- `contents::by_postings::has_atom`. By the form of the slot. Assumes nothing.
use mathlib.Core.Path.{◌∙◌}
use Rattle.contents.proofs.Holding.{has-scalar, has-packed}
use Rattle.contents.proofs.by_postings.has_atom.Goals as goal

pub returns-then-slot-eq0 : goal.returns-then-slot-eq0
returns-then-slot-eq0 c =
    c.codes_have.ensures ∙ has-scalar c.args.slot.now c.requires.fact_1 c.if-slot-eq0.true c.args.atom

pub returns : goal.returns
returns c =
    c.groups_have.ensures ∙ has-packed c.args.slot.now c.requires.fact_1 c.if-slot-eq0.false c.args.atom
