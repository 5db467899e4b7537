-- `row_deduce::group_contradicted`: the first of the codes of the joined masks, which are those contradicted. Assumes nothing.
use mathlib.Core.Path.{sym, ap, ◌∙◌}
use Rattle.words.specs.Region.{region}
use Rattle.slots.proofs.Codes.{codes-none}
use Rattle.row_deduce.specs.Walks.{first_of}
use Rattle.row_deduce.proofs.Groups.{outputs-contradicted}
use Rattle.row_deduce.proofs.group_contradicted.Goals as goal

pub returns-then-absent-present-eq0 : goal.returns-then-absent-present-eq0
returns-then-absent-present-eq0 c =
    let k = c.args.k in
    sym (ap first_of
    (outputs-contradicted (region c.args.held.now c.args.cut.now) k.index k.present k.absent
    ∙ codes-none k.index _ _ c.if-absent-present-eq0.true))

pub returns : goal.returns
returns c =
    let k = c.args.k in
    sym (ap first_of
    (outputs-contradicted (region c.args.held.now c.args.cut.now) k.index k.present k.absent ∙ c.take-least.ensures))
