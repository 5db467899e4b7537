-- `propose` meets its contract: the counts, then the conditions, then the outputs. Assumes nothing.
use mathlib.Core.Path.{refl}
use Rattle.row_propose.proofs.Parts.{two-parts}
use Rattle.row_propose.proofs.propose.Goals as goal

pub returns : goal.returns
returns c =
    let f = c.copy in
    let g = c.copy-2 in
    two-parts c.blank.new.p f.new.dst c.args.conditions.now c.args.outputs.now _
    c.requires.fact_2 c.requires.fact_3 c.blank.ensures refl f.ensures refl g.ensures
