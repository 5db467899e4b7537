-- `unite` meets its contract: what is laid out from the lists is a proposal, and becomes the union. Assumes nothing.
use Rattle.words.specs.Region.{max_atoms}
use Rattle.model.proofs.Rows.{row-parts}
use Rattle.slots.specs.Layout.{row_of}
use Rattle.model.specs.Slots.{row_in}
use Rattle.leaves.proofs.Fitting.{proposed-of}
use Rattle.leaves.proofs.Leaving.{united-of}
use Rattle.leaves.proofs.unite.Goals as goal

pub propose-requires-clause-fact_2 : goal.propose-requires-clause-fact_2
propose-requires-clause-fact_2 c = (row-parts max_atoms (row_of c.args.conditions.now c.args.outputs.now) c.requires.fact_2).few

pub propose-requires-clause-fact_3 : goal.propose-requires-clause-fact_3
propose-requires-clause-fact_3 c = (row-parts max_atoms (row_of c.args.conditions.now c.args.outputs.now) c.requires.fact_2).many

pub union_outputs-requires-clause-fact_2 : goal.union_outputs-requires-clause-fact_2
union_outputs-requires-clause-fact_2 c =
    proposed-of (row_of c.args.conditions.now c.args.outputs.now) _ c.requires.fact_2 c.propose.ensures

pub returns : goal.returns
returns c =
    united-of _ (row_in c.args.r.now) (row_of c.args.conditions.now c.args.outputs.now) c.args.purse.now.account c.args.purse.now.meter
    c.propose.ensures c.union_outputs.ensures.asked c.union_outputs.ensures.grows
