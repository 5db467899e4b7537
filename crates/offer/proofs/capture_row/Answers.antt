-- `capture_row` meets its contract. Assumes nothing.
use Rattle.offer.proofs.Fitting.{tried-accepted}
use Rattle.offer.proofs.Offering.{capture-retained}
use Rattle.offer.proofs.capture_row.Goals as goal

pub retain-kept-requires-clause-fact_1 : goal.retain-kept-requires-clause-fact_1
retain-kept-requires-clause-fact_1 c = tried-accepted c.args.header _ _ _ c.requires.fact_1

pub returns : goal.returns
returns c =
    capture-retained c.args.header _ _ _ _ c.args.work c.retain-kept.result c.retain-kept.new.header c.retain-kept.new.purse _ _ _
    c.captured.ensures c.retain-kept.ensures
