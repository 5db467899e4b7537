-- `offer::capture`. Assumes nothing.
use Rattle.offer.proofs.Fitting.{fit-conditions, fit-outputs, fit-proposed, fit-proposal, most-outputs}
use Rattle.offer.proofs.Offering.{capture-proposed}
use borrow.Author.Rules.{rules}
use Rattle.offer.proofs.capture.Goals as goal

pub propose-requires : goal.propose-requires
propose-requires c = record {
  fact_1 = search rules;
  fact_2 = fit-conditions c.args.header.limits c.requires.fact_3 _ c.requires.fact_4;
  fact_3 = fit-outputs c.args.header.limits c.requires.fact_3 _ c.requires.fact_4;
}

pub capture_row-requires : goal.capture_row-requires
capture_row-requires c =
    let l = c.args.header.limits in record {
      fact_1 = c.requires.fact_1;
      fact_2 = fit-proposed l c.requires.fact_3 _ c.requires.fact_4 _ c.propose.ensures;
      fact_3 = fit-proposal l c.requires.fact_3 _ c.requires.fact_4 _ c.propose.ensures;
      fact_4 = c.requires.fact_2;
      fact_5 = most-outputs l c.requires.fact_3;
    }

pub returns : goal.returns
returns c =
    capture-proposed _ _ _ _ c.capture_row.result _ _ _ c.propose.ensures
    c.capture_row.ensures
