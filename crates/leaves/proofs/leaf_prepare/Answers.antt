-- `leaf_prepare` meets its contract: what it was not given, or the row prepared. Assumes nothing.
use Rattle.leaves.proofs.Fitting.{yes, no, told, fits-proposed}
use Rattle.leaves.proofs.Leaving.{prepare-unfit, prepare-short, prepare-done}
use borrow.Author.Rules.{rules}
use Rattle.leaves.proofs.leaf_prepare.Goals as goal

pub returns-then-not-propose : goal.returns-then-not-propose
returns-then-not-propose c = prepare-unfit _ _ _ _ _ _ _ (no c.propose.ensures.0 c.if-not-propose.true)

pub returns-then-slot-ne-SLOT_WORDS : goal.returns-then-slot-ne-SLOT_WORDS
returns-then-slot-ne-SLOT_WORDS c =
    prepare-short _ _ _ _ _ _ _ (yes c.propose.ensures.0 c.if-not-propose.false) c.if-slot-ne-SLOT_WORDS.true

pub prepare_times-answered-requires : goal.prepare_times-answered-requires
prepare_times-answered-requires c =
    let p = c.propose.ensures in record {
      fact_1 = fits-proposed _ _ (yes p.0 c.if-not-propose.false) _ (told _ p.1 c.if-not-propose.false);
      fact_2 = search rules;
    }

pub returns : goal.returns
returns c =
    let p = c.propose.ensures in
    prepare-done _ _ _ _ _ _ _ (yes p.0 c.if-not-propose.false) c.if-slot-ne-SLOT_WORDS.false (told _ p.1 c.if-not-propose.false)
    c.purse_of-purse.ensures.account c.purse_of-purse.ensures.meter c.prepare_times-answered.ensures c.put_judged.ensures
