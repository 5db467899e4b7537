-- `leaf_includes` meets its contract: what it was not given, or the inclusion of the two rows' outputs. Assumes nothing.
use Rattle.leaves.proofs.Fitting.{yes, no, told}
use Rattle.leaves.proofs.Leaving.{includes-unfit, includes-unfit2, includes-unchosen, includes-done}
use Rattle.leaves.proofs.leaf_includes.Goals as goal

pub returns-then-not-lay : goal.returns-then-not-lay
returns-then-not-lay c = includes-unfit _ _ _ _ _ _ _ (no c.lay.ensures.0 c.if-not-lay.true)

pub returns-then-not-lay-2 : goal.returns-then-not-lay-2
returns-then-not-lay-2 c =
    includes-unfit2 _ _ _ _ _ _ _ (yes c.lay.ensures.0 c.if-not-lay.false) (no c.lay-2.ensures.0 c.if-not-lay-2.true)

pub returns-then-forms-gt3 : goal.returns-then-forms-gt3
returns-then-forms-gt3 c =
    includes-unchosen _ _ _ _ _ _ _ (yes c.lay.ensures.0 c.if-not-lay.false) (yes c.lay-2.ensures.0 c.if-not-lay-2.false)
    c.if-forms-gt3.true

pub includes_times-answered-requires : goal.includes_times-answered-requires
includes_times-answered-requires c = record {
  fact_1 = (told _ c.lay.ensures.1 c.if-not-lay.false).laid;
  fact_2 = (told _ c.lay-2.ensures.1 c.if-not-lay-2.false).laid;
}

pub returns : goal.returns
returns c =
    let x = c.lay.ensures in
    includes-done _ _ _ _ _ _ _ (yes x.0 c.if-not-lay.false) (yes c.lay-2.ensures.0 c.if-not-lay-2.false) c.if-forms-gt3.false
    (told _ x.1 c.if-not-lay.false).row (told _ c.lay-2.ensures.1 c.if-not-lay-2.false).row
    c.purse_of-purse.ensures.account c.purse_of-purse.ensures.meter c.includes_times-answered.ensures c.put_judged.ensures
