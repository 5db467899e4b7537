-- `leaf_subsumes` meets its contract: what it was not given, or whether the one row subsumes the other. Assumes nothing.
use Rattle.leaves.proofs.Fitting.{yes, no, told}
use Rattle.leaves.proofs.Leaving.{subsumes-unfit, subsumes-unfit2, subsumes-turned, subsumes-done}
use Rattle.leaves.proofs.leaf_subsumes.Goals as goal

pub returns-then-not-lay : goal.returns-then-not-lay
returns-then-not-lay c = subsumes-unfit _ _ _ _ _ _ _ (no c.lay.ensures.0 c.if-not-lay.true)

pub returns-then-not-lay-2 : goal.returns-then-not-lay-2
returns-then-not-lay-2 c =
    subsumes-unfit2 _ _ _ _ _ _ _ (yes c.lay.ensures.0 c.if-not-lay.false) (no c.lay-2.ensures.0 c.if-not-lay-2.true)

pub subsumes_times-answered-requires : goal.subsumes_times-answered-requires
subsumes_times-answered-requires c = record {
  fact_1 = (told _ c.lay-2.ensures.1 c.if-not-lay-2.false).laid;
  fact_2 = (told _ c.lay.ensures.1 c.if-not-lay.false).laid;
}

pub returns-then-turned-ne0 : goal.returns-then-turned-ne0
returns-then-turned-ne0 c =
    let x = c.lay.ensures in
    subsumes-turned _ _ _ _ _ _ _ (yes x.0 c.if-not-lay.false) (yes c.lay-2.ensures.0 c.if-not-lay-2.false) c.if-turned-ne0.true
    (told _ c.lay-2.ensures.1 c.if-not-lay-2.false).row (told _ x.1 c.if-not-lay.false).row
    c.purse_of-purse.ensures.account c.purse_of-purse.ensures.meter c.subsumes_times-answered.ensures c.put_judged.ensures

pub subsumes_times-answered-requires-2 : goal.subsumes_times-answered-requires-2
subsumes_times-answered-requires-2 c = record {
  fact_1 = (told _ c.lay.ensures.1 c.if-not-lay.false).laid;
  fact_2 = (told _ c.lay-2.ensures.1 c.if-not-lay-2.false).laid;
}

pub returns : goal.returns
returns c =
    let x = c.lay.ensures in
    subsumes-done _ _ _ _ _ _ _ (yes x.0 c.if-not-lay.false) (yes c.lay-2.ensures.0 c.if-not-lay-2.false) c.if-turned-ne0.false
    (told _ x.1 c.if-not-lay.false).row (told _ c.lay-2.ensures.1 c.if-not-lay-2.false).row
    c.purse_of-purse.ensures.account c.purse_of-purse.ensures.meter c.subsumes_times-answered-2.ensures c.put_judged-2.ensures
