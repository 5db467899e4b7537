-- `close_rounds::round`. One law for each way that a reading ends. Assumes nothing.
use Prim.Native.Nat.{◌<◌}
use Rattle.lists.proofs.Counts.{each_at}
use Rattle.meter.proofs.Payments.{passed}
use Rattle.close_publish.proofs.Closed.{goes-closes, goes-on}
use Rattle.close_publish.proofs.Ending.{ended-on}
use Rattle.close_rounds.proofs.Reading.{held-over, stands-over, act-over, read_done, read-stands, read-ended, read-on}
use borrow.Author.Rules.{rules}
use Rattle.close_rounds.proofs.round.Goals as goal

pub act-requires : goal.act-requires
act-requires c =
    let a = c.args in
    let l = c.loop-position in
    let i = l.invariant in record {
      fact_1 = held-over i.goes.atoms _ _ i.reads.stands.holds;
      fact_2 = each_at (λ p. p < a.rows) a.positions.now l.position-index c.requires.fact_2 c.loop-position-test.true;
      fact_3 = goes-closes _ _ (record { whole = c.requires.fact_1.region; room = c.requires.fact_3 }) i.goes;
    }

pub returns-in_err-act-clause-turn : goal.returns-in_err-act-clause-turn
returns-in_err-act-clause-turn c h =
    let i = c.loop-position.invariant in
    let d = c.in_err-act.ensures in
    let goes = goes-on _ _ (record { whole = c.requires.fact_1.region; room = c.requires.fact_3 }) i.goes _ d.goes in
    let held = goes.held.name in
    let cut = goes.cut.name in
    let turn = ended-on _ (passed c.from_residual.ensures.1)
    (read-ended _ _ _ _ _ _ _ _ _ _ _ _ _ _ i.reads c.loop-position-test.true _ _ h (act-over i.goes.atoms _ _ _ (d.turn h))) in
    search rules

pub returns-in_err-act-clause-stands : goal.returns-in_err-act-clause-stands
returns-in_err-act-clause-stands c =
    let i = c.loop-position.invariant in
    let d = c.in_err-act.ensures in
    let goes = goes-on _ _ (record { whole = c.requires.fact_1.region; room = c.requires.fact_3 }) i.goes _ d.goes in
    let held = goes.held.name in
    let cut = goes.cut.name in
    let stands = read-stands _ _ _ _ _ _ _ _ _ _ _ _ _ _ i.reads _ _ _ (stands-over i.goes.atoms _ _ _ _ _ d.stands) in
    search rules

pub loop-position-preserved : goal.loop-position-preserved
loop-position-preserved c =
    let i = c.loop-position.invariant in
    let d = c.in_ok-act.ensures in
    let goes = goes-on _ _ (record { whole = c.requires.fact_1.region; room = c.requires.fact_3 }) i.goes _ d.goes in record {
      reads = read-on _ _ _ _ _ _ _ _ _ _ _ _ _ _ i.reads c.loop-position-test.true _ _ _ _ _
          (λ h. act-over i.goes.atoms _ _ _ (d.turn h)) (stands-over i.goes.atoms _ _ _ _ _ d.stands) c.act.auto.slots;
      goes = goes;
      held = goes.held.name;
      cut = goes.cut.name;
      noted = goes.noted.name;
    }

pub returns-clause-turn : goal.returns-clause-turn
returns-clause-turn c h =
    let reads = c.loop-position.invariant.reads in
    let turn = read_done _ _ _ _ _ _ _ _ _ _ _ _ _ _ reads c.loop-position-test.false h in
    search rules
