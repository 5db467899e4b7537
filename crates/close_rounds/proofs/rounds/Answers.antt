-- `close_rounds::rounds`. One law for each way that a round ends. Assumes nothing.
use Rattle.meter.proofs.Payments.{passed}
use Rattle.close_publish.proofs.Ending.{ended-on}
use Rattle.close_rounds.proofs.Repeating.{repeat-start, repeat-ended, repeat-closed, repeat-less, repeat-on}
use Rattle.close_rounds.proofs.rounds.Goals as goal

pub loop-given-init : goal.loop-given-init
loop-given-init c = repeat-start _ _ _ _ _ _ _ _ _ c.requires.fact_1 c.requires.fact_2 c.requires.fact_3

pub returns-in_err-given-clause-turn : goal.returns-in_err-given-clause-turn
returns-in_err-given-clause-turn c =
    ended-on _ (passed c.from_residual.ensures.1)
    (repeat-ended _ _ _ _ _ _ _ _ _ _ _ _ _ _ _ _ _ _ _ c.loop-given.invariant _ _ _ _ _ _ _ c.in_err-given.ensures.turn)

pub returns-then-given-eq0-clause-turn : goal.returns-then-given-eq0-clause-turn
returns-then-given-eq0-clause-turn c =
    let d = c.in_ok-given.ensures in
    repeat-closed _ _ _ _ _ _ _ _ _ _ _ _ _ _ _ _ _ _ _ c.loop-given.invariant _ _ _ _ _ _ d.turn _ _ d.new c.if-given-eq0.true

pub loop-given-smaller : goal.loop-given-smaller
loop-given-smaller c =
    let d = c.in_ok-given.ensures in
    repeat-less _ _ _ _ _ _ _ _ _ _ _ _ _ _ _ _ _ _ _ c.loop-given.invariant _ _ _ _ _ _ d.turn _ _ d.new c.if-given-eq0.false

pub loop-given-preserved : goal.loop-given-preserved
loop-given-preserved c =
    let d = c.in_ok-given.ensures in
    let g = c.one_round.auto in
    repeat-on _ _ _ _ _ _ _ _ _ _ _ _ _ _ _ _ _ _ _ c.loop-given.invariant _ _ _ _ _ _ d.turn _ _ d.new c.if-given-eq0.false _ _
    d.runs d.under g.slots g.postings g.held g.cut g.places g.noted
