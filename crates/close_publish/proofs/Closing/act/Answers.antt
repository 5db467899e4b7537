-- `close_publish::Closing::act`. One law for each way out. Assumes nothing.
use mathlib.Core.Path.{◌∙◌}
use mathlib.Core.Logic.{inl, inr}
use Rattle.meter.proofs.Payments.{passed}
use Rattle.close_publish.specs.Turns.{ledger_of, beside}
use Rattle.close_publish.proofs.Ending.{ended-on}
use Rattle.close_publish.proofs.Standing.{Hits, standing, stored-part, hits-stand, decided-stands}
use Rattle.close_publish.proofs.Acting.{act-stopped, act-nothing, part-row, act-reads}
use Rattle.close_publish.proofs.Closing.act.Goals.{Joined-earned, then-earned, else-earned}
use Rattle.close_publish.proofs.Closing.act.Goals as goal

pub deduced-requires : goal.deduced-requires
deduced-requires c =
    let a = c.args in
    let s = a.self.now in
    let w = standing s.atoms a.rows a.slots.now s.held.now s.cut.now c.requires.fact_1 c.requires.fact_3.whole in
    let t = stored-part s.atoms a.rows _ a.slots.now s.held.now s.cut.now w a.position c.requires.fact_2 in
    record { holds = record { atoms = s.atoms; stored = t }; region = c.requires.fact_3.whole }

pub returns-in_err-said-clause-turn : goal.returns-in_err-said-clause-turn
returns-in_err-said-clause-turn c h =
    let a = c.args in
    let s = a.self.now in
    ended-on _ (passed c.from_residual.ensures.1)
    (act-stopped s.atoms a.position (beside (ledger_of h a.rows a.slots.now) a.contradicted.now) s.held.now s.cut.now a.meter.now _
    (part-row s.atoms a.rows a.position a.slots.now s.held.now s.cut.now a.meter.now c.requires.fact_1 c.requires.fact_2 h)
    c.in_err-said.ensures)

pub returns-in-Nothing-clause-turn : goal.returns-in-Nothing-clause-turn
returns-in-Nothing-clause-turn c h =
    let a = c.args in
    let s = a.self.now in
    act-nothing s.atoms a.position (beside (ledger_of h a.rows a.slots.now) a.contradicted.now) s.held.now s.cut.now a.meter.now _
    (part-row s.atoms a.rows a.position a.slots.now s.held.now s.cut.now a.meter.now c.requires.fact_1 c.requires.fact_2 h)
    c.in_ok-said.said _ c.in_ok-said.ensures c.in-Nothing.is

pub follow-read-requires-clause-fact_1 : goal.follow-read-requires-clause-fact_1
follow-read-requires-clause-fact_1 c =
    let a = c.args in
    let s = a.self.now in
    let w = standing s.atoms a.rows a.slots.now s.held.now s.cut.now c.requires.fact_1 c.requires.fact_3.whole in
    stored-part s.atoms a.rows _ a.slots.now s.held.now s.cut.now w a.position c.requires.fact_2

-- the slots at the end: with the hit that was earned, or as they were
module _ (c : Joined-earned) where
  hits : Hits c.earned.result c.args.position c.args.slots.now c.if-earned.slots
  hits = elim c.if-earned.branch [
    | then-earned w ↦ inl (w.if-earned.true, w.slots-is ∙ w.hit.ensures)
    | else-earned w ↦ inr (w.if-earned.false, w.slots-is)
  ]

pub returns-clause-turn : goal.returns-clause-turn
returns-clause-turn c h =
    let a = c.args in
    let s = a.self.now in
    let g = c.follow-read in
    act-reads s.atoms a.rows a.position a.slots.now s.held.now s.cut.now a.meter.now c.requires.fact_1 c.requires.fact_2
    c.in_ok-said.said _ c.in_ok-said.ensures g.result _ _ _ g.ensures.turn _ _ g.ensures.decides c.earned.result c.earned.ensures
    a.contradicted.now h _ (hits (goal.at.returns-clause-turn c).Joined-earned) _ c.named.ensures

pub returns-clause-stands : goal.returns-clause-stands
returns-clause-stands c =
    let a = c.args in
    let s = a.self.now in
    let w = standing s.atoms a.rows a.slots.now s.held.now s.cut.now c.requires.fact_1 c.requires.fact_3.whole in
    let t = hits-stand s.atoms a.rows _ a.slots.now s.held.now s.cut.now w _ a.position c.requires.fact_2 _
    (hits (goal.at.returns-clause-stands c).Joined-earned) in
    decided-stands s.atoms a.rows _ _ s.held.now s.cut.now t _ _ c.follow-read.ensures.goes.whole
