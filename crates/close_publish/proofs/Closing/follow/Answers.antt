-- `close_publish::Closing::follow`. One law for each deduction. Assumes nothing.
use mathlib.Core.Path.{◌∙◌}
use Rattle.model.specs.Slots.{row_in}
use Rattle.close_publish.specs.Closed.{state_of, region_of}
use Rattle.close_publish.proofs.Deciding.{counted-none}
use Rattle.close_publish.proofs.Acting.{follow-nothing, follow-force, follow-require}
use Rattle.close_publish.proofs.Closing.follow.Goals as goal

pub returns-in-Nothing-clause-turn : goal.returns-in-Nothing-clause-turn
returns-in-Nothing-clause-turn c l =
    let a = c.args in
    follow-nothing a.self.now.atoms (row_in a.slot.now) a.said (state_of l a.self.now a.meter.now) c.in-Nothing.is

pub returns-in-Nothing-clause-decides : goal.returns-in-Nothing-clause-decides
returns-in-Nothing-clause-decides c =
    let s = c.args.self.now in counted-none s.atoms s.decided (region_of s)

pub returns-in-Force-clause-turn : goal.returns-in-Force-clause-turn
returns-in-Force-clause-turn c l =
    let a = c.args in
    c.publish.ensures.turn l
    ∙ follow-force a.self.now.atoms (row_in a.slot.now) a.said (state_of l a.self.now a.meter.now) c.in-Force.is

pub returns-in-Require-clause-turn : goal.returns-in-Require-clause-turn
returns-in-Require-clause-turn c l =
    let a = c.args in
    let o = c.in-Require in
    c.decide_on.ensures.turn l a.meter.now
    ∙ follow-require a.self.now.atoms (row_in a.slot.now) a.said (state_of l a.self.now a.meter.now) o.required o.contradicted o.is
