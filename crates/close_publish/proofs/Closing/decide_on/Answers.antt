-- `close_publish::Closing::decide_on`. A Conflict with the region as it was, or the decision, noted. Assumes nothing.
use mathlib.Core.Path.{refl, ap}
use Rattle.words.specs.Region.{answer_in}
use Rattle.close_note.proofs.Logging.{logs-decision}
use Rattle.close_publish.proofs.Deciding.{decided-going, decided-conflict, decided-region, conflict-counts, marked-yes, decided-counts}
use Rattle.close_publish.proofs.Closing.decide_on.Goals as goal

pub returns-in-False-clause-turn : goal.returns-in-False-clause-turn
returns-in-False-clause-turn c =
    let a = c.args in
    let s = a.self.now in
    decided-conflict s.atoms s.held.now s.cut.now a.literal _ _ _ c.decide_literal-marking.ensures.done (ap answer_in c.in-False.is)

pub returns-in-False-clause-decides : goal.returns-in-False-clause-decides
returns-in-False-clause-decides c =
    let a = c.args in
    let s = a.self.now in
    conflict-counts s.atoms s.held.now s.cut.now a.literal _ _ _ c.decide_literal-marking.ensures.done (ap answer_in c.in-False.is)
    s.decided

pub returns : goal.returns
returns c =
    let a = c.args in
    let s = a.self.now in
    let d = c.decide_literal-marking.ensures in
    let e = c.note-self.ensures in
    let kind = c.in_default.not-False in
    let whole = c.requires.whole in record {
      turn = decided-going s.atoms s.held.now s.cut.now a.literal _ _ _ d.done (marked-yes c.decide_literal-marking.result kind);
      decides = decided-counts s.atoms s.held.now s.cut.now a.literal _ _ _ d.said d.done whole kind s.decided _ e.count;
      goes = record {
        atoms = refl;
        whole = decided-region s.atoms s.held.now s.cut.now a.literal _ _ _ d.done whole;
        logged = logs-decision s.atoms s.held.now s.cut.now a.literal s.decided s.noted.now c.requires.room _ _ _ d.said d.done whole _
            _ e.count e.words;
        held = record { name = refl; long = c.decide_literal-marking.auto.held };
        cut = record { name = refl; long = c.decide_literal-marking.auto.cut };
        noted = record { name = refl; long = c.note-self.auto.noted };
      };
    }
