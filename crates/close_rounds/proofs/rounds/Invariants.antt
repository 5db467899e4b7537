-- `close_rounds::rounds`. The rounds left, run from here, are all rounds run from the start. Assumes nothing.
use Rattle.words.specs.Region.{region}
use Rattle.model.proofs.Priority.Rounds.{opens}
use Rattle.close_rounds.proofs.Repeating.{Repeating}
use Rattle.close_rounds.proofs.rounds.Given as goal

abbrev pub invariant-loop-given : goal.invariant-loop-given
invariant-loop-given l =
    Repeating l.initial.header l.initial.slots l.initial.postings l.initial.held l.initial.cut l.initial.places l.initial.noted
    l.initial.meter l.initial.contradicted l.header l.slots l.postings l.held l.cut l.places l.noted l.meter l.contradicted l.given

abbrev pub decreases-loop-given : goal.decreases-loop-given
decreases-loop-given l = opens l.initial.header.limits.atoms (region l.held l.cut)
