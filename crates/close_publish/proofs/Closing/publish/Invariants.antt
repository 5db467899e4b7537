-- `close_publish::Closing::publish`. What is left to publish, run from here, is what was left at the start; beside it goes the closing.
-- Assumes nothing.
use Rattle.model.specs.Slots.{row_in}
use Rattle.close_publish.specs.Closed.{Goes}
use Rattle.close_publish.proofs.Publishing.{left, Publishes}
use Rattle.close_publish.proofs.Closing.publish.Given as goal

abbrev pub invariant-loop-literal : goal.invariant-loop-literal
invariant-loop-literal l = record {
  publishes : Publishes l.initial.self.atoms l.slot l.initial.self.held.now l.initial.self.cut.now l.initial.meter l.initial.self.decided
      l.self.held.now l.self.cut.now l.meter l.self.decided l.cursor;
  goes : Goes l.initial.self l.self;
}

abbrev pub decreases-loop-literal : goal.decreases-loop-literal
decreases-loop-literal l = left (row_in l.slot) l.cursor
