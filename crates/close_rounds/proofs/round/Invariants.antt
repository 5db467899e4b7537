-- `close_rounds::round`. What is left of the round, run from here, is the whole round run from the start; beside it goes the closing.
-- Assumes nothing.
use mathlib.Core.Path.{◌≡◌}
use Rattle.close_publish.specs.Closed.{Goes}
use Rattle.close_rounds.proofs.Reading.{Reading}
use Rattle.close_rounds.proofs.round.Given as goal

abbrev pub invariant-loop-position : goal.invariant-loop-position
invariant-loop-position l = record {
  reads : Reading l.atoms l.rows l.positions l.initial.slots l.initial.closing.held.now l.initial.closing.cut.now l.initial.meter
      l.initial.contradicted l.slots l.closing.held.now l.closing.cut.now l.meter l.contradicted l.position-index;
  goes : Goes l.initial.closing l.closing;
  held : l.closing.held.ghost_name ≡ l.initial.closing.held.ghost_name;
  cut : l.closing.cut.ghost_name ≡ l.initial.closing.cut.ghost_name;
  noted : l.closing.noted.ghost_name ≡ l.initial.closing.noted.ghost_name;
}
