-- `row_deduce::conditions`: the walk from here on is the walk from the start, chunk by chunk. Assumes nothing.
use Rattle.words.specs.Region.{region}
use Rattle.row_deduce.proofs.Turns.{Walking}
use Rattle.row_deduce.proofs.conditions.Given as goal

-- where the tick is made
abbrev pub invariant-loop-g : goal.invariant-loop-g
invariant-loop-g l = Walking (region l.held l.cut) l.slot l.side l.initial.meter l.state l.g l.meter
