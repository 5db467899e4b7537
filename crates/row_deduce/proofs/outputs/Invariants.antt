-- `row_deduce::outputs`: the walk from here on is the walk from the start, chunk by chunk. Assumes nothing.
use Rattle.words.specs.Region.{region}
use Rattle.row_deduce.proofs.Turns.{Passing}
use Rattle.row_deduce.proofs.outputs.Given as goal

-- where the tick is made
abbrev pub invariant-loop-g : goal.invariant-loop-g
invariant-loop-g l = Passing (region l.held l.cut) l.slot l.side l.initial.meter l.g l.meter
