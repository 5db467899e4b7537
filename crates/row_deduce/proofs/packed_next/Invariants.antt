-- `row_deduce::packed_next`: what is published from here on is what is published from the start. Assumes nothing.
use Prim.Native.Nat.{◌-◌}
use Rattle.words.specs.Region.{region}
use Rattle.row_deduce.proofs.Publishing.{Loading}
use Rattle.row_deduce.proofs.packed_next.Given as goal

abbrev pub invariant-loop-cursor : goal.invariant-loop-cursor
invariant-loop-cursor l = Loading (region l.held l.cut) l.slot l.side l.initial.cursor l.initial.meter l.cursor l.meter

abbrev pub decreases-loop-cursor : goal.decreases-loop-cursor
decreases-loop-cursor l = l.side.count - l.cursor.next
