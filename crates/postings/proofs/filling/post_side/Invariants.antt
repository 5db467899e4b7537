-- `post_side`. The loop: what is left of the side, filled from here, is the whole side filled from the start. Assumes nothing.
use mathlib.Core.Path.{◌≡◌}
use lib.ListN.{length}
use Rattle.words.specs.Literal.{code_bits}
use Rattle.slots.specs.Cursor.{list_of, rest, Placed}
use Rattle.postings.specs.Steps.{walk}
use Rattle.postings.specs.Filling.{put, filled_to, side_postings, left_postings}
use Rattle.postings.proofs.Fills.{Room, last_met}
use Rattle.postings.proofs.filling.post_side.Given as goal

abbrev pub invariant-loop-next : goal.invariant-loop-next
invariant-loop-next l = record {
  placed : Placed l.side l.cursor;
  room : Room code_bits (rest l.slot l.side l.cursor) l.next (length l.postings);
  same : walk put (left_postings l.position (last_met l.last) (rest l.slot l.side l.cursor)) (filled_to l.next l.postings) l.meter
      ≡ walk put (side_postings l.position (list_of l.slot l.side)) (filled_to l.at l.initial.postings) l.initial.meter;
}

abbrev pub decreases-loop-next : goal.decreases-loop-next
decreases-loop-next l = length (rest l.slot l.side l.cursor)
