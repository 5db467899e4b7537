-- `copy_side` meets its contract: the literals that the cursor has still to give, written from there on, make the whole.
-- Assumes nothing.
use mathlib.Core.Path.{◌≡◌}
use Prim.Native.Nat.{◌+◌, ◌≤◌}
use lib.ListN.{length}
use Rattle.lists.specs.Lists.{put}
use Rattle.meter.specs.Meter.{pay}
use Rattle.slots.specs.Cursor.{rest, list_of, Placed}
use Rattle.row_propose.proofs.copy_side.Given as goal

abbrev pub invariant-loop-word : goal.invariant-loop-word
invariant-loop-word l = record {
  placed : Placed l.side l.cursor;
  room : l.word-index + length (rest l.slot l.side l.cursor) ≤ length l.out;
  written : put l.word-index (rest l.slot l.side l.cursor) l.out ≡ put 0 (list_of l.slot l.side) l.fn.out;
  paid : pay (length (rest l.slot l.side l.cursor)) l.purse.account l.purse.meter
      ≡ pay (length (list_of l.slot l.side)) l.fn.purse.account l.fn.purse.meter;
}
