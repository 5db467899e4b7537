-- `post_rows`. The loop: the rows from `position` on, filled from here, are all rows filled from the start. Assumes nothing.
use mathlib.Core.Path.{◌≡◌}
use Prim.Native.Nat.{◌*◌, ◌≤◌}
use Rattle.model.specs.Records.{posting_words}
use Rattle.model.specs.Postings.{postings_from, postings_of}
use Rattle.postings.specs.Steps.{walk}
use Rattle.slots.specs.Layout.{rows_in}
use Rattle.postings.specs.Filling.{put, filled_to}
use Rattle.slots.proofs.Rows.{rows_from}
use Rattle.postings.proofs.filling.post_rows.Given as goal

abbrev pub invariant-loop-position : goal.invariant-loop-position
invariant-loop-position l = record {
  room : l.next ≤ posting_words * l.position;
  same : walk put (postings_from l.position (rows_from l.rows l.slots l.position)) (filled_to l.next l.postings) l.meter
      ≡ walk put (postings_of (rows_in l.rows l.slots)) (filled_to 0 l.initial.postings) l.initial.meter;
}
