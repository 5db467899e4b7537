-- `contents::by_postings::FirstRows::mark_rows`. The loop: the places of the rows so far say their forms, and the literals counted are no
-- fewer than the postings. Assumes nothing.
use Prim.Native.Nat.{◌+◌, ◌*◌, ◌≤◌}
use lib.ListN.{length}
use Rattle.model.specs.Records.{posting_words}
use Rattle.model.specs.Postings.{postings_from, postings_of}
use Rattle.slots.specs.Layout.{rows_in}
use Rattle.slots.proofs.Rows.{rows_from}
use Rattle.contents.specs.Marked.{Marked}
use Rattle.contents.proofs.by_postings.FirstRows.mark_rows.Given as goal

abbrev pub invariant-loop-p : goal.invariant-loop-p
invariant-loop-p l =
    (l.count ≤ posting_words * l.p)
    × (length (postings_of (rows_in l.self.rows l.self.slots.now))
    ≤ l.count + length (postings_from l.p (rows_from l.self.rows l.self.slots.now l.p)))
    × Marked l.p l.self.slots.now l.places
