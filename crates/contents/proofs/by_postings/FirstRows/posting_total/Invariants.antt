-- `contents::by_postings::FirstRows::posting_total`. The loop: what is counted, and the postings of the rows left, make the whole.
-- Assumes nothing.
use mathlib.Core.Path.{◌≡◌}
use Prim.Native.Nat.{◌+◌, ◌*◌, ◌≤◌}
use lib.ListN.{length}
use Rattle.model.specs.Records.{posting_words}
use Rattle.model.specs.Postings.{postings_from, postings_of}
use Rattle.slots.specs.Layout.{rows_in}
use Rattle.slots.proofs.Rows.{rows_from}
use Rattle.contents.proofs.by_postings.FirstRows.posting_total.Given as goal

abbrev pub invariant-loop-p : goal.invariant-loop-p
invariant-loop-p l =
    (l.count ≤ posting_words * l.p)
    × (l.count + length (postings_from l.p (rows_from l.self.rows l.self.slots.now l.p))
    ≡ length (postings_of (rows_in l.self.rows l.self.slots.now)))
