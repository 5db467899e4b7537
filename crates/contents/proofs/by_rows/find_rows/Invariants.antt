-- `contents::by_rows::find_rows`. The loop: every posting of the first `p` rows stands before the place of its atom, and those counted and
-- those of the rows left are all. Assumes nothing.
use Rattle.std.proofs.Common.{◌≡◌, ℕ, ◌+◌, ◌*◌, ◌%◌, ◌≤◌, ◌<◌, length}
use Rattle.lists.specs.Counts.{times}
use Rattle.model.specs.Records.{posting_words, max_rows}
use Rattle.model.specs.Postings.{postings_from, postings_of}
use Rattle.slots.specs.Layout.{rows_in}
use Rattle.slots.proofs.Rows.{rows_from}
use Rattle.contents.specs.Placed.{placed}
use Rattle.contents.proofs.by_rows.find_rows.Given as goal

abbrev pub invariant-loop-p : goal.invariant-loop-p
invariant-loop-p l = record {
  few : l.count ≤ posting_words * l.p;
  sum : l.count + length (postings_from l.p (rows_from l.rows l.slots l.p)) ≡ length (postings_of (rows_in l.rows l.slots));
  met : (v : ℕ) → v % max_rows < l.p → times v (postings_of (rows_in l.rows l.slots)) ≤ placed l.words l.places v;
}
