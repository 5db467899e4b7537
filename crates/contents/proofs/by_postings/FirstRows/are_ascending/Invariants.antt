-- `contents::by_postings::FirstRows::are_ascending`. The words met so far ascend, and none more often than it is posted. Assumes nothing.
use Rattle.std.proofs.Common.{◌-◌, length}
use Rattle.model.specs.Postings.{postings_of}
use Rattle.slots.specs.Layout.{rows_in}
use Rattle.contents.specs.Marked.{Marked, Walked}
use Rattle.contents.proofs.by_postings.FirstRows.are_ascending.Given as goal

abbrev pub invariant-loop-word : goal.invariant-loop-word
invariant-loop-word l = record {
  marked : Marked l.self.rows l.self.slots.now l.places;
  walked : Walked l.words (postings_of (rows_in l.self.rows l.self.slots.now)) l.walk.at l.walk.last.word l.walk.last.times;
}

abbrev pub decreases-loop-word : goal.decreases-loop-word
decreases-loop-word l = length l.words - l.walk.at
