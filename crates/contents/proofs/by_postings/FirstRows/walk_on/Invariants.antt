-- `contents::by_postings::FirstRows::walk_on`. Each word above the last one and posted at least once is met once. Assumes nothing.
use Rattle.std.proofs.Common.{◌≡◌}
use Rattle.model.specs.Postings.{postings_of}
use Rattle.slots.specs.Layout.{rows_in}
use Rattle.contents.specs.Marked.{Marked, Walked}
use Rattle.contents.proofs.by_postings.FirstRows.walk_on.Given as goal

abbrev pub invariant-loop-at : goal.invariant-loop-at
invariant-loop-at l = record {
  at : l.walk.at ≡ l.at;
  marked : Marked l.self.rows l.self.slots.now l.places;
  walked : Walked l.words (postings_of (rows_in l.self.rows l.self.slots.now)) l.walk.at l.walk.last.word l.walk.last.times;
}
