-- 01, Candidates: the end of the operation, from what the code gives back and leaves in the lent slices. Assumes nothing.
use Rattle.std.specs.Prelude.{List, ℕ}
use Rattle.model.specs.declared.CandidatesResult.{CandidatesResult}
use Rattle.model.specs.Answers.{replied, candidates_reply}
use Rattle.model.specs.Operations.{CandidatesEnd}
use Rattle.contents.specs.Lent.{lent}

abbrev pub candidates_end : CandidatesResult → List ℕ → List ℕ → List ℕ → CandidatesEnd
candidates_end r slots postings found = record {
  answer = replied candidates_reply r.answer;
  ledger = lent r.header slots postings;
  found = found;
  meter = r.meter;
  ticks = r.ticks;
}
