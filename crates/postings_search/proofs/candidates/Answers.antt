-- `postings_search::candidates`. One law for each way out. Assumes nothing.
use mathlib.Core.Path.{◌≡◌, sym}
use mathlib.Core.List.{[]}
use mathlib.Core.Option.{none}
use Rattle.model.specs.Refusals.{Lent, refusal, accepts}
use Rattle.contents.specs.Lent.{lent}
use Rattle.contents.proofs.Accepting.{accepted, accept-refused}
use Rattle.postings_search.proofs.Searching.{others, room, candidates-refused, candidates-done}
use Rattle.postings_search.proofs.candidates.Goals.{After-accept, In_default}
use Rattle.postings_search.proofs.candidates.Goals as goal

module _ (c : After-accept) where
  abbrev s : Lent
  s = lent c.args.header c.args.slots.now c.args.postings.now

pub returns-in-Err : goal.returns-in-Err
returns-in-Err c =
    let a = c.args in
    candidates-refused a.header a.slots.now a.postings.now a.answer.now a.atoms.now a.work _
    (accept-refused (s (goal.at.returns-in-Err c).After-accept) _ [] _ c.in-Err.ensures)

-- the ledger was accepted
module _ (c : In_default) where
  accepts-here : refusal (accepts (s (goal.at.In_default c).After-accept) (others c.args.header c.args.answer.now) [])
      ≡ none
  accepts-here = sym c.in_default.ensures

pub candidates-found-requires : goal.candidates-found-requires
candidates-found-requires c =
    let at_passed = (goal.at.candidates-found-requires c).In_default in
    let a = c.args in record {
      fact_1 = (accepted a.header a.slots.now a.postings.now _ [] (accepts-here at_passed)).stands;
      fact_2 = room a.header a.slots.now a.postings.now a.answer.now (accepts-here at_passed);
    }

pub returns : goal.returns
returns c =
    let a = c.args in
    candidates-done a.header a.slots.now a.postings.now a.answer.now a.atoms.now a.work (accepts-here (goal.at.returns c).In_default)
    c.candidates-found.result _ _ _ c.candidates-found.ensures.found c.candidates-found.ensures.filing c.made.ensures
