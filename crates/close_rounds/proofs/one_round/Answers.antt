-- `close_rounds::one_round`. The search, then the rows that it found, then the notes in order. Assumes nothing.
use mathlib.Core.Path.{◌≡◌, sym, ap, ◌∙◌, subst}
use Prim.Native.Nat.{ℕ}
use native.Mathlib.Omega.{arith}
use lib.ListN.{take}
use Rattle.std.specs.Prelude.{Result, Ok, Err}
use Rattle.words.specs.Region.{region}
use Rattle.meter.proofs.Payments.{passed}
use Rattle.model.specs.Closing.{State, Turn, going}
use Rattle.close_note.specs.Noting.{Gathered}
use Rattle.close_note.proofs.Logging.{room-start, logs-notes, logs-since}
use Rattle.close_publish.specs.declared.Halt.{Halt}
use Rattle.close_publish.specs.Turns.{halted_as, ended_as}
use Rattle.close_publish.proofs.Ending.{ended-on}
use Rattle.close_rounds.specs.Running.{Running}
use Rattle.close_rounds.specs.Rounds.{state_in, one_round, Under}
use Rattle.close_rounds.proofs.Searching.{runs-standing, search-under, search-runs, search-stopped, search-fits, search-each}
use Rattle.close_rounds.proofs.Searching.{round-turn, round-runs}
use Rattle.close_rounds.proofs.one_round.Goals.{After-candidates-found, In-Count, After-round}
use borrow.Author.Rules.{rules}
use Rattle.close_rounds.proofs.one_round.Goals as goal

-- how the round ended
was-halted : (r : Result ℕ Halt) (e : Halt) (s : State) {t : Turn} → r ≡ Err e → ended_as r s ≡ t → halted_as e s ≡ t
was-halted r e s p q = sym (ap (λ (x : Result ℕ Halt). ended_as x s) p) ∙ q

was-going : (r : Result ℕ Halt) (d : ℕ) (s : State) {t : Turn} → r ≡ Ok d → ended_as r s ≡ t → going s ≡ t
was-going r d s p q = sym (ap (λ (x : Result ℕ Halt). ended_as x s) p) ∙ q

module _ (c : After-candidates-found) where
  under : Under c.args.header.now c.candidates-found.result.header
  under =
      let a = c.args in
      search-under a.header.now a.slots.now a.postings.now a.held.now a.cut.now a.noted.now a.given a.meter.now a.contradicted.now
      c.requires.fact_1 c.candidates-found.result a.places.now _ c.candidates-found.ensures.found

-- what a round leaves, however it ended
module _ (c : After-round) where
  turn : ended_as c.round.result
      (state_in c.candidates-found.result.header c.round.new.slots c.round.new.held c.round.new.cut c.round.new.meter
      c.round.new.contradicted)
      ≡ one_round c.args.header.now.limits.atoms (take c.args.given c.args.noted.now)
      (state_in c.args.header.now c.args.slots.now c.args.held.now c.args.cut.now c.args.meter.now c.args.contradicted.now)
  turn =
      let a = c.args in
      let f = c.candidates-found in
      round-turn a.header.now a.slots.now a.postings.now a.held.now a.cut.now a.noted.now a.given a.meter.now a.contradicted.now
      c.requires.fact_1 f.result a.places.now _ f.ensures.found c.in-Count.count c.in-Count.is c.round.result _ _ _ _ _
      c.round.ensures.turn

  runs : Running c.candidates-found.result.header c.round.new.slots c.candidates-found.new.postings c.round.new.held c.round.new.cut
  runs =
      let a = c.args in
      let f = c.candidates-found in
      round-runs a.header.now a.slots.now a.postings.now a.held.now a.cut.now a.noted.now a.given a.meter.now a.contradicted.now
      c.requires.fact_1 f.result a.places.now _ f.ensures.found c.in-Count.count c.in-Count.is _ _ _ _ f.ensures.filing
      c.round.ensures.stands c.round.auto.slots

pub returns-in_default : goal.returns-in_default
returns-in_default c =
    let a = c.args in
    let f = c.candidates-found in record {
      turn = search-stopped a.header.now a.slots.now a.postings.now a.held.now a.cut.now a.noted.now a.given a.meter.now
          a.contradicted.now c.requires.fact_1 f.result a.places.now _ f.ensures.found (λ x q. c.in_default.not-Count x q);
      runs = search-runs a.header.now a.slots.now a.postings.now a.held.now a.cut.now a.noted.now a.given a.meter.now
          a.contradicted.now c.requires.fact_1 f.result a.places.now _ f.ensures.found _ f.ensures.filing;
      under = under (goal.at.returns-in_default c).After-candidates-found;
      new = search rules;
    }

pub slice_bounds-round-end : goal.slice_bounds-round-end
slice_bounds-round-end c =
    let a = c.args in
    let f = c.candidates-found in
    let l = search-fits a.header.now a.slots.now a.postings.now a.held.now a.cut.now a.noted.now a.given a.meter.now a.contradicted.now
    c.requires.fact_1 f.result a.places.now _ f.ensures.found c.in-Count.count c.in-Count.is f.auto.answer in
    search rules

pub round-requires : goal.round-requires
round-requires c =
    let a = c.args in
    let f = c.candidates-found in record {
      fact_1 = runs-standing a.header.now a.slots.now a.postings.now a.held.now a.cut.now c.requires.fact_1;
      fact_2 = search-each a.header.now a.slots.now a.postings.now a.held.now a.cut.now a.noted.now a.given a.meter.now a.contradicted.now
          c.requires.fact_1 f.result a.places.now _ f.ensures.found c.in-Count.count c.in-Count.is;
      fact_3 = room-start a.header.now.limits.atoms a.noted.now (region a.held.now a.cut.now) c.requires.fact_3;
    }

pub returns-in_err-decided-clause-turn : goal.returns-in_err-decided-clause-turn
returns-in_err-decided-clause-turn c =
    ended-on _ (passed c.from_residual.ensures.1)
    (was-halted _ _ _ c.in_err-decided.was (turn (goal.at.returns-in_err-decided-clause-turn c).After-round))

pub returns-in_err-decided-clause-runs : goal.returns-in_err-decided-clause-runs
returns-in_err-decided-clause-runs c = runs (goal.at.returns-in_err-decided-clause-runs c).After-round

pub returns-in_err-decided-clause-under : goal.returns-in_err-decided-clause-under
returns-in_err-decided-clause-under c = under (goal.at.returns-in_err-decided-clause-under c).After-candidates-found

pub in_order-requires : goal.in_order-requires
in_order-requires c =
    let a = c.args in
    let long = c.requires.fact_3 in record {
      fact_1 = logs-notes a.header.now.limits.atoms a.noted.now (region a.held.now a.cut.now) _ _ _ c.in_ok-decided.ensures.logged;
      fact_2 = omega (arith, c.round.auto.noted);
    }

pub returns : goal.returns
returns c =
    let a = c.args in
    let read = (goal.at.returns c).After-round in record {
      turn = was-going _ _ _ c.in_ok-decided.was (turn read);
      runs = runs read;
      under = under (goal.at.returns c).After-candidates-found;
      new = subst (Gathered _ _)
          (logs-since a.header.now.limits.atoms a.noted.now (region a.held.now a.cut.now) _ _ _ c.in_ok-decided.ensures.logged)
          c.in_order.ensures;
    }
