-- `search`: the marks gathered, or all zeroed. Assumes nothing.
use mathlib.Core.Path.{◌≡◌, ap, ap₂, ◌∙◌}
use mathlib.Core.List.{List}
use Prim.Native.Nat.{ℕ}
use native.Mathlib.Omega.{arith}
use Rattle.lists.specs.Lists.{zeroed}
use Rattle.meter.specs.Tick.{Tick}
use Rattle.model.specs.declared.CandidatesAnswer.TheVariants as answer
use Rattle.postings.specs.Steps.{walk, walked}
use Rattle.postings.specs.Searching.{look, looks_all, SearchEnd}
use Rattle.postings.proofs.Answers.{search-whole, search-stopped}
use Rattle.postings.proofs.searching.search.Goals.{After-mark_atoms}
use Rattle.postings.proofs.searching.search.Goals as goal

module _ (c : After-mark_atoms) where
  marking : {t : Tick} → walked t c.mark_atoms.new.answer
      ≡ walk look (looks_all c.args.postings.now c.args.atoms.now) c.fill_zero.new.dst c.args.work
      → walked t c.mark_atoms.new.answer
      ≡ walk look (looks_all c.args.postings.now c.args.atoms.now) (zeroed c.args.answer.now) c.args.work
  marking e =
      e ∙ ap (λ (z : List ℕ). walk look (looks_all c.args.postings.now c.args.atoms.now) z c.args.work) c.fill_zero.ensures

pub returns-in-Ok : goal.returns-in-Ok
returns-in-Ok c =
    let a = c.args in
    let g = c.gather-count.ensures in
    let m = c.mark_atoms.new.meter in
    ap₂ {C = SearchEnd} (λ (k : ℕ) (xs : List ℕ). record { answer = answer.Count k; header = a.header; meter = m; found = xs })
    g.value g.out_after
    ∙ search-whole a.header a.postings.now a.atoms.now a.answer.now a.work _ m c.requires
    (marking (goal.at.returns-in-Ok c).After-mark_atoms c.in-Ok.ensures)

pub returns-in-Err : goal.returns-in-Err
returns-in-Err c =
    let a = c.args in
    let m = c.mark_atoms.new.meter in
    ap {B = SearchEnd} (λ (xs : List ℕ). record { answer = answer.Stopped; header = a.header; meter = m; found = xs })
    c.fill_zero-in-Err.ensures
    ∙ search-stopped a.header a.postings.now a.atoms.now a.answer.now a.work _ m (omega arith)
    (marking (goal.at.returns-in-Err c).After-mark_atoms c.in-Err.ensures)
