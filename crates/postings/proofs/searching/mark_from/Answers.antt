-- `mark_from`. A posting of the atom is ticked and marked; one of another atom ends it. Assumes nothing.
use mathlib.Core.Path.{◌≡◌, sym, ap, ◌∙◌}
use mathlib.Core.List.{List}
use mathlib.Core.Option.{Option}
use Prim.Native.Nat.{ℕ, ◌+◌, ◌*◌}
use native.Mathlib.Omega.{arith}
use lib.ListN.{drop}
use Rattle.lists.proofs.Marks.{lower-le}
use Rattle.meter.proofs.Payments.{passed}
use Rattle.model.specs.Records.{max_rows}
use Rattle.postings.specs.Steps.{walk}
use Rattle.postings.specs.Searching.{look, marks}
use Rattle.postings.proofs.Walking.{walk-done, walk-ended}
use Rattle.postings.proofs.Marking.{marks-from, marks-turn, marks-other, marks-over, marks-placed}
use Rattle.postings.proofs.searching.mark_from.Goals as goal

pub offset_bounds-postings-from : goal.offset_bounds-postings-from
offset_bounds-postings-from c = omega (arith, lower-le (c.args.atom * max_rows) c.args.postings.now)

pub slice_bounds-posting-items-count : goal.slice_bounds-posting-items-count
slice_bounds-posting-items-count c = omega (arith, lower-le (c.args.atom * max_rows) c.args.postings.now)

pub slice_bounds-posting-items-start : goal.slice_bounds-posting-items-start
slice_bounds-posting-items-start c = omega (arith, lower-le (c.args.atom * max_rows) c.args.postings.now)

pub loop-posting-init : goal.loop-posting-init
loop-posting-init c =
    let a = c.args in
    let z : a.from + 0 ≡ a.from = omega arith in
    ap (λ (xs : List (Option ℕ)). walk look xs a.answer.now a.meter.now)
    (ap (λ (i : ℕ). marks (drop i a.postings.now) a.atom) (z ∙ c.requires.fact_2)
    ∙ marks-from a.atom a.postings.now c.requires.fact_1.sorted)

pub returns-then-posting-atom : goal.returns-then-posting-atom
returns-then-posting-atom c =
    walk-done look _ _ _
    (marks-other _ _ _ _ c.requires.fact_1.sorted c.requires.fact_2 (omega arith) c.if-posting-atom.true)
    ∙ c.loop-posting.invariant

pub returns-in_err-tick : goal.returns-in_err-tick
returns-in_err-tick c =
    walk-ended _ _ (passed c.from_residual.ensures.1)
    (sym (marks-turn _ _ _ _ _ _ c.loop-posting-test.true c.if-posting-atom.false c.in_err-tick.ensures) ∙ c.loop-posting.invariant)

pub bounds-answer-position : goal.bounds-answer-position
bounds-answer-position c =
    let a = c.args in
    omega (arith, marks-placed a.atom a.from a.postings.now _ c.loop-posting.posting-index c.requires.fact_1.placed (omega arith))

pub loop-posting-preserved : goal.loop-posting-preserved
loop-posting-preserved c =
    sym (marks-turn _ _ _ _ _ _ c.loop-posting-test.true c.if-posting-atom.false c.in_ok-tick.ensures) ∙ c.loop-posting.invariant

pub returns : goal.returns
returns c = walk-done look _ _ _ (marks-over _ _ _ c.loop-posting.posting-index (omega arith)) ∙ c.loop-posting.invariant
