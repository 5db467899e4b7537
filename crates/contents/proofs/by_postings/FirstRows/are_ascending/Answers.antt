use Rattle.std.proofs.Common.{◌≡◌, sym, ap, ◌∙◌, subst, arith, ℕ, List, ◌+◌, ◌≤◌, ◌<◌, length, get_or}
use Rattle.std.proofs.lemmas.Grind.{get_or_default_zero}
use borrow.Author.Tests.{ltb-true, ltb-false}
use Rattle.lists.specs.Counts.{times}
use Rattle.lists.specs.Runs.{run_after}
use Rattle.lists.proofs.Walks.{word_after}
use Rattle.lists.proofs.Tests.{same-yes, same-no}
use Rattle.model.specs.Postings.{postings_of}
use Rattle.slots.specs.Layout.{rows_in}
use Rattle.contents.specs.Marked.{Walked}
use Rattle.contents.proofs.Marks.{walked-small, walked-back, walked_more, walked_many, walked_end}
use Rattle.contents.proofs.by_postings.FirstRows.are_ascending.Goals.{In-Some, At-loop-word, After-next-run}
use Rattle.contents.proofs.by_postings.FirstRows.are_ascending.Goals as goal

abbrev due : At-loop-word → List ℕ
due c = let a = c.args in postings_of (rows_in a.self.rows a.self.slots.now)

-- the word at hand
inside : (c : In-Some) → c.loop-word.walk.at < length c.args.words.now
inside c = ltb-true c.loop-word.walk.at (length c.args.words.now) (sym c.in-Some.ensures.lookup.0)

is_word : (c : In-Some) → get_or c.args.words.now c.loop-word.walk.at 0 ≡ c.in-Some.word.now
is_word c =
    sym (c.in-Some.ensures.lookup.1
    ∙ get_or_default_zero c.args.words.now c.loop-word.walk.at c.in-Some.word.now (inside c))

-- how often it was met in a row
met : (c : After-next-run) → let w = c.loop-word.walk in
    c.next-run.result.times ≡ (run_after w.last (get_or c.args.words.now w.at 0)).times
met c =
    let w = c.loop-word.walk in
    ap (λ r. r.times) c.next-run.ensures
    ∙ ap (λ (x : ℕ). (run_after w.last x).times) (sym (is_word (goal.at.After-next-run c).In-Some))

pub returns-then-x-walk : goal.returns-then-x-walk
returns-then-x-walk c =
    let s = (goal.at.returns-then-x-walk c).In-Some in
    sym (same-no _ _ (walked-back _ _ _ _ _ c.loop-word.invariant.walked (inside s) (omega (arith, is_word s, c.if-x-walk.true))))

pub next-run-requires : goal.next-run-requires
next-run-requires c =
    let s = (goal.at.next-run-requires c).In-Some in
    omega (arith, walked-small _ _ _ _ _ c.loop-word.invariant.walked, inside s)

pub returns-then-posted_less : goal.returns-then-posted_less
returns-then-posted_less c =
    let at_run = (goal.at.returns-then-posted_less c).After-next-run in
    let s = (goal.at.returns-then-posted_less c).In-Some in
    let few = ltb-true _ c.next-run.result.times (sym c.if-posted_less.ensures) in
    let w = due (goal.at.returns-then-posted_less c).At-loop-word in
    let above : c.loop-word.walk.last.word ≤ get_or c.args.words.now c.loop-word.walk.at 0 = omega (arith, is_word s, c.if-x-walk.false) in
    sym (same-no _ _ (walked_many _ _ _ _ _ _ c.loop-word.invariant.walked (inside s) above (met at_run)
    (subst (λ (x : ℕ). times x w < c.next-run.result.times) (sym (is_word s)) few)))

pub walk_on-walk-requires-in-Some-clause-fact_2 : goal.walk_on-walk-requires-in-Some-clause-fact_2
walk_on-walk-requires-in-Some-clause-fact_2 c =
    let at_run = (goal.at.walk_on-walk-requires-in-Some-clause-fact_2 c).After-next-run in
    let s = (goal.at.walk_on-walk-requires-in-Some-clause-fact_2 c).In-Some in
    let few = ltb-false _ c.next-run.result.times (sym c.if-posted_less.ensures) in
    let w = due (goal.at.walk_on-walk-requires-in-Some-clause-fact_2 c).At-loop-word in
    let e = ap (λ r. r.word) c.next-run.ensures ∙ word_after c.loop-word.walk.last c.in-Some.word.now in
    subst (λ (x : ℕ). Walked c.args.words.now w (c.loop-word.walk.at + 1) x c.next-run.result.times) (is_word s ∙ sym e)
    (walked_more _ _ _ _ _ _ c.loop-word.invariant.walked (inside s) (omega (arith, is_word s, c.if-x-walk.false)) (met at_run)
    (subst (λ (x : ℕ). c.next-run.result.times ≤ times x w) (sym (is_word s)) few))

pub returns : goal.returns
returns c =
    let l = ltb-false c.loop-word.walk.at (length c.args.words.now) (sym c.in_default.ensures.lookup.0) in
    sym (same-yes _ _ (walked_end _ _ _ _ _ c.loop-word.invariant.walked l c.requires.fact_1))
