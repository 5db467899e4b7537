use native.Mathlib.Omega.{arith}
use mathlib.Core.Path.{◌≡◌, refl}
use Prim.Native.Nat.{◌<◌, ◌≤◌}
use lib.ListN.{length}
use Rattle.meter.proofs.Payments.{passed}
use Rattle.model.specs.Slots.{entries_in}
use Rattle.model.proofs.Slots.{entries-length}
use Rattle.retain_compare.proofs.Holding.{held-laid, held-row, held-under}
use Rattle.retain_compare.proofs.Outcomes.{untold}
use Rattle.retain_compare.proofs.Advance.{advance-start, advance-found, advance-unpaid, advance-turn, advance_end, advance-paid}
use Rattle.retain_compare.proofs.first_pass.Goals.{At-loop-i, After-compare_row}
use Rattle.retain_compare.proofs.first_pass.Goals as goal

count : (c : At-loop-i) → length (entries_in c.args.rows c.args.slots.now) ≡ c.args.rows
count c = entries-length c.args.rows c.args.slots.now

within : (c : After-compare_row) → c.loop-i.i < length (entries_in c.args.rows c.args.slots.now)
within c = omega (arith, count (goal.at.After-compare_row c).At-loop-i, c.loop-i-test.true)

pub loop-i-init : goal.loop-i-init
loop-i-init c = advance-start _ _ _ _ _ _ _ refl c.requires.fact_2 c.requires.fact_5

pub compare_row-requires-clause-fact_1 : goal.compare_row-requires-clause-fact_1
compare_row-requires-clause-fact_1 c = held-laid c.args.rows c.loop-i.i c.args.slots.now c.requires.fact_1 c.loop-i-test.true

pub returns-in_err-compare_row : goal.returns-in_err-compare_row
returns-in_err-compare_row c =
    let l = within (goal.at.returns-in_err-compare_row c).After-compare_row in
    let r = held-row c.args.rows c.loop-i.i c.args.slots.now c.requires.fact_1 c.loop-i-test.true in
    let e = passed c.from_residual.ensures.1 in (
      rw e (advance-unpaid _ _ _ _ _ _ _ _ _ _ _ c.loop-i.invariant l _ _ (rw r at c.in_err-compare_row.ensures.asked)),
      untold _ e,
    )

pub returns-then-branch : goal.returns-then-branch
returns-then-branch c =
    let l = within (goal.at.returns-then-branch c).After-compare_row in
    let r = held-row c.args.rows c.loop-i.i c.args.slots.now c.requires.fact_1 c.loop-i-test.true in
    (advance-found _ _ _ _ _ _ _ _ _ _ _ c.loop-i.invariant l _ (rw (r, c.if-branch.true) at c.in_ok-compare_row.ensures.asked), tt)

pub loop-i-preserved : goal.loop-i-preserved
loop-i-preserved c =
    let l = within (goal.at.loop-i-preserved c).After-compare_row in
    let r = held-row c.args.rows c.loop-i.i c.args.slots.now c.requires.fact_1 c.loop-i-test.true in
    advance-turn _ _ _ _ _ _ _ _ _ _ _ c.loop-i.invariant l _ _ _ (rw (r, c.if-branch.false) at c.in_ok-compare_row.ensures.asked)
    (rw (r, c.if-branch.false) at c.in_ok-compare_row.ensures.joined) c.requires.fact_3
    (held-under c.args.rows c.loop-i.i c.args.slots.now c.requires.fact_1 c.loop-i-test.true) (omega (arith, c.loop-i.invariant.same))

pub returns : goal.returns
returns c =
    let l : length (entries_in c.args.rows c.args.slots.now) ≤ c.loop-i.i
    = omega (arith, count (goal.at.returns c).At-loop-i, c.loop-i-test.false) in (
      advance-paid _ _ _ _ _ _ _ _ _ _ _ c.loop-i.invariant l,
      (advance_end _ _ _ _ _ _ _ _ _ _ _ c.loop-i.invariant l, c.loop-i.invariant.proposed),
    )
