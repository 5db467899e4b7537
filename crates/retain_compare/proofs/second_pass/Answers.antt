use native.Mathlib.Omega.{arith}
use mathlib.Core.Path.{◌≡◌}
use Prim.Native.Nat.{◌<◌}
use lib.ListN.{length}
use Rattle.meter.proofs.Payments.{passed}
use Rattle.model.specs.Slots.{entries_in}
use Rattle.model.proofs.Slots.{entries-length}
use Rattle.retain_compare.proofs.Holding.{held-laid, held-row}
use Rattle.retain_compare.proofs.Sweep.{sweep-turn, sweep-unpaid, sweep-paid, sweep-marks}
use Rattle.retain_compare.proofs.second_pass.Goals.{At-loop-i, After-sweep_row}
use Rattle.retain_compare.proofs.second_pass.Goals as goal

count : (c : At-loop-i) → length (entries_in c.args.rows c.args.slots.now) ≡ c.args.rows
count c = entries-length c.args.rows c.args.slots.now

within : (c : After-sweep_row) → c.loop-i.i < length (entries_in c.args.rows c.args.slots.now)
within c = omega (arith, count (goal.at.After-sweep_row c).At-loop-i, c.loop-i-test.true)

pub sweep_row-requires-clause-fact_1 : goal.sweep_row-requires-clause-fact_1
sweep_row-requires-clause-fact_1 c = held-laid c.args.rows c.loop-i.i c.args.slots.now c.requires.fact_1 c.loop-i-test.true

pub returns-in_err-sweep_row-clause-paid : goal.returns-in_err-sweep_row-clause-paid
returns-in_err-sweep_row-clause-paid c =
    let l = within (goal.at.returns-in_err-sweep_row-clause-paid c).After-sweep_row in
    let r = held-row c.args.rows c.loop-i.i c.args.slots.now c.requires.fact_1 c.loop-i-test.true in
    rw (passed c.from_residual.ensures.1)
    (sweep-unpaid _ _ _ _ _ _ _ _ _ c.loop-i.invariant l _ _ (rw r at c.in_err-sweep_row.ensures.paid))

pub loop-i-preserved : goal.loop-i-preserved
loop-i-preserved c =
    let l = within (goal.at.loop-i-preserved c).After-sweep_row in
    let r = held-row c.args.rows c.loop-i.i c.args.slots.now c.requires.fact_1 c.loop-i-test.true in
    sweep-turn _ _ _ _ _ _ _ _ _ c.loop-i.invariant l _ (omega (arith, c.loop-i.invariant.same))
    (rw r at c.in_ok-sweep_row.ensures.paid) (rw r at c.in_ok-sweep_row.ensures.marked)

pub returns-clause-paid : goal.returns-clause-paid
returns-clause-paid c =
    sweep-paid _ _ _ _ _ _ _ _ _ c.loop-i.invariant (omega (arith, count (goal.at.returns-clause-paid c).At-loop-i, c.loop-i-test.false))

pub returns-clause-marked : goal.returns-clause-marked
returns-clause-marked c =
    sweep-marks _ _ _ _ _ _ _ _ _ c.loop-i.invariant (omega (arith, count (goal.at.returns-clause-marked c).At-loop-i, c.loop-i-test.false))
