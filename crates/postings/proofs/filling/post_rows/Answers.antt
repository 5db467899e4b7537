-- `post_rows`. Each row is posted after those before it. Assumes nothing.
use mathlib.Core.Path.{sym, ap, ◌∙◌}
use mathlib.Core.List.{List}
use Prim.Native.Nat.{ℕ}
use native.Mathlib.Omega.{arith}
use Rattle.meter.proofs.Payments.{passed}
use Rattle.postings.specs.Steps.{Walk, walk}
use Rattle.postings.specs.Filling.{Filled, put, filled_to}
use Rattle.postings.proofs.Walking.{walk-done}
use Rattle.postings.proofs.Fills.{filled-ended}
use Rattle.postings.proofs.Rows.{rows_start, rows_end, row_room, row_next, rows-walk, rows-stopped}
use Rattle.slots.proofs.Rows.{slot-code}
use Rattle.postings.proofs.filling.post_rows.Goals as goal

pub loop-position-init : goal.loop-position-init
loop-position-init c =
    let a = c.args in
    record {
      room = omega arith;
      same = ap (λ (l : List ℕ). walk put l (filled_to 0 a.postings.now) a.meter.now) (rows_start a.rows a.slots.now);
    }

pub post_row-requires : goal.post_row-requires
post_row-requires c =
    rw (slot-code c.args.slots.now c.loop-position.position, c.loop-position.auto.postings)
    (row_room c.requires c.loop-position.position c.loop-position.next c.loop-position-test.true c.loop-position.invariant.room)

pub returns-in_err-next : goal.returns-in_err-next
returns-in_err-next c =
    filled-ended _ _ _ (passed c.from_residual.ensures.1)
    (rows-stopped _ _ _ _ _ _ _ c.loop-position-test.true
    (rw (slot-code c.args.slots.now c.loop-position.position) at c.in_err-next.ensures)
    ∙ ap (λ (w : Walk Filled). w.end) c.loop-position.invariant.same)

pub loop-position-preserved : goal.loop-position-preserved
loop-position-preserved c =
    let k = c.loop-position.invariant in
    let p = c.loop-position.position in
    let l = c.loop-position-test.true in
    let row = rw (slot-code c.args.slots.now p) at c.in_ok-next.ensures in
    record {
      room = row_next c.requires p _ _ _ _ l k.room row;
      same = sym (rows-walk _ _ _ _ _ _ _ l row) ∙ k.same;
    }

pub returns : goal.returns
returns c =
    walk-done put _ _ _ (rows_end c.args.rows c.args.slots.now c.loop-position.position (omega arith)) ∙ c.loop-position.invariant.same
