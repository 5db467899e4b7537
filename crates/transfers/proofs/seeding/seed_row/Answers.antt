-- `seed_row` meets its contract, by the way that the row goes. Assumes nothing.
use native.Mathlib.Omega.{arith}
use mathlib.Core.Path.{◌≡◌}
use lib.ListN.{length}
use Rattle.model.specs.Records.{slot_words}
use Rattle.meter.proofs.Payments.{passed}
use Rattle.slots.proofs.Storing.{laid-stored}
use Rattle.transfers.proofs.Carrying.{carried-accepted}
use Rattle.transfers.proofs.RowSeeded.{row-past, row-halted, row-unpaid, row-subsumed, row_fits_lem, row-added}
use Rattle.transfers.proofs.seeding.seed_row.Goals.{Start}
use Rattle.transfers.proofs.seeding.seed_row.Goals as goal

module _ (t : Start) where
  long : length t.args.row.now ≡ slot_words
  long = (laid-stored t.args.transfer.now.header.limits.atoms t.args.row.now t.requires.stored).long

pub bounds-row-6 : goal.bounds-row-6
bounds-row-6 c = omega (arith, long (goal.at.bounds-row-6 c).Start)

pub returns-in_err-tick : goal.returns-in_err-tick
returns-in_err-tick c n m v h =
    row-halted n m c.args.transfer.now _ _ v h c.args.row.now c.args.limits c.args.mark c.if-row-mark.true _ _
    (passed c.from_residual.ensures.1) c.in_err-tick.ensures

pub returns-then-row-mark : goal.returns-then-row-mark
returns-then-row-mark c n m v h =
    row-past n m c.args.transfer.now _ _ v h c.args.row.now c.args.limits c.args.mark c.if-row-mark.true _ c.in_ok-tick.ensures

pub receive-requires : goal.receive-requires
receive-requires c =
    let r = c.requires in record {
      fact_1 = carried-accepted r.atoms r.count c.args.transfer.now _ _ r.state r.carried;
      fact_2 = r.stored;
      fact_3 = r.most;
    }

pub returns-in_err-kept : goal.returns-in_err-kept
returns-in_err-kept c n m v h =
    row-unpaid n m c.args.transfer.now _ _ v h c.args.row.now c.args.limits c.args.mark c.requires.stored c.requires.most
    c.if-row-mark.false _ _ _ _ _ _ (passed c.from_residual-in_err-kept.ensures.1) c.in_err-kept.ensures

pub mark_delivered-requires : goal.mark_delivered-requires
mark_delivered-requires c =
    let r = c.requires in
    (row_fits_lem r.atoms r.count c.args.transfer.now _ _ r.state r.carried c.args.row.now c.args.limits c.args.mark r.stored r.most
    c.if-row-mark.false _ _ _ _ _ c.in_ok-kept.ensures _ c.in-Added.is).1

pub returns-in-Added : goal.returns-in-Added
returns-in-Added c n m v h =
    row-added n m c.args.transfer.now _ _ v h c.args.row.now c.args.limits c.args.mark c.requires.stored c.requires.most
    c.if-row-mark.false _ _ _ _ _ c.in_ok-kept.ensures _ c.in-Added.is c.mark_delivered.ensures

pub returns-in_default : goal.returns-in_default
returns-in_default c n m v h =
    row-subsumed n m c.args.transfer.now _ _ v h c.args.row.now c.args.limits c.args.mark c.requires.stored c.requires.most
    c.if-row-mark.false _ _ _ _ _ c.in_ok-kept.ensures _ c.in_default.is
