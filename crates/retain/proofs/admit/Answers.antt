-- `admit` meets its contract: no place, a read not paid, or the row placed. Assumes nothing.
use Rattle.words.specs.Region.{has}
use Rattle.model.specs.Slots.{row_in}
use Rattle.meter.proofs.Payments.{passed}
use Rattle.retain_keep.proofs.Holding.{held}
use Rattle.retain.proofs.Publishing.{placing-of}
use Rattle.retain.proofs.Admitting.{admit-protected, admit-unpaid, admit-paid}
use Rattle.retain.proofs.admit.Goals as goal

pub find_room-room-requires : goal.find_room-room-requires
find_room-room-requires c = record {
  fact_1 = held _ _ _ c.requires.fact_1;
  fact_2 = c.requires.fact_1.founded;
}

pub add-after-requires : goal.add-after-requires
add-after-requires c = record {
  fact_1 = c.requires.fact_1;
  fact_2 = placing-of _ _ _ _ (has c.args.replaced.now) _ c.requires.fact_1 c.requires.fact_2 c.requires.fact_3 c.in-Some.ensures;
  fact_3 = c.in_ok-form.ensures.form;
}

pub returns-in_default : goal.returns-in_default
returns-in_default c =
    admit-protected _ _ _ c.requires.fact_1 (has c.args.replaced.now) (row_in c.args.p.now) _ _ _ c.in_default.ensures

pub returns-in_err-form : goal.returns-in_err-form
returns-in_err-form c =
    admit-unpaid _ _ _ c.requires.fact_1 (has c.args.replaced.now) (row_in c.args.p.now) _ _ _ _ c.in-Some.ensures
    (passed c.from_residual.ensures.1) c.in_err-form.ensures.reads

pub returns : goal.returns
returns c =
    admit-paid _ _ _ c.requires.fact_1 (has c.args.replaced.now) (row_in c.args.p.now) _ _ _ _ c.in-Some.ensures
    c.in_ok-form.ensures.reads c.add-after.ensures c.position-at.ensures
