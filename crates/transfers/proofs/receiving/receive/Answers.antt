-- `receive` meets its contract: one read, one a literal, then `retain`. Assumes nothing.
use native.Mathlib.Omega.{arith}
use mathlib.Core.Path.{◌≡◌, refl, ◌∙◌}
use Prim.Native.Nat.{ℕ, suc, ◌<◌}
use lib.ListN.{length}
use Rattle.meter.specs.Meter.{pay}
use Rattle.meter.proofs.Payments.{passed, unpaid-one, paid-one}
use Rattle.model.specs.Records.{literals, slot_words}
use Rattle.model.specs.Slots.{row_in}
use Rattle.slots.proofs.Storing.{laid-stored}
use Rattle.contents.specs.Lent.{lent}
use Rattle.transfers.specs.Receiving.{source_of}
use Rattle.transfers.proofs.Reading.{end-unpaid, literals-proposed, literals-row, most-fits, literals-kept}
use Rattle.transfers.proofs.receiving.receive.Goals.{Start, In_ok-pay}
use Rattle.transfers.proofs.receiving.receive.Goals as goal

module _ (t : Start) where
  long : length t.args.row.now ≡ slot_words
  long = (laid-stored t.args.header.now.limits.atoms t.args.row.now t.requires.fact_2).long

-- the reads of the literals, after the first
module _ (c : In_ok-pay) where
  rest : pay (literals (row_in c.args.row.now)) c.pay.new.self.account c.pay.new.self.meter
      ≡ pay (suc (literals (row_in c.args.row.now))) c.args.purse.now.account c.args.purse.now.meter
  rest = paid-one (literals (row_in c.args.row.now)) _ _ c.in_ok-pay.ensures

pub returns-in_err-pay : goal.returns-in_err-pay
returns-in_err-pay c =
    let some : 0 < suc (literals (row_in c.args.row.now)) = omega arith in
    end-unpaid c.args.header.now _ _ c.requires.fact_1 (source_of c.args.row.now) (row_in c.args.row.now) _ _ _ _
    (passed c.from_residual.ensures.1) (unpaid-one _ _ _ _ _ some c.in_err-pay.ensures)

pub to_literals-requires : goal.to_literals-requires
to_literals-requires c = record { fact_1 = laid-stored c.args.header.now.limits.atoms c.args.row.now c.requires.fact_2; fact_2 = refl }

pub returns-in_err-to_literals : goal.returns-in_err-to_literals
returns-in_err-to_literals c =
    end-unpaid c.args.header.now _ _ c.requires.fact_1 (source_of c.args.row.now) (row_in c.args.row.now) _ _ _ _
    (passed c.from_residual-in_err-to_literals.ensures.1)
    (c.in_err-to_literals.ensures.paid ∙ rest (goal.at.returns-in_err-to_literals c).In_ok-pay)

pub bounds-row-1 : goal.bounds-row-1
bounds-row-1 c = omega (arith, long (goal.at.bounds-row-1 c).Start)

pub bounds-row-168 : goal.bounds-row-168
bounds-row-168 c = omega (arith, long (goal.at.bounds-row-168 c).Start)

pub retain-requires : goal.retain-requires
retain-requires c =
    let n : ℕ = c.args.header.now.limits.atoms in
    let row = c.args.row.now in
    let p = c.to_literals.new.p in
    let s = c.requires.fact_2 in
    let laid = c.in_ok-to_literals.ensures.written in record {
      fact_1 = c.requires.fact_1;
      fact_2 = literals-proposed n row s p laid c.requires.fact_1.atoms;
      fact_3 = literals-row n row s p laid;
      fact_4 = most-fits n row s p laid c.args.outputs c.max-most.result c.max-most.ensures c.requires.fact_3;
    }

pub returns : goal.returns
returns c =
    let row = c.args.row.now in
    c.retain.ensures
    ∙ literals-kept c.args.header.now.limits.atoms row c.requires.fact_2 c.to_literals.new.p c.in_ok-to_literals.ensures.written
    c.args.outputs c.max-most.result c.max-most.ensures (lent c.args.header.now c.args.slots.now c.args.postings.now) c.args.hits
    (c.in_ok-to_literals.ensures.paid ∙ rest (goal.at.returns c).In_ok-pay) c.source_of-source.ensures
