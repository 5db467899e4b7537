-- `pay_place` meets its contract: the reads of `prepare`, then those of the place. Assumes nothing.
use native.Mathlib.Omega.{arith}
use mathlib.Core.Path.{◌≡◌, ap, sym, ◌∙◌}
use Prim.Native.Nat.{ℕ, ◌+◌, ◌≤◌}
use Rattle.meter.specs.Meter.{pay}
use Rattle.meter.specs.Results.{read_end}
use Rattle.meter.proofs.Payments.{passed, read-more, paid-more}
use Rattle.model.specs.Rows.{prepare_reads}
use Rattle.model.specs.Slots.{row_in}
use Rattle.retain.specs.Places.{room_reads}
use Rattle.retain.proofs.pay_place.Goals.{After-pay_all}
use Rattle.retain.proofs.pay_place.Goals as goal

-- the reads of the place, after those of `prepare`
module _ (c : After-pay_all) where
  rest : pay c.room_reads.result c.prepare-prepared.new.purse.account c.prepare-prepared.new.purse.meter
      ≡ pay (prepare_reads (row_in c.args.p.now) + room_reads c.args.room c.args.rows) c.args.purse.now.account c.args.purse.now.meter
  rest =
      ap (λ (n : ℕ). pay n c.prepare-prepared.new.purse.account c.prepare-prepared.new.purse.meter) c.room_reads.ensures
      ∙ paid-more (prepare_reads (row_in c.args.p.now)) (room_reads c.args.room c.args.rows) _ _
      (sym (ap (λ r. read_end r c.prepare-prepared.new.purse) c.in_ok-prepared.was) ∙ c.prepare-prepared.ensures.reads)

pub returns-in_err-prepared-clause-reads : goal.returns-in_err-prepared-clause-reads
returns-in_err-prepared-clause-reads c =
    let e = passed c.from_residual.ensures.1 in
    let n : ℕ = prepare_reads (row_in c.args.p.now) in
    let more : n ≤ n + room_reads c.args.room c.args.rows = omega arith in
    read-more n _ _ _ _ e more
    (sym (ap (λ r. read_end r c.prepare-prepared.new.purse) c.in_err-prepared.was) ∙ c.prepare-prepared.ensures.reads)

pub returns-in_err-pay_all : goal.returns-in_err-pay_all
returns-in_err-pay_all c =
    let e = passed c.from_residual-in_err-pay_all.ensures.1 in
    record { reads = rw e (c.in_err-pay_all.ensures ∙ rest (goal.at.returns-in_err-pay_all c).After-pay_all); form = rw e tt }

pub returns : goal.returns
returns c = record { reads = c.in_ok-pay_all.ensures ∙ rest (goal.at.returns c).After-pay_all; form = c.prepare-prepared.ensures.form }
