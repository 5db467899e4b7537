-- `deliver_row` meets its contract: a tick that is not made, a row passed over, a row handed over. Assumes nothing.
use mathlib.Core.Path.{sym, ◌∙◌, subst}
use Prim.Native.Nat.{ℕ}
use Rattle.meter.proofs.Payments.{passed}
use Rattle.slots.specs.Layout.{Stored, slot_at}
use Rattle.slots.proofs.Storing.{laid-stored}
use Rattle.slots.proofs.Rows.{slot-code}
use Rattle.transfers.proofs.RowDelivered.{row-halted, row-passed, row-handed, ready-ticked}
use Rattle.transfers.proofs.delivering.deliver_row.Goals as goal

pub returns-in_err-tick : goal.returns-in_err-tick
returns-in_err-tick c n m v h =
    row-halted c.args.transfer.now _ n m _ _ v h c.args.limits c.args.tier_slots.now c.args.position _
    (passed c.from_residual.ensures.1) c.in_err-tick.ensures

pub passes_over-requires : goal.passes_over-requires
passes_over-requires c =
    let n : ℕ = c.args.transfer.now.header.limits.atoms in
    laid-stored n _ (subst (Stored n) (sym (slot-code c.args.tier_slots.now c.args.position)) c.requires.fact_1.stored)

pub returns-then-passes_over : goal.returns-then-passes_over
returns-then-passes_over c n m v h =
    row-passed c.args.transfer.now _ n m _ _ v h c.args.limits c.args.tier_slots.now c.args.position c.in_ok-tick.ensures
    (sym c.passes_over.ensures ∙ c.if-passes_over.true)

pub hand_over-requires : goal.hand_over-requires
hand_over-requires c = record {
  fact_1 = ready-ticked c.args.transfer.now _ _ _ (slot_at c.args.tier_slots.now c.args.position) c.args.limits.founded_outputs
      c.requires.fact_1;
  fact_2 = c.requires.fact_2;
}

pub returns : goal.returns
returns c n m v h =
    row-handed c.args.transfer.now _ n m _ _ v h c.args.limits c.args.tier_slots.now c.args.position c.in_ok-tick.ensures
    (sym c.passes_over.ensures ∙ c.if-passes_over.false) c.hand_over.ensures
