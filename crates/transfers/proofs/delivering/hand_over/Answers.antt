-- `hand_over` meets its contract, by the answer of `receive`. Assumes nothing.
use mathlib.Core.Path.{sym, subst, ◌∙◌}
use Rattle.meter.proofs.Payments.{passed}
use Rattle.slots.specs.Layout.{Stored}
use Rattle.slots.proofs.Rows.{slot-code}
use Rattle.transfers.proofs.Carrying.{carried-accepted}
use Rattle.transfers.proofs.RowDelivered.{hand-unpaid, hand-added, hand-fits, hand-subsumed}
use Rattle.transfers.proofs.delivering.hand_over.Goals.{in-Subsumed, in-Added}
use Rattle.transfers.proofs.delivering.hand_over.Goals as goal

pub receive-requires : goal.receive-requires
receive-requires c =
    let r = c.requires.fact_1 in record {
      fact_1 = carried-accepted r.atoms r.count c.args.transfer.now _ _ r.state r.carried;
      fact_2 = subst (Stored c.args.transfer.now.header.limits.atoms) (sym (slot-code c.args.tier_slots.now c.args.position)) r.stored;
      fact_3 = r.most;
    }

pub returns-in_err-kept : goal.returns-in_err-kept
returns-in_err-kept c n m v h =
    hand-unpaid n m c.args.transfer.now _ _ v h c.args.tier_slots.now c.args.position c.args.limits c.requires.fact_1.stored
    c.requires.fact_1.most _ _ _ _ _ _ (passed c.from_residual.ensures.1) c.in_err-kept.ensures

pub add_hits-requires : goal.add_hits-requires
add_hits-requires c =
    let r = c.requires.fact_1 in
    (hand-fits r.atoms r.count c.args.transfer.now _ _ r.state r.carried c.args.tier_slots.now c.args.position c.args.limits r.stored r.most
    _ _ _ _ _ c.in_ok-kept.ensures _ c.in-Subsumed.is).1

pub returns : goal.returns
returns c n m v h =
    let r = c.requires.fact_1 in
    elim c.match-kept.branch [
      | in-Subsumed w ↦
          hand-subsumed n m c.args.transfer.now _ _ v h c.args.tier_slots.now c.args.position c.args.limits r.stored r.most
          _ _ _ _ _ c.in_ok-kept.ensures _ w.in-Subsumed.is w.transfer-is (w.store_slots-is ∙ w.add_hits.ensures) c.share_out.ensures
      | in-Added w ↦
          hand-added n m c.args.transfer.now _ _ v h c.args.tier_slots.now c.args.position c.args.limits r.stored r.most
          _ _ _ _ _ c.in_ok-kept.ensures _ w.in-Added.is w.transfer-is w.store_slots-is c.share_out.ensures
    ]
