-- `deliver_rows` meets its contract: what is left of the rows, from here, is what was left at the start. Assumes nothing.
use Rattle.model.specs.Slots.{entries_in}
use Rattle.transfers.specs.Transfer.{start_of}
use Rattle.transfers.proofs.RowsDelivered.{Delivering}
use Rattle.transfers.proofs.delivering.deliver_rows.Given as goal

abbrev pub invariant-loop-i : goal.invariant-loop-i
invariant-loop-i l =
    Delivering l.limits (entries_in l.fn.tier.rows l.initial.tier_slots)
    (start_of l.initial.transfer l.initial.store_slots l.initial.store_postings) l.limits.atoms l.i l.transfer l.store_slots
    l.store_postings l.initial.tier_slots l.tier_slots
