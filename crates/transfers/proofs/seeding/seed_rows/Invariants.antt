-- `seed_rows` meets its contract: what is left of the rows, from here, is what was left at the start. Assumes nothing.
use Rattle.model.specs.Slots.{entries_in}
use Rattle.transfers.specs.Transfer.{start_of}
use Rattle.transfers.proofs.RowsSeeded.{Seeding}
use Rattle.transfers.proofs.seeding.seed_rows.Given as goal

abbrev pub invariant-loop-i : goal.invariant-loop-i
invariant-loop-i l =
    Seeding l.limits l.mark (entries_in l.rows l.given) (start_of l.initial.transfer l.initial.slots l.initial.postings)
    l.limits.atoms l.i l.transfer l.slots l.postings
