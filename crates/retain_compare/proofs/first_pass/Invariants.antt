-- `first_pass` meets its contract: the positions passed and the pass from position i on are the whole pass, in rows and in reads.
-- Assumes nothing.
use Rattle.model.specs.Slots.{row_in, entries_in}
use Rattle.retain_compare.proofs.Advance.{Advance}
use Rattle.retain_compare.proofs.first_pass.Given as goal

abbrev pub invariant-loop-i : goal.invariant-loop-i
invariant-loop-i l =
    Advance l.most (row_in l.fn.p) (entries_in l.rows l.slots) l.fn.replaced l.fn.purse.account l.fn.purse.meter l.p l.replaced
    l.purse.account l.purse.meter l.i
