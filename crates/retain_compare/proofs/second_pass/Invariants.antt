-- `second_pass` meets its contract: the rows up to position i are compared, and what is left costs what was left at the start.
-- Assumes nothing.
use Rattle.model.specs.Slots.{row_in, entries_in}
use Rattle.retain_compare.proofs.Sweep.{Sweep}
use Rattle.retain_compare.proofs.second_pass.Given as goal

abbrev pub invariant-loop-i : goal.invariant-loop-i
invariant-loop-i l =
    Sweep (row_in l.p) (entries_in l.rows l.slots) l.fn.replaced l.fn.purse.account l.fn.purse.meter l.replaced l.purse.account
    l.purse.meter l.i
