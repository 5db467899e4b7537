-- `store` meets its contract: the slot is that of the row that passed its test. Assumes nothing.
use mathlib.Core.Path.{sym}
use Rattle.leaves.proofs.Fitting.{untold, yes, no, told, fits-proposed, written}
use borrow.Author.Rules.{rules}
use Rattle.leaves.proofs.store.Goals as goal

pub returns-then-not-propose : goal.returns-then-not-propose
returns-then-not-propose c = (sym (no c.propose.ensures.0 c.if-not-propose.true), untold)

pub form_of-requires : goal.form_of-requires
form_of-requires c =
    let p = c.propose.ensures in
    fits-proposed _ _ (yes p.0 c.if-not-propose.false) _ (told _ p.1 c.if-not-propose.false)

pub write_row-requires : goal.write_row-requires
write_row-requires c =
    let p = c.propose.ensures in
    record {
      fact_1 = search rules;
      fact_2 = fits-proposed _ _ (yes p.0 c.if-not-propose.false) _ (told _ p.1 c.if-not-propose.false);
      fact_3 = c.form_of.ensures;
    }

pub returns : goal.returns
returns c =
    let p = c.propose.ensures in
    (sym (yes p.0 c.if-not-propose.false), λ _. written _ (told _ p.1 c.if-not-propose.false) c.write_row.ensures)
