-- `propose` meets its contract: a row that passed its test is laid out as a proposal. Assumes nothing.
use mathlib.Core.Path.{sym}
use Rattle.leaves.proofs.Fitting.{untold, yes, no, fits-few, fits-many}
use borrow.Author.Rules.{rules}
use Rattle.leaves.proofs.propose.Goals as goal

pub returns-then-not-is_row : goal.returns-then-not-is_row
returns-then-not-is_row c = (sym (no c.is_row.ensures c.if-not-is_row.true), untold)

pub propose-requires : goal.propose-requires
propose-requires c =
    let f = yes c.is_row.ensures c.if-not-is_row.false in
    record { fact_1 = search rules; fact_2 = fits-few _ _ f; fact_3 = fits-many _ _ f }

pub returns : goal.returns
returns c =
    (sym (yes c.is_row.ensures c.if-not-is_row.false), λ _. c.propose.ensures)
