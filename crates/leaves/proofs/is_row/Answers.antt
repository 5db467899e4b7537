-- `is_row` meets its contract: its two tests are those of a row. Assumes nothing.
use Rattle.leaves.proofs.Fitting.{fits_not, fits-then}
use borrow.Author.Rules.{rules}
use Rattle.leaves.proofs.is_row.Goals as goal

pub returns-then-atoms-gt-MAX_ATOMS : goal.returns-then-atoms-gt-MAX_ATOMS
returns-then-atoms-gt-MAX_ATOMS c = fits_not _ _ _ (search rules)

pub returns : goal.returns
returns c = fits-then _ _ _ (search rules) c.is_row.ensures
