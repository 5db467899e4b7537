-- `reads_of` meets its contract. Assumes nothing.
use borrow.Author.Tests.{eq-eqb, ne_eqb}
use Rattle.row_write.specs.Forms.{reads_for}
use Rattle.row_write.proofs.reads_of.Goals as goal

pub returns-then-form-eq0 : goal.returns-then-form-eq0
unfolding reads_for
returns-then-form-eq0 c = rw (eq-eqb _ _ c.if-form-eq0.true, reads_for)

pub returns : goal.returns
unfolding reads_for
returns c = rw (ne_eqb _ _ c.if-form-eq0.false, reads_for)
