-- `mask_at` meets its contract. Assumes nothing.
use borrow.Author.Tests.{eq-eqb, ne_eqb}
use Rattle.words.specs.Literal.{is_present}
use Rattle.row_write.specs.Packs.{mask_at}
use Rattle.row_write.proofs.mask_at.Goals as goal

pub returns-then-code-eq1 : goal.returns-then-code-eq1
unfolding mask_at is_present
returns-then-code-eq1 c = rw (eq-eqb _ _ c.if-code-eq1.true, mask_at, is_present)

pub returns : goal.returns
unfolding mask_at is_present
returns c = rw (ne_eqb _ _ c.if-code-eq1.false, mask_at, is_present)
