-- `row_deduce::negation`: one less for a presence, one more for an absence. Assumes nothing.
use Prim.Native.Nat.{◌%◌}
use borrow.Author.Tests.{eq-eqb, ne_eqb}
use Rattle.words.specs.Literal.{is_present, opposite}
use Rattle.row_deduce.proofs.negation.Goals as goal

pub returns-then-code-eq1 : goal.returns-then-code-eq1
unfolding opposite is_present
returns-then-code-eq1 c = rw (eq-eqb (c.args.code % 2) 1 c.if-code-eq1.true, opposite, is_present)

pub returns-else-code-eq1 : goal.returns-else-code-eq1
unfolding opposite is_present
returns-else-code-eq1 c = rw (ne_eqb (c.args.code % 2) 1 c.if-code-eq1.false, opposite, is_present)
