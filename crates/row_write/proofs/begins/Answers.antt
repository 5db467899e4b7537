-- `begins` meets its contract. Assumes nothing.
use borrow.Author.Tests.{lt-ltb, le-ltb, eq-eqb, ne_eqb}
use Rattle.row_write.specs.Packs.{begun}
use Rattle.row_write.proofs.begins.Goals as goal

pub returns-then-index-out : goal.returns-then-index-out
unfolding begun
returns-then-index-out c = rw (lt-ltb _ _ c.if-at-out.true, eq-eqb _ _ c.if-index-out.true, begun)

pub returns-else-index-out : goal.returns-else-index-out
unfolding begun
returns-else-index-out c = rw (lt-ltb _ _ c.if-at-out.true, ne_eqb _ _ c.if-index-out.false, begun)

pub returns-else-at-out : goal.returns-else-at-out
unfolding begun
returns-else-at-out c = rw (le-ltb _ _ c.if-at-out.false, begun)
