-- `operations::begin`. One law for each way out. Assumes nothing.
use mathlib.Core.Path.{sym}
use mathlib.Core.Bool.{true}
use mathlib.Core.List.{[]}
use Rattle.model.specs.Records.{with_full}
use Rattle.contents.specs.Lent.{lent}
use Rattle.contents.proofs.Accepting.{accept-refused}
use Rattle.operations.proofs.Taking.{begin-refused, begin-done}
use Rattle.operations.proofs.begin.Goals as goal

pub returns-in-Ok : goal.returns-in-Ok
unfolding with_full
returns-in-Ok c =
    let a = c.args in
    rw c.in-Ok.is (begin-done a.header a.slots.now a.postings.now (sym c.in-Ok.ensures))

pub returns-in-Err : goal.returns-in-Err
returns-in-Err c =
    let a = c.args in
    let s = lent a.header a.slots.now a.postings.now in
    rw c.in-Err.is (begin-refused a.header a.slots.now a.postings.now _ (accept-refused s true [] _ c.in-Err.ensures))
