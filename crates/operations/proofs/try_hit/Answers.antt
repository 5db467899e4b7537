-- `operations::try_hit`. One law for each way out. Assumes nothing.
use mathlib.Core.Path.{sym, ap, ◌∙◌}
use mathlib.Core.Bool.{true}
use mathlib.Core.List.{List, [], ◌∷◌}
use Prim.Native.Nat.{ℕ}
use Rattle.std.specs.Prelude.{Ok}
use Rattle.model.specs.Operations.{position_ok}
use Rattle.model.specs.declared.Refusal.TheVariants.{Position}
use Rattle.std.proofs.lemmas.Result.{err_from_is_err_and}
use Rattle.contents.specs.Lent.{lent}
use Rattle.contents.proofs.Accepting.{accepted, accept-refused, accept-passed}
use Rattle.operations.specs.Ends.{hit_end, under}
use Rattle.operations.proofs.Tests.{all-passed, position-no, position-yes}
use Rattle.operations.proofs.Deducing.{slot-fits}
use Rattle.operations.proofs.Hitting.{hit-refused, hit-done}
use Rattle.operations.proofs.try_hit.Goals as goal

pub returns-in_err-accept : goal.returns-in_err-accept
returns-in_err-accept c =
    let a = c.args in
    let s = lent a.header a.slots.now a.postings.now in
    let p = err_from_is_err_and c.from_residual.result c.from_residual.ensures.1 in
    rw (p.1, p.2)
    (hit-refused a.header a.slots.now a.postings.now a.position _
    (accept-refused s true ((position_ok s a.position, 5) ∷ []) _ c.in_err-accept.ensures))

pub returns-then-header-position : goal.returns-then-header-position
returns-then-header-position c =
    let a = c.args in
    let s = lent a.header a.slots.now a.postings.now in
    hit-refused a.header a.slots.now a.postings.now a.position Position
    (accept-passed s true ((position_ok s a.position, 5) ∷ []) c.in_ok-accept.ensures
    ∙ position-no a.header a.slots.now a.postings.now a.position [] c.if-header-position.true)

pub hit-requires : goal.hit-requires
hit-requires c =
    let a = c.args in
    let k = accepted a.header a.slots.now a.postings.now true [] (sym c.in_ok-accept.ensures) in
    (slot-fits a.header a.slots.now a.postings.now a.position k c.if-header-position.false).1

pub returns : goal.returns
returns c =
    let a = c.args in
    let s = lent a.header a.slots.now a.postings.now in
    ap (λ (w : List ℕ). hit_end (under a.header (Ok tt)) w a.postings.now) c.hit.ensures
    ∙ hit-done a.header a.slots.now a.postings.now a.position
    (accept-passed s true ((position_ok s a.position, 5) ∷ []) c.in_ok-accept.ensures
    ∙ position-yes a.header a.slots.now a.postings.now a.position [] c.if-header-position.false
    ∙ all-passed) c.if-header-position.false
