-- `contents::postings_ok`. All zero, or the postings by either walk. Assumes nothing.
use mathlib.Core.Bool.{Bool}
use mathlib.Core.Path.{sym, ap, ◌∙◌}
use lib.ListN.{length}
use Rattle.lists.specs.Lists.{same, pad}
use Rattle.slots.specs.Layout.{rows_in}
use Rattle.contents.specs.Lent.{postings_due}
use Rattle.contents.proofs.Filing.{stale-all, due-filed}
use Rattle.contents.proofs.postings_ok.Goals as goal

pub returns-then-stale : goal.returns-then-stale
returns-then-stale c =
    let a = c.args in
    let ps = a.postings.now in
    let rs = rows_in a.rows a.slots.now in
    c.all_zero.ensures ∙ stale-all ps rs ∙ ap (λ (b : Bool). same ps (pad (length ps) (postings_due b rs))) (sym c.if-stale.true)

pub returns-then-are_found : goal.returns-then-are_found
returns-then-are_found c =
    let a = c.args in
    let ps = a.postings.now in
    let rs = rows_in a.rows a.slots.now in
    due-filed ps rs c.used-end.result c.used-end.ensures.0 c.used-end.ensures.1 (c.are_found.ensures c.if-are_found.true)
    ∙ ap (λ (b : Bool). same ps (pad (length ps) (postings_due b rs))) (sym c.if-stale.false)
