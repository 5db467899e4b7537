-- `lay` meets its contract: a slot and a proposal are both laid out. Assumes nothing.
use mathlib.Core.Path.{sym, ◌∙◌}
use Rattle.leaves.proofs.Fitting.{fits-slot, fits-laid}
use Rattle.leaves.proofs.lay.Goals as goal

pub returns-then-stored : goal.returns-then-stored
returns-then-stored c =
    let e = c.store.ensures in
    (e.0, λ t. fits-slot _ _ (sym e.0 ∙ t) _ (e.1 t))

pub returns : goal.returns
returns c =
    let e = c.propose.ensures in
    (e.0, λ t. fits-laid _ _ (sym e.0 ∙ t) _ (e.1 t))
