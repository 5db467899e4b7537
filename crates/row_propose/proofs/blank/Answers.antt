-- `blank` meets its contract. Assumes nothing.
use mathlib.Core.Path.{ap, ◌∙◌}
use mathlib.Core.List.{List}
use Prim.Native.Nat.{ℕ}
use lib.ListN.{set, replicate}
use Rattle.lists.specs.Lists.{zeroed}
use Rattle.row_propose.proofs.blank.Goals as goal

pub returns : goal.returns
unfolding zeroed
returns c =
    ap (λ (l : List ℕ). set (set l 0 c.args.conditions) 1 c.args.outputs)
    (c.fill_zero.ensures ∙ ap (λ (n : ℕ). replicate n 0) c.requires)
