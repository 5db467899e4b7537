-- The growing proposal stays a proposal, and a row over the same atoms. Assumes nothing.
use mathlib.Core.Path.{◌≡◌, refl, sym, subst}
use mathlib.Core.Bool.{Bool, true, false}
use mathlib.Core.List.{List}
use Prim.Native.Nat.{ℕ, ◌*◌, ◌≤◌}
use native.Mathlib.Nat.{le_trans}
use lib.ListN.{length}
use Rattle.lists.specs.Lists.{below}
use Rattle.model.specs.Records.{Row, max_conditions, max_outputs}
use Rattle.model.specs.Slots.{row_in}
use Rattle.model.specs.Union.{joins, grown}
use Rattle.model.proofs.Union.{grown-conditions, joins-few, grown-below}
use Rattle.slots.specs.Layout.{proposal}
use Rattle.row_propose.specs.Proposed.{ProposedOver}
use Rattle.row_propose.proofs.Proposing.{proposed-row}
use Rattle.retain_compare.specs.Passes.{proposal_after}

pub proposed-after : {n : ℕ} (most : ℕ) (r : Row) (ws : List ℕ) → most ≤ max_outputs → below (2 * n) r.outputs ≡ true
    → ProposedOver n ws → ProposedOver n (proposal (proposal_after most r (row_in ws)))
unfolding proposal_after
proposed-after {n} most r ws l u p = go (joins most r (row_in ws)) refl
  where
    go : (b : Bool) → joins most r (row_in ws) ≡ b
        → ProposedOver n (proposal (elim b as (λ k. Row) [ true ↦ grown r (row_in ws) | false ↦ row_in ws ]))
    go true e =
        let s = grown-conditions r (row_in ws) in
        proposed-row (grown r (row_in ws)) (subst (λ (c : List ℕ). length c ≤ max_conditions) (sym s) p.few)
        (le_trans (joins-few most r (row_in ws) e) l) (subst (λ (c : List ℕ). below (2 * n) c ≡ true) (sym s) p.conditions_under)
        (grown-below (2 * n) r (row_in ws) u p.outputs_under)
    go false e = proposed-row (row_in ws) p.few p.many p.conditions_under p.outputs_under
