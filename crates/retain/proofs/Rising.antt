-- The proposal that comes out of the passes is a row over the ledger's atoms, as the one that went in. Assumes nothing.
use mathlib.Core.Path.{◌≡◌, sym, ap, ap₂, ◌∙◌, subst}
use mathlib.Core.Logic.{inl, inr}
use mathlib.Core.Bool.{Bool, true, false, ◌&&◌, ◌||◌, or-true}
use mathlib.Core.List.{List, [], ◌∷◌}
use mathlib.Core.Option.{none, some}
use Prim.Native.Nat.{ℕ, suc, ◌≤◌}
use native.Mathlib.Omega.{arith}
use lib.Dec.{leb}
use lib.ListN.{length}
use borrow.Author.Tests.{lt-ltb}
use Rattle.lists.specs.Lists.{all}
use Rattle.lists.proofs.Bools.{and_both}
use Rattle.model.specs.declared.LearningLimits.{LearningLimits}
use Rattle.model.specs.declared.Header.{Header}
use Rattle.model.specs.Records.{Row, Entry, is_row, limits_of, max_outputs}
use Rattle.model.specs.Retention.{Examined, Pass, found, passed, Placement, placing, first_pass, second_pass, any_replaced, victim, protected}
use Rattle.model.specs.Retention.{evicting, placement_by, placement_after, placement}
use Rattle.model.specs.Refusals.{entry_ok}
use Rattle.model.specs.Priority.{In}
use Rattle.model.proofs.Priority.Covering.{rows_e}
use Rattle.model.proofs.Priority.Fine.{PlacementKeeps, placement-keeps}
use Rattle.model.proofs.Union.{grown-row}
use Rattle.retain_compare.specs.Turns.{both_passes}

-- both passes, as the definition's verdict takes them
pub both-placement_after : (l : LearningLimits) (es : List Entry) (x : Pass) {ks : List Examined} {q : Row} → both_passes x ≡ passed ks q
    → placement_by l es ks q ≡ placement_after l es x
unfolding placement_after
both-placement_after l es (found n) e = absurd (let z : ◌≡◌ {A = ℕ} 0 1 = cc in omega arith)
both-placement_after l es (passed js r) {ks} {q} e =
    let f : ks ≡ second_pass r js = cc in
    let g : q ≡ r = cc in
    ap₂ (λ (x : List Examined) (y : Row). placement_by l es x y) f g

-- a tier with a place more than it has rows takes every proposal
roomy : List Entry → LearningLimits
roomy es = limits_of 0 (suc (length es)) 0

roomy-places : (es : List Entry) (ks : List Examined) (q : Row) → placement_by (roomy es) es ks q ≡ placing ks q
unfolding placement_by roomy limits_of
roomy-places es ks q =
    ap (λ (b : Bool). elim b as (λ k. Placement) [
      | true ↦ placing ks q
      | false ↦ elim (victim (roomy es) es) as (λ k. Placement) [ none ↦ protected | some v ↦ evicting v q ]
    ])
    (ap (λ (b : Bool). any_replaced ks || b) (lt-ltb (length es) (suc (length es)) (omega arith)) ∙ or-true (any_replaced ks))

rows_in_lem : (h : Header) (es : List Entry) → all (entry_ok h) es ≡ true → (r : Row) → In r (rows_e es) → is_row h.limits.atoms r ≡ true
unfolding all entry_ok
rows_in_lem h [] e r m = absurd m
rows_in_lem h (x ∷ xs) e r (inl q) =
    subst (λ (y : Row). is_row h.limits.atoms y ≡ true) (sym q)
    (and_both (is_row h.limits.atoms x.row) (leb 1 x.born && leb x.born h.born)
    (and_both (entry_ok h x) (all (entry_ok h) xs) e).0).0
rows_in_lem h (x ∷ xs) e r (inr m) = rows_in_lem h xs (and_both (entry_ok h x) (all (entry_ok h) xs) e).1 r m

pub both-row : (h : Header) (most : ℕ) (p : Row) (es : List Entry) → most ≤ max_outputs → is_row h.limits.atoms p ≡ true
    → all (entry_ok h) es ≡ true
    → {ks : List Examined} {q : Row} → both_passes (first_pass most p es) ≡ passed ks q → is_row h.limits.atoms q ≡ true
unfolding placement
both-row h most p es l v a {ks} {q} e =
    let n = h.limits.atoms in
    subst (PlacementKeeps (λ r. is_row n r ≡ true)) (sym (both-placement_after (roomy es) es (first_pass most p es) e) ∙ roomy-places es ks q)
    (placement-keeps (λ r. is_row n r ≡ true) most (λ r s j. grown-row n most r s l j) (roomy es) p es v (rows_in_lem h es a))
