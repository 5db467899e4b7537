-- The two sides of a slot by the slot's form. Assumes nothing.
use mathlib.Core.Path.{◌≡◌}
use mathlib.Core.Bool.{Bool, true, false}
use mathlib.Core.List.{List}
use Prim.Native.Nat.{ℕ, ◌+◌, ◌-◌, ◌*◌}
use lib.Dec.{eqb}
use lib.ListN.{get_or}
use borrow.Author.Tests.{eq-eqb, ne_eqb}
use Rattle.model.specs.Records.{conditions_at, outputs_at, total_groups_at, condition_groups_at, body_at, group_length}
use Rattle.slots.specs.declared.Side.{Side}
use Rattle.slots.specs.Layout.{condition_side, output_side}

abbrev pub scalar : ℕ → ℕ → Side
scalar b n = record { packed = false; base = b; count = n }

abbrev pub grouped : ℕ → ℕ → Side
grouped b n = record { packed = true; base = b; count = n }

module _ (ws : List ℕ) where
  -- by the number of groups, 0 in a scalar slot
  condition-by : (b : Bool) → eqb (get_or ws total_groups_at 0) 0 ≡ b
      → condition_side ws
      ≡ (elim b as (λ k. Side) [
        | true ↦ scalar body_at (get_or ws conditions_at 0)
        | false ↦ grouped body_at (get_or ws condition_groups_at 0)
      ])
  unfolding condition_side
  condition-by b e = rw (e, condition_side)

  output-by : (b : Bool) → eqb (get_or ws total_groups_at 0) 0 ≡ b
      → output_side ws
      ≡ (elim b as (λ k. Side) [
        | true ↦ scalar (body_at + get_or ws conditions_at 0) (get_or ws outputs_at 0)
        | false ↦ grouped (body_at + group_length * get_or ws condition_groups_at 0)
            (get_or ws total_groups_at 0 - get_or ws condition_groups_at 0)
      ])
  unfolding output_side
  output-by b e = rw (e, output_side)

  pub condition-scalar : get_or ws total_groups_at 0 ≡ 0 → condition_side ws ≡ scalar body_at (get_or ws conditions_at 0)
  condition-scalar e = condition-by true (eq-eqb (get_or ws total_groups_at 0) 0 e)

  pub condition-packed : (get_or ws total_groups_at 0 ≡ 0 → ⊥) → condition_side ws ≡ grouped body_at (get_or ws condition_groups_at 0)
  condition-packed f = condition-by false (ne_eqb (get_or ws total_groups_at 0) 0 f)

  pub output-scalar : get_or ws total_groups_at 0 ≡ 0
      → output_side ws ≡ scalar (body_at + get_or ws conditions_at 0) (get_or ws outputs_at 0)
  output-scalar e = output-by true (eq-eqb (get_or ws total_groups_at 0) 0 e)

  pub output-packed : (get_or ws total_groups_at 0 ≡ 0 → ⊥)
      → output_side ws
      ≡ grouped (body_at + group_length * get_or ws condition_groups_at 0) (get_or ws total_groups_at 0 - get_or ws condition_groups_at 0)
  output-packed f = output-by false (ne_eqb (get_or ws total_groups_at 0) 0 f)
