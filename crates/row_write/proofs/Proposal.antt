-- The counts of a proposal, and its two lists as the parts of its words that the code lends. Assumes nothing.
use mathlib.Core.Path.{◌≡◌, ap, ap₂, ◌∙◌}
use mathlib.Core.List.{List}
use mathlib.Core.Bool.{true}
use Prim.Native.Nat.{ℕ, ◌+◌, ◌-◌, ◌*◌, ◌≤◌}
use native.Mathlib.Omega.{arith}
use lib.ListN.{length, get_or, take, drop}
use Rattle.lists.specs.Lists.{below}
use Rattle.words.proofs.Codes.{runs-le}
use Rattle.model.specs.Records.{literals, slot_words, max_conditions, max_outputs, conditions_at, outputs_at, body_at}
use Rattle.model.specs.Rows.{groups}
use Rattle.model.specs.Slots.{row_in}
use Rattle.model.proofs.Packing.{groups-runs}
use Rattle.row_propose.specs.Proposed.{ProposedOver}
use Rattle.row_propose.proofs.Proposing.{proposed-long, proposed-conditions, proposed-outputs, conditions-at, outputs-at}

-- the words by their counts
pub record Counts (ws : List ℕ) : Type 0 where
  pub long : length ws ≡ slot_words
  pub few : get_or ws conditions_at 0 ≤ max_conditions
  pub many : get_or ws outputs_at 0 ≤ max_outputs
  pub all : get_or ws conditions_at 0 + get_or ws outputs_at 0 ≡ literals (row_in ws)

-- the groups of a list are no more than its codes
groups-le : (cs : List ℕ) → length (groups cs) ≤ length cs
groups-le cs = omega (arith, groups-runs cs, runs-le 7 cs)

module _ {a : ℕ} {ws : List ℕ} (p : ProposedOver a ws) where
  pub counts : Counts ws
  unfolding literals
  counts =
      let f = p.few in
      let m = p.many in
      record {
        long = proposed-long ws p;
        few = omega (arith, proposed-conditions ws p);
        many = omega (arith, proposed-outputs ws p);
        all = ap₂ (λ (a b : ℕ). a + b) (proposed-conditions ws p) (proposed-outputs ws p);
      }

  abbrev n : ℕ
  n = body_at + get_or ws conditions_at 0

  abbrev m : ℕ
  m = n + get_or ws outputs_at 0

  pub first_part : take (n - body_at) (drop body_at ws) ≡ (row_in ws).conditions
  first_part =
      let e : n - body_at ≡ get_or ws conditions_at 0 = omega arith in ap (λ (k : ℕ). take k (drop body_at ws)) e ∙ conditions-at ws p

  pub second-part : take (m - n) (drop n ws) ≡ (row_in ws).outputs
  second-part =
      let e : m - n ≡ get_or ws outputs_at 0 = omega arith in ap (λ (k : ℕ). take k (drop n ws)) e ∙ outputs-at ws p

  pub both-parts : m - body_at ≡ literals (row_in ws)
  both-parts = omega (arith, counts.all)

  -- their codes are below those of the most atoms
  pub first_under : below (2 * a) (take (n - body_at) (drop body_at ws)) ≡ true
  first_under = ap (below (2 * a)) first_part ∙ p.conditions_under

  pub second-under : below (2 * a) (take (m - n) (drop n ws)) ≡ true
  second-under = ap (below (2 * a)) second-part ∙ p.outputs_under

  pub first-groups : {r : ℕ} → r ≡ length (groups (take (n - body_at) (drop body_at ws)))
      → (r ≡ length (groups (row_in ws).conditions)) × (r ≤ max_conditions)
  first-groups e =
      let k = e ∙ ap (λ (cs : List ℕ). length (groups cs)) first_part in
      let f = p.few in
      (k, omega (arith, k, groups-le (row_in ws).conditions))

  pub second-groups : {r : ℕ} → r ≡ length (groups (take (m - n) (drop n ws)))
      → (r ≡ length (groups (row_in ws).outputs)) × (r ≤ max_outputs)
  second-groups e =
      let k = e ∙ ap (λ (cs : List ℕ). length (groups cs)) second-part in
      let f = p.many in
      (k, omega (arith, k, groups-le (row_in ws).outputs))
