-- 01, module 5: "position by position with the growing proposal". The words of a row on its way to a slot. Assumes nothing.
use Rattle.std.specs.Prelude.{◌≡◌, true, List, ℕ, ◌*◌, ◌≤◌, length}
use Rattle.lists.specs.Lists.{below}
use Rattle.words.specs.Region.{max_atoms}
use Rattle.model.specs.Records.{max_conditions, max_outputs}
use Rattle.model.specs.Slots.{row_in}
use Rattle.slots.specs.Layout.{proposal}

-- the words of a slot that are a proposal of a row over n atoms, within the limits of a slot
pub record ProposedOver (n : ℕ) (ws : List ℕ) : Type 0 where
  pub form : proposal (row_in ws) ≡ ws
  pub few : length (row_in ws).conditions ≤ max_conditions
  pub many : length (row_in ws).outputs ≤ max_outputs
  pub conditions_under : below (2 * n) (row_in ws).conditions ≡ true
  pub outputs_under : below (2 * n) (row_in ws).outputs ≡ true

-- over as many atoms as there can be
abbrev pub Proposed : List ℕ → Type 0
Proposed ws = ProposedOver max_atoms ws
