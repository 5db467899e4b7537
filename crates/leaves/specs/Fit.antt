-- 01, Row: what a test of a row has let through. Assumes nothing.
use Rattle.std.specs.Prelude.{◌≡◌, List, ℕ}
use Rattle.model.specs.Records.{Row}
use Rattle.model.specs.Slots.{row_in}
use Rattle.slots.specs.Layout.{Laid}

-- words that are laid out as this row, in either form
pub record LaidAs (r : Row) (ws : List ℕ) : Type 0 where
  pub laid : Laid ws
  pub row : row_in ws ≡ r
