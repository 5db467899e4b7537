-- 01, refusals 3 and 6: what a closing knows of the words that it changes, and keeps. Assumes nothing.
use Rattle.std.specs.Prelude.{◌≡◌, List, ℕ, T}
use Rattle.words.specs.Region.{region, is_region}
use Rattle.model.specs.Records.{Row}
use Rattle.slots.specs.Layout.{rows_in, Held}

-- the slots hold the rows rs, over n atoms, and nothing else; held and cut are a region over n atoms
pub record Standing (n rows : ℕ) (rs : List Row) (slots held cut : List ℕ) : Type 0 where
  pub holds : Held n rows slots
  pub same : rows_in rows slots ≡ rs
  pub region : T (is_region n (region held cut))
