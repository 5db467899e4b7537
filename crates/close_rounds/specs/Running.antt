-- 01, refusals 3 and 6: what the rounds know of the words that they change, and keep. Assumes nothing.
use Rattle.std.specs.Prelude.{List, ℕ, T}
use Rattle.words.specs.Region.{region, is_region}
use Rattle.model.specs.declared.Header.{Header}
use Rattle.slots.specs.Standing.{Stands}

-- the words of the ledger stand, and held and cut are a region over its atoms
pub record Running (h : Header) (slots postings held cut : List ℕ) : Type 0 where
  pub stands : Stands h slots postings
  pub region : T (is_region h.limits.atoms (region held cut))
