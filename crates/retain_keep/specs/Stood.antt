-- A header and lent words that are those of a ledger. Assumes nothing.
use Rattle.std.specs.Prelude.{◌≡◌, List, ℕ}
use Rattle.model.specs.declared.Header.{Header}
use Rattle.model.specs.Records.{Ledger}
use Rattle.model.specs.Refusals.{lent_of}
use Rattle.contents.specs.Lent.{lent}
use Rattle.retain_keep.specs.Good.{Good}

pub record Stood (h : Header) (slots postings : List ℕ) (l : Ledger) : Type 0 where
  pub good : Good l
  pub same : lent h slots postings ≡ lent_of l
