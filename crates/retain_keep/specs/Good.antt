-- 01, refusals 1 and 3, of a ledger apart from its layout. Assumes nothing.
use Rattle.std.specs.Prelude.{◌≡◌, true, ◌≤◌, ◌<◌, length}
use Rattle.lists.specs.Lists.{all}
use Rattle.words.specs.Bit.{max_word}
use Rattle.model.specs.Records.{Ledger, limits_ok, with_counts, founded_rows}
use Rattle.model.specs.Refusals.{entry_ok}

-- its words, laid out and filed, are accepted
pub record Good (l : Ledger) : Type 0 where
  pub limits : limits_ok l.header.limits ≡ true
  pub few : length l.entries ≤ l.header.limits.tier_rows
  pub epoch : l.header.epoch < l.header.limits.tier_rows
  pub attempts : l.header.attempts ≤ l.header.limits.founded_attempts
  pub born : l.header.born ≤ max_word
  pub entries : all (entry_ok l.header) l.entries ≡ true

-- the same ledger, its header's counts made right
abbrev pub recounted : Ledger → Ledger
recounted l = record
    { header = with_counts l.header (length l.entries) (founded_rows l.entries); entries = l.entries }
