-- 01, refusal 3: what is known of the words of an accepted ledger. Assumes nothing.
use Rattle.std.specs.Prelude.{◌≡◌, List, ℕ, ◌*◌, length}
use Rattle.model.specs.declared.Header.{Header}
use Rattle.model.specs.Records.{slot_words}
use Rattle.model.specs.Postings.{filed}
use Rattle.slots.specs.Layout.{Held, rows_in}

-- the slots hold the rows that the header counts, and the postings are filed as it says
pub record Stands (h : Header) (slots postings : List ℕ) : Type 0 where
  pub held : Held h.limits.atoms h.rows slots
  pub long : length slots ≡ slot_words * h.limits.tier_rows
  pub filing : postings ≡ filed h.limits.tier_rows h.stale (rows_in h.rows slots)
