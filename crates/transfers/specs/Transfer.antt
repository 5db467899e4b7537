-- 01, module 6, Transfers: a transfer under way in the code, and the definition's. Assumes nothing.
use Rattle.std.specs.Prelude.{◌≡◌, List, ℕ, ◌≤◌, ◌<◌, Result, Ok, Err}
use Rattle.meter.specs.declared.Meter.{Meter}
use Rattle.meter.specs.declared.Sharing.{Sharing}
use Rattle.meter.specs.declared.Account.TheVariants.{Share}
use Rattle.meter.specs.declared.Unpaid.{Unpaid}
use Rattle.meter.specs.declared.Unpaid.TheVariants.{Declined, Stopped}
use Rattle.model.specs.declared.Header.{Header}
use Rattle.model.specs.Records.{max_rows, max_outputs}
use Rattle.model.specs.Refusals.{ledger_in}
use Rattle.model.specs.Transfers.{Progress, whole, declined, stopped, Transfer, starting}
use Rattle.slots.specs.Layout.{Stored}
use Rattle.contents.specs.Lent.{lent}
use Rattle.retain_keep.specs.Stood.{Stood}
use Rattle.transfers.specs.declared.receiving.TransferState.{TransferState}

-- how far a transfer came, by the result of its rows
abbrev pub progress_of : {A : Type 0} → Result A Unpaid → Progress
progress_of (Ok a) = whole
progress_of (Err Declined) = declined
progress_of (Err Stopped) = stopped

-- at the start: the receiver's header, and the tier's sharing account
abbrev pub start_by : Header → Sharing → Meter → TransferState
start_by h s m = record { header = h; purse = record { account = Share s; meter = m }; added = 0 }

-- the definition's at the start of the code's
abbrev pub start_of : TransferState → List ℕ → List ℕ → Transfer
start_of p slots postings = starting (ledger_in (lent p.header slots postings)) p.purse.account p.purse.meter

-- the code's transfer, which came so far, is the definition's, over n atoms and with at most c rows Added; the receiver's words are those
-- of its ledger
pub record Carried (n c : ℕ) (x : Progress) (p : TransferState) (slots postings : List ℕ) (v : Transfer) : Type 0 where
  pub stood : Stood p.header slots postings v.receiver
  pub account : p.purse.account ≡ v.account
  pub meter : p.purse.meter ≡ v.meter
  pub added : p.added ≡ v.added
  pub progress : x ≡ v.progress
  pub over : v.receiver.header.limits.atoms ≡ n
  pub few : v.added ≤ c

-- it can receive one row more, with at most so many outputs
pub record Ready (p : TransferState) (slots postings row : List ℕ) (outputs : ℕ) : Type 0 where
  pub atoms : ℕ
  pub count : ℕ
  pub state : Transfer
  pub carried : Carried atoms count whole p slots postings state
  pub room : count < max_rows
  pub stored : Stored p.header.limits.atoms row
  pub most : outputs ≤ max_outputs
