-- 01, module 5, Retention: how it ends, from what the code gives back and leaves in the lent slices. Assumes nothing.
use Rattle.std.specs.Prelude.{Bool, List, ℕ, Result, Ok, Err}
use Rattle.meter.specs.declared.Meter.{Meter}
use Rattle.meter.specs.declared.Account.{Account}
use Rattle.meter.specs.declared.Purse.{Purse}
use Rattle.meter.specs.declared.Unpaid.{Unpaid}
use Rattle.meter.specs.declared.Unpaid.TheVariants.{Declined, Stopped}
use Rattle.meter.specs.Read.{Read}
use Rattle.meter.specs.Read as read
use Rattle.meter.specs.Meter.{pay}
use Rattle.model.specs.declared.Header.{Header}
use Rattle.model.specs.declared.Source.{Source}
use Rattle.model.specs.Records.{Row, Ledger}
use Rattle.model.specs.Retention.{Placement, Outcome, Stops, Declines, Subsumes, Adds, Retention, untaken, carry_out, placement_by}
use Rattle.model.specs.Retention.{place_reads}
use Rattle.model.specs.Refusals.{Lent, ledger_in, lent_of}
use Rattle.contents.specs.Lent.{lent}
use Rattle.retain_compare.specs.Passes.{examined_by}
use Rattle.retain.specs.declared.Kept.{Kept}
use Rattle.retain.specs.declared.Kept.TheVariants.{Subsumed, Added}

-- the answer, the ledger as it is lent, the account and the meter left
pub record End : Type 0 where
  pub outcome : Outcome
  pub ledger : Lent
  pub account : Account
  pub meter : Meter

abbrev pub outcome_of : Result Kept Unpaid → Outcome
outcome_of (Ok (Subsumed p)) = Subsumes p
outcome_of (Ok (Added p)) = Adds p
outcome_of (Err Declined) = Declines
outcome_of (Err Stopped) = Stops

-- of the code, and of the definition
abbrev pub retain_end : Result Kept Unpaid → Header → List ℕ → List ℕ → Purse → End
retain_end r h slots postings p = record
    { outcome = outcome_of r; ledger = lent h slots postings; account = p.account; meter = p.meter }

abbrev pub end_of : Retention → End
end_of d = record { outcome = d.outcome; ledger = lent_of d.ledger; account = d.account; meter = d.meter }

-- a verdict, once its reads are paid or not
abbrev pub carried : Ledger → Row → ℕ → Source → Placement → Read → Retention
carried l t hits source v (read.Paid a m) = carry_out l t hits source a m v
carried l t hits source v (read.Declined a m) = untaken Declines l a m
carried l t hits source v (read.Stopped a m) = untaken Stops l a m

-- the verdict over a lent ledger whose replaced positions are marked, once its reads are paid or not
abbrev pub judge_of : Lent → (ℕ → Bool) → Row → Placement
judge_of s f p = placement_by s.header.limits (ledger_in s).entries (examined_by f 0 (ledger_in s).entries) p

abbrev pub admit_end : Lent → (ℕ → Bool) → Row → ℕ → Source → Account → Meter → End
admit_end s f p hits source a m =
    end_of (carried (ledger_in s) p hits source (judge_of s f p) (pay (place_reads (ledger_in s).entries (judge_of s f p)) a m))
