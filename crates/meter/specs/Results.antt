-- 01, Meter: what a function's result and the state after it say in the words of specs/Meter. "0 means Declined without a tick; else a
-- tick"; a read that is not paid ends the question that it was paid for. Assumes nothing.
use Rattle.std.specs.Prelude.{Bool, Result, Ok, Err}
use Rattle.meter.specs.declared.Meter.{Meter}
use Rattle.meter.specs.declared.Purse.{Purse}
use Rattle.meter.specs.declared.Stopped.{Stopped}
use Rattle.meter.specs.declared.Unpaid.{Unpaid}
use Rattle.meter.specs.declared.Unpaid.TheVariants as unpaid
use Rattle.meter.specs.Tick.{Tick}
use Rattle.meter.specs.Tick as tick
use Rattle.meter.specs.Read.{Read}
use Rattle.meter.specs.Read as read
use Rattle.meter.specs.Verdict.{Verdict}
use Rattle.meter.specs.Verdict as verdict
use Rattle.meter.specs.Judged.{Judged}
use Rattle.meter.specs.Meter.{pick}

abbrev pub tick_end : {A : Type 0} → Result A Stopped → Meter → Tick
tick_end (Ok a) m = tick.Ticked m
tick_end (Err e) m = tick.Stopped m

abbrev pub unpaid_end : Unpaid → Purse → Read
unpaid_end unpaid.Declined p = read.Declined p.account p.meter
unpaid_end unpaid.Stopped p = read.Stopped p.account p.meter

abbrev pub read_end : {A : Type 0} → Result A Unpaid → Purse → Read
read_end (Ok a) p = read.Paid p.account p.meter
read_end (Err e) p = unpaid_end e p

abbrev pub verdict_of : Result Bool Unpaid → Verdict
verdict_of (Ok b) = pick b verdict.Yes verdict.No
verdict_of (Err unpaid.Declined) = verdict.Declined
verdict_of (Err unpaid.Stopped) = verdict.Stopped

abbrev pub judged_end : Result Bool Unpaid → Purse → Judged
judged_end r p = record { verdict = verdict_of r; account = p.account; meter = p.meter }
