-- 01, module 5, Retention: 'position by position with the growing proposal, then a second pass for dominated rows'. One position of a pass,
-- and how a comparison ends. Assumes nothing.
use Rattle.std.specs.Prelude.{Bool, true, false, Option, Some, None, Result, Ok, Err, List, ℕ, suc, ◌+◌}
use Rattle.words.specs.Region.{mark}
use Rattle.meter.specs.declared.Purse.{Purse}
use Rattle.meter.specs.declared.Unpaid.{Unpaid}
use Rattle.meter.specs.declared.Unpaid.TheVariants as unpaid
use Rattle.meter.specs.Verdict.{Verdict}
use Rattle.meter.specs.Verdict as verdict
use Rattle.meter.specs.Read.{Read}
use Rattle.meter.specs.Read as read
use Rattle.model.specs.Records.{Row, Entry}
use Rattle.model.specs.Rows.{subsumes, subsumes_reads}
use Rattle.model.specs.Retention.{Pass, found, passed, first_pass, first_reads, second_pass, later_reads}
use Rattle.retain_compare.specs.Compared.{Compared, Comparison}
use Rattle.retain_compare.specs.Compared as compared

-- a position is marked where a test says so
abbrev pub marked_if : Bool → List ℕ → ℕ → List ℕ
marked_if true marks i = mark marks i
marked_if false marks i = marks

-- what is told where a question says No
abbrev pub WhereNo : Verdict → Type 0 → Type 0
WhereNo verdict.Yes P = Unit {0}
WhereNo verdict.No P = P
WhereNo verdict.Declined P = Unit {0}
WhereNo verdict.Stopped P = Unit {0}

-- the second pass at one position, by whether it is marked already: its reads, and the marks after it
abbrev pub sweep_reads : Bool → Row → Row → ℕ
sweep_reads true p s = 0
sweep_reads false p s = suc (subsumes_reads p s)

abbrev pub swept_marks : Bool → List ℕ → ℕ → Row → Row → List ℕ
swept_marks true marks i p s = marks
swept_marks false marks i p s = marked_if (subsumes p s) marks i

-- ---- what a comparison's result and the purse after it say
abbrev pub compared_of : Result (Option ℕ) Unpaid → Compared
compared_of (Ok None) = compared.Replaces
compared_of (Ok (Some n)) = compared.Subsumed n
compared_of (Err unpaid.Declined) = compared.Declined
compared_of (Err unpaid.Stopped) = compared.Stopped

abbrev pub comparison_end : Result (Option ℕ) Unpaid → Purse → Comparison
comparison_end r p = record { compared = compared_of r; account = p.account; meter = p.meter }

-- ---- a whole pass, once its reads are paid or not
abbrev pub comparison : Pass → Read → Comparison
comparison (found n) (read.Paid a m) = record { compared = compared.Subsumed n; account = a; meter = m }
comparison (passed ks p) (read.Paid a m) = record { compared = compared.Replaces; account = a; meter = m }
comparison x (read.Declined a m) = record { compared = compared.Declined; account = a; meter = m }
comparison x (read.Stopped a m) = record { compared = compared.Stopped; account = a; meter = m }

-- what is told where no row subsumes the proposal
abbrev pub WhereReplaces : Compared → Type 0 → Type 0
WhereReplaces compared.Replaces P = P
WhereReplaces (compared.Subsumed n) P = Unit {0}
WhereReplaces compared.Declined P = Unit {0}
WhereReplaces compared.Stopped P = Unit {0}

-- the first pass with the second after it
abbrev pub both_passes : Pass → Pass
both_passes (found n) = found n
both_passes (passed ks p) = passed (second_pass p ks) p

-- the reads of both
unfoldable pub compare_reads : ℕ → Row → List Entry → ℕ
compare_reads most p es = first_reads most p es + later_reads (first_pass most p es)
