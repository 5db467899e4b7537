-- 01, module 6: 'The output maximum is the larger of the row's outputs and the tier's founded_outputs.' How a row that is received ends,
-- once its reads are paid or not. Assumes nothing.
use Rattle.std.specs.Prelude.{List, ℕ, max, length, get_or}
use Rattle.meter.specs.Read.{Read}
use Rattle.model.specs.declared.Source.{Source}
use Rattle.model.specs.Records.{Row, source_at, source_in}
use Rattle.model.specs.Retention.{retain}
use Rattle.model.specs.Refusals.{Lent, ledger_in}
use Rattle.retain.specs.Ends.{End, end_of}

-- the source of a slot
abbrev pub source_of : List ℕ → Source
source_of ws = source_in (get_or ws source_at 0)

abbrev pub received_end : Lent → Source → Row → ℕ → ℕ → Read → End
received_end s source t outputs hits run = end_of (retain (ledger_in s) (max (length t.outputs) outputs) hits source t run)
