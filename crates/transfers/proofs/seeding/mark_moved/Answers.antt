-- `mark_moved` meets its contract. Assumes nothing.
use mathlib.Core.Path.{sym, ap}
use Rattle.std.specs.Prelude.{Result}
use Rattle.meter.specs.declared.Unpaid.{Unpaid}
use Rattle.model.specs.Records.{with_mark}
use Rattle.transfers.specs.Transfer.{progress_of}
use Rattle.transfers.specs.Ends.{marked_by}
use Rattle.transfers.proofs.seeding.mark_moved.Goals as goal

pub returns-in-Ok : goal.returns-in-Ok
unfolding with_mark
returns-in-Ok c =
    ap (λ (r : Result (Unit {0}) Unpaid). marked_by (progress_of r) c.args.store c.args.header) (sym c.in-Ok.is)
