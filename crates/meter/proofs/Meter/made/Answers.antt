-- `Meter::made`: a difference, or 0. Assumes nothing.
use Rattle.meter.specs.Meter.{made}
use Rattle.meter.proofs.Meter.made.Goals as goal

pub returns : goal.returns
unfolding made
returns c = c.saturating_sub.ensures
