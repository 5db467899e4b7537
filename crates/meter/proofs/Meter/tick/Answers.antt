-- `Meter::tick`: below the limit, or not. Assumes nothing.
use borrow.Author.Tests.{lt-ltb, le-ltb}
use Rattle.meter.specs.Meter.{tick_of}
use Rattle.meter.proofs.Meter.tick.Goals as goal

pub returns-then-self : goal.returns-then-self
unfolding tick_of
returns-then-self c = simp (lt-ltb _ _ c.if-self.true)

pub returns-else-self : goal.returns-else-self
unfolding tick_of
returns-else-self c = simp (le-ltb _ _ c.if-self.false)
