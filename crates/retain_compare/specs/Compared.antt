-- 01, module 5, Retention: how a proposal compares with every row of a tier. Assumes nothing.
use Rattle.std.specs.Prelude.{ℕ}
use Rattle.meter.specs.declared.Meter.{Meter}
use Rattle.meter.specs.declared.Account.{Account}

-- it may take the place of the rows marked, or a row at a position subsumes it, or a read was not paid
pub data Compared : Type 0 where
  Replaces : Compared
  Subsumed : ℕ → Compared
  Declined Stopped : Compared

-- a comparison, with the account and the meter after its reads
pub record Comparison : Type 0 where
  pub compared : Compared
  pub account : Account
  pub meter : Meter
