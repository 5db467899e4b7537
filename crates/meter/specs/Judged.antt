-- 01, Meter: a verdict, with the account and the meter after its reads. Assumes nothing.
use Rattle.meter.specs.declared.Meter.{Meter}
use Rattle.meter.specs.declared.Account.{Account}
use Rattle.meter.specs.Verdict.{Verdict}

pub record Judged : Type 0 where
  pub verdict : Verdict
  pub account : Account
  pub meter : Meter
