-- 01, Meter: how paid reads end, with the account and the meter after them. Assumes nothing.
use Rattle.meter.specs.declared.Meter.{Meter}
use Rattle.meter.specs.declared.Account.{Account}

pub data Read : Type 0 where
  Paid : Account → Meter → Read
  Declined : Account → Meter → Read
  Stopped : Account → Meter → Read
