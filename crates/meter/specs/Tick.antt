-- 01, Meter: how a tick ends, with the meter after it. Assumes nothing.
use Rattle.meter.specs.declared.Meter.{Meter}

pub data Tick : Type 0 where
  Ticked : Meter → Tick
  Stopped : Meter → Tick
