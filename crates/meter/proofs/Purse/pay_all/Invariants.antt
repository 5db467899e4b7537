-- `Purse::pay_all`: what is left to be paid, from the purse as it stands, is what was to be paid. Assumes nothing.
use mathlib.Core.Path.{◌≡◌}
use Prim.Native.Nat.{◌-◌}
use Rattle.meter.specs.Meter.{pay}
use Rattle.meter.proofs.Purse.pay_all.Given as goal

abbrev pub invariant-loop : goal.invariant-loop
invariant-loop l = pay (l.reads - l.counter) l.self.account l.self.meter ≡ pay l.reads l.initial.self.account l.initial.self.meter
