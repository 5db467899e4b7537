-- 01, Meter: the ticks that an end tells, `made`, are the count of those that were made: what the laws of proofs/Counting state.
-- Assumes nothing.
use Rattle.std.specs.Prelude.{ℕ, ◌-◌, ◌<◌, ◌≡◌}
use Rattle.meter.specs.declared.Meter.{Meter}
use Rattle.meter.specs.Tick.{Tick, Ticked, Stopped}
use Rattle.meter.specs.declared.Account.{Account}
use Rattle.meter.specs.Read as read
use Rattle.meter.specs.Meter.{tick_of, ticks, made, pay}

-- a meter that makes no tick more
abbrev pub Spent : Meter → Type 0
Spent m = tick_of m ≡ Stopped m

-- ticks that are stopped: fewer than n were made, as many as still fit the limit, and the meter is spent after them
pub record StoppedTicks (n : ℕ) (m k : Meter) : Type 0 where
  pub fewer : made m k < n
  pub before : ticks (made m k) m ≡ Ticked k
  pub fitting : made m k ≡ m.limit - m.charged
  pub spent : Spent k

-- reads that are not all paid: fewer than n, as many as ticks were made, and they leave the account and the meter of the end
pub record UnpaidReads (n : ℕ) (a : Account) (m : Meter) (b : Account) (k : Meter) : Type 0 where
  pub fewer : made m k < n
  pub before : pay (made m k) a m ≡ read.Paid b k

-- the limit stays as it was
abbrev pub TickLimit : ℕ → Tick → Type 0
TickLimit n (Ticked k) = k.limit ≡ n
TickLimit n (Stopped k) = k.limit ≡ n
