-- 01, Meter and Paid reads: laws of one tick and of one paid read, of many, and of verdicts. Assumes nothing.
use Rattle.std.specs.Prelude.{ℕ, zero, suc, ◌+◌, ◌-◌, ◌<◌, ◌≡◌, refl, Bool}
use Rattle.std.proofs.Common.{sym, ◌∙◌, zero-add, suc-add, arith, eq-eqb, ne_eqb}
use Rattle.meter.specs.declared.Meter.{Meter}
use Rattle.meter.specs.Tick.{Tick, Ticked, Stopped}
use Rattle.meter.specs.declared.Account.{Account}
use Rattle.meter.specs.Read.{Read}
use Rattle.meter.specs.Read as read
use Rattle.meter.specs.Meter.{tick_of, on_tick, ticks, reads_left, one_less, pay_one, and_then, pay, judged}

-- a paid read by the way it goes: an empty account, a tick, a stop
pub pay-empty : (a : Account) (m : Meter) → reads_left a ≡ 0 → read.Declined a m ≡ pay_one a m
unfolding pay_one
pay-empty a m e = simp (eq-eqb _ _ e)

pub pay-ticked : (a : Account) (m : Meter) {k : Meter} → (reads_left a ≡ 0 → ⊥) → tick_of m ≡ Ticked k
    → read.Paid (one_less a) k ≡ pay_one a m
unfolding pay_one
pay-ticked a m n e = simp (ne_eqb _ _ n, e)

pub pay-halted : (a : Account) (m : Meter) {k : Meter} → (reads_left a ≡ 0 → ⊥) → tick_of m ≡ Stopped k
    → read.Stopped a k ≡ pay_one a m
unfolding pay_one
pay-halted a m n e = simp (ne_eqb _ _ n, e)

pub tick-tick : (r : Tick) (f g : Meter → Tick) → on_tick (on_tick r f) g ≡ on_tick r (λ m. on_tick (f m) g)
tick-tick (Ticked m) f g = refl
tick-tick (Stopped m) f g = refl

pub tick-ext : (r : Tick) {f g : Meter → Tick} → ((m : Meter) → f m ≡ g m) → on_tick r f ≡ on_tick r g
tick-ext (Ticked m) h = h m
tick-ext (Stopped m) h = refl

-- k + n ticks are k ticks, then n
pub ticks-add : (k n : ℕ) (m : Meter) → ticks (k + n) m ≡ on_tick (ticks k m) (ticks n)
unfolding ticks
ticks-add zero n m = simp zero-add
ticks-add (suc k) n m =
    rw suc-add (tick-ext (tick_of m) (ticks-add k n) ∙ sym (tick-tick (tick_of m) (ticks k) (ticks n)))

pub then-then : (r : Read) (f g : Account → Meter → Read) → and_then (and_then r f) g ≡ and_then r (λ a m. and_then (f a m) g)
then-then (read.Paid a m) f g = refl
then-then (read.Declined a m) f g = refl
then-then (read.Stopped a m) f g = refl

pub then-ext : (r : Read) {f g : Account → Meter → Read} → ((a : Account) (m : Meter) → f a m ≡ g a m) → and_then r f ≡ and_then r g
then-ext (read.Paid a m) h = h a m
then-ext (read.Declined a m) h = refl
then-ext (read.Stopped a m) h = refl

-- k + n reads are k reads, then n
pub pay-add : (k n : ℕ) (a : Account) (m : Meter) → pay (k + n) a m ≡ and_then (pay k a m) (pay n)
unfolding pay
pay-add zero n a m = simp zero-add
pay-add (suc k) n a m =
    rw suc-add (then-ext (pay_one a m) (pay-add k n) ∙ sym (then-then (pay_one a m) (pay k) (pay n)))

-- one read more: how the first ends, by the payment's answer r
pub pay-suc : (n : ℕ) (a : Account) (m : Meter) {r : Read} → r ≡ pay_one a m → pay (suc n) a m ≡ and_then r (pay n)
unfolding pay
pay-suc n a m e = rw e refl

-- the same for a number that is not 0
pub pay-left : (n : ℕ) (a : Account) (m : Meter) {r : Read} → 0 < n → r ≡ pay_one a m → pay n a m ≡ and_then r (pay (n - 1))
pay-left zero a m h e = absurd (omega arith)
pay-left (suc n) a m h e = let s : suc n - 1 ≡ n = omega arith in rw s (pay-suc n a m e)

pub pay-none : (a : Account) (m : Meter) → pay 0 a m ≡ read.Paid a m
unfolding pay
pay-none a m = refl

-- the first read alone decides where it is not paid
pub judged-declined : (b : Bool) (n : ℕ) (a : Account) (m : Meter) {c : Account} {k : Meter}
    → read.Declined c k ≡ pay_one a m → judged b (read.Declined c k) ≡ judged b (pay (suc n) a m)
judged-declined b n a m e = rw (pay-suc n a m e)

pub judged-stopped : (b : Bool) (n : ℕ) (a : Account) (m : Meter) {c : Account} {k : Meter}
    → read.Stopped c k ≡ pay_one a m → judged b (read.Stopped c k) ≡ judged b (pay (suc n) a m)
judged-stopped b n a m e = rw (pay-suc n a m e)

pub judged-paid : (b : Bool) (n : ℕ) (a : Account) (m : Meter) {c : Account} {k : Meter}
    → read.Paid c k ≡ pay_one a m → judged b (pay n c k) ≡ judged b (pay (suc n) a m)
judged-paid b n a m e = rw (pay-suc n a m e)
