-- 01, Meter: the ticks that an end tells, `made`, are the count of those that were made. Assumes nothing.
use Rattle.std.specs.Prelude.{ℕ, zero, suc, ◌+◌, ◌-◌, ◌<◌, ◌≤◌, ◌≡◌, refl, Bool, true, false, ltb, eqb}
use Rattle.std.proofs.Common.{sym, ap, subst, ◌∙◌, arith, ltb-true, ltb-false, eqb-true}
use Rattle.meter.specs.declared.Meter.{Meter}
use Rattle.meter.specs.Tick.{Tick, Ticked, Stopped}
use Rattle.meter.specs.declared.Account.{Account}
use Rattle.meter.specs.Read.{Read}
use Rattle.meter.specs.Read as read
use Rattle.meter.specs.Counting.{Spent, StoppedTicks, UnpaidReads, TickLimit}
use Rattle.meter.specs.Meter.{pick, tick_of, on_tick, ticks, made, reads_left, after_tick, pay_one, and_then, pay, judged}

-- ---- one tick, one read
abbrev OneTick : Meter → Tick → Type 0
OneTick m (Ticked k) = (m.charged < m.limit) × (k.charged ≡ m.charged + 1) × (k.limit ≡ m.limit)
OneTick m (Stopped k) = (m.limit ≤ m.charged) × (k ≡ m)

tick-one : (m : Meter) → OneTick m (tick_of m)
unfolding tick_of
tick-one m = go (ltb m.charged m.limit) refl
  where
    go : (b : Bool) → ltb m.charged m.limit ≡ b
        → OneTick m (pick b (Ticked (record { charged = m.charged + 1; limit = m.limit })) (Stopped m))
    go true e = (ltb-true _ _ e, refl, refl)
    go false e = (ltb-false _ _ e, refl)

one-tick : (m : Meter) {t : Tick} → tick_of m ≡ t → OneTick m t
one-tick m e = subst (OneTick m) e (tick-one m)

abbrev OneRead : Account → Meter → Read → Type 0
OneRead a m (read.Paid b k) = tick_of m ≡ Ticked k
OneRead a m (read.Declined b k) = (reads_left a ≡ 0) × (b ≡ a) × (k ≡ m)
OneRead a m (read.Stopped b k) = (tick_of m ≡ Stopped k) × (b ≡ a)

read_one : (a : Account) (m : Meter) → OneRead a m (pay_one a m)
unfolding pay_one
read_one a m = go (eqb (reads_left a) 0) refl
  where
    ticked : (t : Tick) → tick_of m ≡ t → OneRead a m (after_tick a t)
    ticked (Ticked k) e = e
    ticked (Stopped k) e = (e, refl)

    go : (b : Bool) → eqb (reads_left a) 0 ≡ b → OneRead a m (pick b (read.Declined a m) (after_tick a (tick_of m)))
    go true e = (eqb-true _ _ e, refl, refl)
    go false e = ticked (tick_of m) refl

one-read : (a : Account) (m : Meter) {r : Read} → pay_one a m ≡ r → OneRead a m r
one-read a m e = subst (OneRead a m) e (read_one a m)

-- ---- n ticks that were all made add n, and n paid reads too
pub ticks-charge : (n : ℕ) (m k : Meter) → ticks n m ≡ Ticked k → k.charged ≡ m.charged + n
unfolding ticks
ticks-charge zero m k e = let f : m ≡ k = cc in subst (λ (x : Meter). x.charged ≡ m.charged + 0) f (omega arith)
ticks-charge (suc n) m k e = go (tick_of m) refl e (λ l. ticks-charge n l k)
  where
    go : (t : Tick) → tick_of m ≡ t → on_tick t (ticks n) ≡ Ticked k
        → ((l : Meter) → ticks n l ≡ Ticked k → k.charged ≡ l.charged + n) → k.charged ≡ m.charged + suc n
    go (Ticked l) f e ih = omega (arith, (one-tick m f).1, ih l e)
    go (Stopped l) f e ih = let z : ◌≡◌ {A = ℕ} 0 1 = cc in absurd (omega arith)

pub ticks-made : (n : ℕ) (m : Meter) {k : Meter} → ticks n m ≡ Ticked k → made m k ≡ n
unfolding made
ticks-made n m {k} e = let f = ticks-charge n m k e in omega arith

pub pay-ticks : (n : ℕ) (a : Account) (m : Meter) (b : Account) (k : Meter) → pay n a m ≡ read.Paid b k → ticks n m ≡ Ticked k
unfolding pay ticks
pay-ticks zero a m b k e = cc
pay-ticks (suc n) a m b k e = go (pay_one a m) refl e (λ c l. pay-ticks n c l b k)
  where
    go : (r : Read) → pay_one a m ≡ r → and_then r (pay n) ≡ read.Paid b k
        → ((c : Account) (l : Meter) → pay n c l ≡ read.Paid b k → ticks n l ≡ Ticked k)
        → on_tick (tick_of m) (ticks n) ≡ Ticked k
    go (read.Paid c l) f e ih = ap (λ (t : Tick). on_tick t (ticks n)) (one-read a m f) ∙ ih c l e
    go (read.Declined c l) f e ih = let z : ◌≡◌ {A = ℕ} 0 1 = cc in absurd (omega arith)
    go (read.Stopped c l) f e ih = let z : ◌≡◌ {A = ℕ} 0 1 = cc in absurd (omega arith)

pub pay-made : (n : ℕ) (a : Account) (m : Meter) {b : Account} {k : Meter} → pay n a m ≡ read.Paid b k → made m k ≡ n
pay-made n a m {b} {k} e = ticks-made n m (pay-ticks n a m b k e)

-- ---- ticks that are stopped: fewer than n were made, as many as still fit the limit, and the meter is spent after them

stopped-after : (j n : ℕ) (m k : Meter) → j < n → ticks j m ≡ Ticked k → j ≡ m.limit - m.charged → Spent k → StoppedTicks n m k
stopped-after j n m k l e f s =
    let same : made m k ≡ j = ticks-made j m e in
    record { fewer = omega arith; before = rw same e; fitting = same ∙ f; spent = s }

-- a tick that is stopped leaves the meter, which is spent
pub tick-stopped : (m : Meter) {k : Meter} → tick_of m ≡ Stopped k → (k ≡ m) × Spent k
tick-stopped m {k} e = let s : k ≡ m = (one-tick m e).1 in (s, subst Spent (sym s) (e ∙ ap Stopped s))

pub ticks-stopped : (n : ℕ) (m : Meter) {k : Meter} → ticks n m ≡ Stopped k → StoppedTicks n m k
unfolding ticks
ticks-stopped zero m e = let z : ◌≡◌ {A = ℕ} 0 1 = cc in absurd (omega arith)
ticks-stopped (suc n) m {k} e = go (tick_of m) refl e (λ l. ticks-stopped n l)
  where
    go : (t : Tick) → tick_of m ≡ t → on_tick t (ticks n) ≡ Stopped k → ((l : Meter) → ticks n l ≡ Stopped k → StoppedTicks n l k)
        → StoppedTicks (suc n) m k
    go (Ticked l) f e ih =
        let o = one-tick m f in
        let h = ih l e in
        stopped-after (suc (made l k)) (suc n) m k (omega arith) (ap (λ (t : Tick). on_tick t (ticks (made l k))) f ∙ h.before)
        (omega (arith, h.fitting, o.0, o.1, o.2)) h.spent
    go (Stopped l) f e ih =
        let s = tick-stopped m (f ∙ e) in
        stopped-after 0 (suc n) m k (omega arith) (ap Ticked (sym s.0)) (omega (arith, (one-tick m f).0)) s.1

-- ---- reads that are not all paid: fewer than n, as many as ticks were made, and they leave the account and the meter of the end

unpaid-after : (j n : ℕ) (a : Account) (m : Meter) (b : Account) (k : Meter) → j < n → pay j a m ≡ read.Paid b k → UnpaidReads n a m b k
unpaid-after j n a m b k l e = let same : made m k ≡ j = pay-made j a m e in record { fewer = omega arith; before = rw same e }

abbrev Unpaid : ℕ → Account → Meter → Read → Type 0
Unpaid n a m (read.Paid b k) = Unit {0}
Unpaid n a m (read.Declined b k) = UnpaidReads n a m b k × (reads_left b ≡ 0)
Unpaid n a m (read.Stopped b k) = UnpaidReads n a m b k × Spent k

unpaid-later : (n : ℕ) (a : Account) (m : Meter) {c : Account} {l : Meter} → pay_one a m ≡ read.Paid c l
    → (r : Read) → Unpaid n c l r → Unpaid (suc n) a m r
unfolding pay
unpaid-later n a m {c} {l} f = go
  where
    later : (b : Account) (k : Meter) → UnpaidReads n c l b k → UnpaidReads (suc n) a m b k
    later b k u =
        unpaid-after (suc (made l k)) (suc n) a m b k (omega (arith, u.fewer))
        (ap (λ (r : Read). and_then r (pay (made l k))) f ∙ u.before)

    go : (r : Read) → Unpaid n c l r → Unpaid (suc n) a m r
    go (read.Paid b k) u = tt
    go (read.Declined b k) u = (later b k u.0, u.1)
    go (read.Stopped b k) u = (later b k u.0, u.1)

unpaid : (n : ℕ) (a : Account) (m : Meter) → Unpaid n a m (pay n a m)
unfolding pay
unpaid zero a m = tt
unpaid (suc n) a m = go (pay_one a m) refl (unpaid n)
  where
    at_once : (b : Account) (k : Meter) → b ≡ a → k ≡ m → UnpaidReads (suc n) a m b k
    at_once b k e f = unpaid-after 0 (suc n) a m b k (omega arith) (cc)

    go : (r : Read) → pay_one a m ≡ r → ((c : Account) (l : Meter) → Unpaid n c l (pay n c l)) → Unpaid (suc n) a m (and_then r (pay n))
    go (read.Paid c l) f ih = unpaid-later n a m f (pay n c l) (ih c l)
    go (read.Declined c l) f ih = let o = one-read a m f in (at_once c l o.1 o.2, ap reads_left o.1 ∙ o.0)
    go (read.Stopped c l) f ih =
        let o = one-read a m f in
        let s = tick-stopped m o.0 in
        (at_once c l o.1 s.0, s.1)

-- declined reads leave an empty account
pub pay-declined : (n : ℕ) (a : Account) (m : Meter) {b : Account} {k : Meter}
    → pay n a m ≡ read.Declined b k → UnpaidReads n a m b k × (reads_left b ≡ 0)
pay-declined n a m e = subst (Unpaid n a m) e (unpaid n a m)

-- stopped ones a spent meter
pub pay-stopped : (n : ℕ) (a : Account) (m : Meter) {b : Account} {k : Meter}
    → pay n a m ≡ read.Stopped b k → UnpaidReads n a m b k × Spent k
pay-stopped n a m e = subst (Unpaid n a m) e (unpaid n a m)

-- ---- the limit stays as it was

pub ticks-limit : (n : ℕ) (m : Meter) → TickLimit m.limit (ticks n m)
unfolding ticks
ticks-limit zero m = refl
ticks-limit (suc n) m = go (tick_of m) refl (ticks-limit n)
  where
    go : (t : Tick) → tick_of m ≡ t → ((k : Meter) → TickLimit k.limit (ticks n k)) → TickLimit m.limit (on_tick t (ticks n))
    go (Ticked k) e ih = subst (λ (l : ℕ). TickLimit l (ticks n k)) (one-tick m e).2 (ih k)
    go (Stopped k) e ih = ap (λ (k : Meter). k.limit) (one-tick m e).1

pub judged-limit : (b : Bool) (n : ℕ) (a : Account) (m : Meter) → (judged b (pay n a m)).meter.limit ≡ m.limit
unfolding pay
judged-limit b zero a m = refl
judged-limit b (suc n) a m = go (pay_one a m) refl (judged-limit b n)
  where
    go : (r : Read) → pay_one a m ≡ r → ((c : Account) (l : Meter) → (judged b (pay n c l)).meter.limit ≡ l.limit)
        → (judged b (and_then r (pay n))).meter.limit ≡ m.limit
    go (read.Paid c l) e ih = ih c l ∙ (one-tick m (one-read a m e)).2
    go (read.Declined c l) e ih = ap (λ (k : Meter). k.limit) (one-read a m e).2
    go (read.Stopped c l) e ih = ap (λ (k : Meter). k.limit) (tick-stopped m (one-read a m e).0).0
