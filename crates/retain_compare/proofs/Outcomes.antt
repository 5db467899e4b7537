-- What a comparison tells of the pass and of the reads that were paid for it. Assumes nothing.
use mathlib.Core.Path.{◌≡◌, refl, sym, ap, ◌∙◌, subst}
use Prim.Native.Nat.{ℕ}
use Rattle.meter.specs.declared.Meter.{Meter}
use Rattle.meter.specs.declared.Account.{Account}
use Rattle.meter.specs.declared.Purse.{Purse}
use Rattle.meter.specs.declared.Unpaid.{Unpaid}
use Rattle.meter.specs.declared.Unpaid.TheVariants as unpaid
use Rattle.meter.specs.Results.{unpaid_end}
use Rattle.std.specs.Prelude.{Option, Result, Err}
use Rattle.meter.specs.Read.{Read}
use Rattle.meter.specs.Read as read
use Rattle.model.specs.Retention.{Pass, found, passed}
use Rattle.retain_compare.specs.Compared.{Compared, Comparison}
use Rattle.retain_compare.specs.Compared as compared
use Rattle.retain_compare.specs.Turns.{comparison, comparison_end, compared_of, WhereReplaces}

abbrev read_of : Compared → Account → Meter → Read
read_of compared.Replaces a m = read.Paid a m
read_of (compared.Subsumed n) a m = read.Paid a m
read_of compared.Declined a m = read.Declined a m
read_of compared.Stopped a m = read.Stopped a m

abbrev Says : Compared → Pass → Type 0
Says compared.Replaces x = Unit {0}
Says (compared.Subsumed n) x = x ≡ found n
Says compared.Declined x = Unit {0}
Says compared.Stopped x = Unit {0}

told : (x : Pass) (r : Read)
    → (r ≡ read_of (comparison x r).compared (comparison x r).account (comparison x r).meter) × Says (comparison x r).compared x
told (found n) (read.Paid a m) = (refl, refl)
told (passed ks p) (read.Paid a m) = (refl, tt)
told (found n) (read.Declined a m) = (refl, tt)
told (passed ks p) (read.Declined a m) = (refl, tt)
told (found n) (read.Stopped a m) = (refl, tt)
told (passed ks p) (read.Stopped a m) = (refl, tt)

module _ (x : Pass) (r : Read) {v : Comparison} (e : v ≡ comparison x r) where
  all_told : (r ≡ read_of v.compared v.account v.meter) × Says v.compared x
  all_told = subst (λ (u : Comparison). (r ≡ read_of u.compared u.account u.meter) × Says u.compared x) (sym e) (told x r)

  went : {c : Compared} → v.compared ≡ c → r ≡ read_of c v.account v.meter
  went y = all_told.0 ∙ ap (λ (c : Compared). read_of c v.account v.meter) y

  pub compares-replaces : v.compared ≡ compared.Replaces → r ≡ read.Paid v.account v.meter
  compares-replaces y = went y

  pub compares-subsumed : {n : ℕ} → v.compared ≡ compared.Subsumed n → (x ≡ found n) × (r ≡ read.Paid v.account v.meter)
  compares-subsumed y = (subst (λ (c : Compared). Says c x) y all_told.1, went y)

  pub compares-declined : v.compared ≡ compared.Declined → r ≡ read.Declined v.account v.meter
  compares-declined y = went y

  pub compares-stopped : v.compared ≡ compared.Stopped → r ≡ read.Stopped v.account v.meter
  compares-stopped y = went y

-- ---- a comparison whose reads are not all paid
pub compares-unpaid : (x : Pass) (r : Read) (e : Unpaid) (u : Purse) → comparison_end (Err e) u ≡ comparison x r → unpaid_end e u ≡ r
compares-unpaid x r unpaid.Declined u q = sym (compares-declined x r q refl)
compares-unpaid x r unpaid.Stopped u q = sym (compares-stopped x r q refl)

pub unpaid-compares : (x : Pass) (r : Read) (e : Unpaid) (u : Purse) → unpaid_end e u ≡ r → comparison_end (Err e) u ≡ comparison x r
unpaid-compares x r e u q = go x e ∙ ap (comparison x) q
  where
    go : (x : Pass) (e : Unpaid) → comparison_end (Err e) u ≡ comparison x (unpaid_end e u)
    go (found n) unpaid.Declined = refl
    go (passed ks p) unpaid.Declined = refl
    go (found n) unpaid.Stopped = refl
    go (passed ks p) unpaid.Stopped = refl

-- nothing is told of it
pub untold : (P : Type 0) {s : Result (Option ℕ) Unpaid} {e : Unpaid} → s ≡ Err e → WhereReplaces (compared_of s) P
untold P {s} {e} h = rw h (go e)
  where
    go : (e : Unpaid) → WhereReplaces (compared_of (Err e)) P
    go unpaid.Declined = tt
    go unpaid.Stopped = tt
