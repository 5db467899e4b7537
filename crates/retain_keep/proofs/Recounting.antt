-- A retention looks at the rows, never at the header's counts of them. Assumes nothing.
use mathlib.Core.Path.{◌≡◌, refl, ap}
use mathlib.Core.Bool.{Bool, true, false}
use mathlib.Core.List.{List, [], ◌∷◌}
use Prim.Native.Nat.{ℕ, suc}
use lib.Dec.{leb}
use lib.ListN.{length, set}
use Rattle.meter.specs.declared.Meter.{Meter}
use Rattle.meter.specs.declared.Account.{Account}
use Rattle.meter.specs.Read.{Read, Paid, Declined, Stopped}
use Rattle.meter.specs.Meter.{and_then, pay}
use Rattle.model.specs.declared.Header.{Header}
use Rattle.model.specs.declared.Source.{Source}
use Rattle.model.specs.Records.{Row, Entry, Ledger, saturating_add, with_added, with_counts, founded_rows}
use Rattle.model.specs.Retention.{halved, settle, newborn, place, place_of, Adds, Placement, subsumed, protected, placing, evicting}
use Rattle.model.specs.Retention.{placement, Retention, untaken, carry_out, retained, retain_reads, retain}
use Rattle.retain_keep.specs.Good.{recounted}

abbrev pub recounted_end : Retention → Retention
recounted_end d = record
    { outcome = d.outcome; ledger = recounted d.ledger; account = d.account; meter = d.meter; took = d.took; evicts = d.evicts }

settle-recounted : (h : Header) (n k : ℕ) (es : List Entry) (v : ℕ)
    → recounted (settle (with_counts h n k) es v) ≡ recounted (settle h es v)
unfolding settle with_added with_counts
settle-recounted h n k es v = go (leb h.limits.tier_rows (suc h.epoch))
  where
    go : (b : Bool) →
        recounted (elim b as (λ x. Ledger) [
          | true ↦ record { header = with_added (with_counts h n k) 0 v; entries = halved es }
          | false ↦ record { header = with_added (with_counts h n k) (suc h.epoch) v; entries = es }
        ])
        ≡ recounted (elim b as (λ x. Ledger) [
          | true ↦ record { header = with_added h 0 v; entries = halved es }
          | false ↦ record { header = with_added h (suc h.epoch) v; entries = es }
        ])
    go true = refl
    go false = refl

module _ (l : Ledger) (most hits : ℕ) (source : Source) (t : Row) where
  carry-recounted : (a : Account) (m : Meter) (v : Placement)
      → recounted_end (carry_out (recounted l) t hits source a m v) ≡ recounted_end (carry_out l t hits source a m v)
  unfolding carry_out untaken newborn with_counts
  carry-recounted a m (subsumed p) = refl
  carry-recounted a m protected = refl
  carry-recounted a m (placing ks p) =
      ap (λ (x : Ledger). record { outcome = Adds (place_of ks); ledger = x; account = a; meter = m; took = t ∷ []; evicts = false })
      (settle-recounted l.header (length l.entries) (founded_rows l.entries) (place (newborn l.header p hits source) ks)
      l.header.evicted)
  carry-recounted a m (evicting v p) =
      ap (λ (x : Ledger). record { outcome = Adds v; ledger = x; account = a; meter = m; took = t ∷ []; evicts = true })
      (settle-recounted l.header (length l.entries) (founded_rows l.entries)
      (set l.entries v (newborn l.header p hits source))
      (saturating_add l.header.evicted 1))

  retained-recounted : (run : Read)
      → recounted_end (retained (recounted l) most hits source t run) ≡ recounted_end (retained l most hits source t run)
  unfolding retained untaken with_counts
  retained-recounted (Paid a m) = carry-recounted a m (placement l.header.limits most t l.entries)
  retained-recounted (Declined a m) = refl
  retained-recounted (Stopped a m) = refl

  pub retain-recounted : (run : Read)
      → recounted_end (retain (recounted l) most hits source t run) ≡ recounted_end (retain l most hits source t run)
  unfolding retain with_counts
  retain-recounted run = retained-recounted (and_then run (pay (retain_reads l.header.limits most t l.entries)))
