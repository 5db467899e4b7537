-- A retention leaves the limits, and tells the position of a row that is there. Assumes nothing.
use mathlib.Core.Path.{◌≡◌, refl, sym, ◌∙◌, subst}
use mathlib.Core.Bool.{Bool, true, false, ◌||◌}
use mathlib.Core.List.{List, [], ◌∷◌}
use mathlib.Core.Option.{Option, none, some}
use Prim.Native.Nat.{ℕ, suc, ◌<◌}
use native.Mathlib.Omega.{arith}
use lib.Dec.{ltb, leb}
use lib.ListN.{length, set, length-set}
use Rattle.meter.specs.declared.Meter.{Meter}
use Rattle.meter.specs.declared.Account.{Account}
use Rattle.meter.specs.Read.{Read, Paid, Declined, Stopped}
use Rattle.meter.specs.Meter.{and_then, pay}
use Rattle.model.specs.declared.LearningLimits.{LearningLimits}
use Rattle.model.specs.declared.Header.{Header}
use Rattle.model.specs.declared.Source.{Source}
use Rattle.model.specs.Records.{Row, Entry, Ledger, with_added, saturating_add}
use Rattle.model.specs.Rows.{subsumes}
use Rattle.model.specs.Union.{joins, grown}
use Rattle.model.specs.Retention.{Examined, Pass, found, passed, noted, first_pass, second_pass, any_replaced, victim, Placement, subsumed}
use Rattle.model.specs.Retention.{protected, placing, evicting, placement_by, placement_after, placement, kept, place, place_of, halved}
use Rattle.model.specs.Retention.{settle, newborn}
use Rattle.model.specs.Retention.{Outcome, Stops, Declines, Subsumes, Adds, Retention, untaken, carry_out, retained, retain_reads, retain}
use Rattle.model.proofs.Entries.{victim-held, halved-length}

-- the position that an outcome tells is one of n
abbrev pub Within : ℕ → Outcome → Type 0
Within n Stops = Unit {0}
Within n Declines = Unit {0}
Within n (Subsumes p) = p < n
Within n (Adds p) = p < n

-- ---- what is found, and what is evicted, is there
abbrev PassIn : ℕ → Pass → Type 0
PassIn n (found p) = p < n
PassIn n (passed ks p) = Unit {0}

noted_in : (b : Bool) (e : Entry) (n : ℕ) (x : Pass) → PassIn n x → PassIn (suc n) (noted b e x)
unfolding noted
noted_in b e n (found p) h = omega arith
noted_in b e n (passed ks p) h = tt

pass-in : (m : ℕ) (p : Row) (es : List Entry) → PassIn (length es) (first_pass m p es)
unfolding first_pass
pass-in m p [] = tt
pass-in m p (e ∷ es) = go (subsumes e.row p) (joins m e.row p) (pass-in m (grown e.row p) es) (pass-in m p es)
  where
    go : (b c : Bool) → PassIn (length es) (first_pass m (grown e.row p) es) → PassIn (length es) (first_pass m p es)
        → PassIn (suc (length es)) (elim b [
          | true ↦ found 0
          | false ↦ elim c [
            | true ↦ noted true e (first_pass m (grown e.row p) es)
            | false ↦ noted false e (first_pass m p es)
          ]
        ])
    go true c f h = omega arith
    go false true f h = noted_in true e (length es) (first_pass m (grown e.row p) es) f
    go false false f h = noted_in false e (length es) (first_pass m p es) h

abbrev PlacementIn : ℕ → Placement → Type 0
PlacementIn n (subsumed p) = p < n
PlacementIn n protected = Unit {0}
PlacementIn n (placing ks p) = Unit {0}
PlacementIn n (evicting v p) = v < n

judge-in : (l : LearningLimits) (es : List Entry) (ks : List Examined) (p : Row) (a : Bool) (x : Option ℕ) → victim l es ≡ x
    → PlacementIn (length es) (elim a [ true ↦ placing ks p | false ↦ elim x [ none ↦ protected | some v ↦ evicting v p ] ])
judge-in l es ks p true x h = tt
judge-in l es ks p false none h = tt
judge-in l es ks p false (some v) h = victim-held l es v h

placement_after-in : (l : LearningLimits) (es : List Entry) (x : Pass) → PassIn (length es) x
    → PlacementIn (length es) (placement_after l es x)
unfolding placement_after placement_by
placement_after-in l es (found p) h = h
placement_after-in l es (passed ks p) h =
    judge-in l es (second_pass p ks) p (any_replaced (second_pass p ks) || ltb (length es) l.tier_rows) (victim l es) refl

placement-in : (l : LearningLimits) (m : ℕ) (t : Row) (es : List Entry) → PlacementIn (length es) (placement l m t es)
unfolding placement
placement-in l m t es = placement_after-in l es (first_pass m t es) (pass-in m t es)

-- ---- what is placed is there
place_in : (e : Entry) (ks : List Examined) → place_of ks < length (place e ks)
unfolding place place_of
place_in e [] = omega arith
place_in e (k ∷ ks) = go k.replaced (place_in e ks)
  where
    go : (b : Bool) → place_of ks < length (place e ks)
        → (elim b as (λ x. ℕ) [ true ↦ 0 | false ↦ suc (place_of ks) ])
        < length {A = Entry} (elim b as (λ x. List Entry) [ true ↦ e ∷ kept ks | false ↦ k.entry ∷ place e ks ])
    go true h = omega arith
    go false h = omega arith

settle-both : (h : Header) (es : List Entry) (v : ℕ)
    → (length (settle h es v).entries ≡ length es) × ((settle h es v).header.limits ≡ h.limits)
unfolding settle with_added
settle-both h es v = go (leb h.limits.tier_rows (suc h.epoch))
  where
    go : (b : Bool) →
        (length
        (elim b as (λ x. Ledger) [
          | true ↦ record { header = with_added h 0 v; entries = halved es }
          | false ↦ record { header = with_added h (suc h.epoch) v; entries = es }
        ]).entries ≡ length es)
        × ((elim b as (λ x. Ledger) [
          | true ↦ record { header = with_added h 0 v; entries = halved es }
          | false ↦ record { header = with_added h (suc h.epoch) v; entries = es }
        ]).header.limits ≡ h.limits)
    go true = (halved-length es, refl)
    go false = (refl, refl)

module _ (l : Ledger) (hits : ℕ) (source : Source) (t : Row) where
  abbrev Stays : Retention → Type 0
  Stays d = Within (length d.ledger.entries) d.outcome × (d.ledger.header.limits ≡ l.header.limits)

  carry-stays : (a : Account) (m : Meter) (v : Placement) → PlacementIn (length l.entries) v → Stays (carry_out l t hits source a m v)
  unfolding carry_out untaken
  carry-stays a m (subsumed p) h = (h, refl)
  carry-stays a m protected h = (tt, refl)
  carry-stays a m (placing ks p) h =
      let e : Entry = newborn l.header p hits source in
      let s = settle-both l.header (place e ks) l.header.evicted in
      (subst (λ (n : ℕ). place_of ks < n) (sym s.0) (place_in e ks), s.1)
  carry-stays a m (evicting v p) h =
      let e : Entry = newborn l.header p hits source in
      let s = settle-both l.header (set l.entries v e) (saturating_add l.header.evicted 1) in
      (subst (λ (n : ℕ). v < n) (sym (s.0 ∙ length-set l.entries v e)) h, s.1)

  module _ (most : ℕ) where
    retained-stays : (run : Read) → Stays (retained l most hits source t run)
    unfolding retained untaken
    retained-stays (Paid a m) =
        carry-stays a m (placement l.header.limits most t l.entries) (placement-in l.header.limits most t l.entries)
    retained-stays (Declined a m) = (tt, refl)
    retained-stays (Stopped a m) = (tt, refl)

    module _ (run : Read) where
      pub retain-within : Within (length (retain l most hits source t run).ledger.entries) (retain l most hits source t run).outcome
      unfolding retain
      retain-within = (retained-stays (and_then run (pay (retain_reads l.header.limits most t l.entries)))).0

      pub retain-limits : (retain l most hits source t run).ledger.header.limits ≡ l.header.limits
      unfolding retain
      retain-limits = (retained-stays (and_then run (pay (retain_reads l.header.limits most t l.entries)))).1
