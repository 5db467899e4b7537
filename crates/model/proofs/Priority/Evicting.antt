-- An eviction loses nothing but what the victim alone gave. Assumes nothing.
use mathlib.Core.Path.{◌≡◌, refl}
use mathlib.Core.Logic.{inl, inr}
use mathlib.Core.Bool.{Bool, true, false, ◌||◌, false≢true}
use mathlib.Core.List.{List, [], ◌∷◌}
use mathlib.Core.Option.{Option, none, some}
use Prim.Native.Nat.{ℕ, zero, suc, ◌<◌}
use native.Mathlib.Omega.{arith}
use lib.Dec.{ltb}
use lib.ListN.{length, get_or, set}
use Rattle.meter.specs.declared.Meter.{Meter}
use Rattle.meter.specs.declared.Account.{Account}
use Rattle.meter.specs.Read.{Read, Paid, Declined, Stopped}
use Rattle.meter.specs.Meter.{and_then, pay}
use Rattle.model.specs.declared.LearningLimits.{LearningLimits}
use Rattle.model.specs.declared.Source.{Source}
use Rattle.model.specs.Records.{Row, Entry, Ledger, rows_of, row_at}
use Rattle.model.specs.Retention.{Examined, Pass, found, passed, first_pass, second_pass, any_replaced, victim, placement_by}
use Rattle.model.specs.Retention.{placement_after, placement}
use Rattle.model.specs.Retention.{Placement, subsumed, protected, placing, evicting, newborn, Retention, untaken, carry_out, retained}
use Rattle.model.specs.Retention.{retain_reads, retain}
use Rattle.model.specs.Priority.{In, Covers, Loses, EvictionLoses}
use Rattle.model.proofs.Priority.Covering.{rows_e, Dom, covers-cons, covers-sub, dom-cov}
use Rattle.model.proofs.Priority.Retaining.{PlacementOk, placement-ok, settle-rows}
use Rattle.model.proofs.Entries.{victim-held}

-- ---- the victim is a row held
-- a verdict that evicts gives the victim's place away
abbrev Gives-up : LearningLimits → List Entry → Placement → Type 0
Gives-up l es (subsumed n) = Unit {0}
Gives-up l es protected = Unit {0}
Gives-up l es (placing ks p) = Unit {0}
Gives-up l es (evicting v p) = (victim l es ≡ some v) × (v < length es)

judge-gives-up : (l : LearningLimits) (es : List Entry) (ks : List Examined) (p : Row) (a : Bool) (x : Option ℕ) → victim l es ≡ x
    → Gives-up l es (elim a [ true ↦ placing ks p | false ↦ elim x [ none ↦ protected | some v ↦ evicting v p ] ])
judge-gives-up l es ks p true x e = tt
judge-gives-up l es ks p false none e = tt
judge-gives-up l es ks p false (some v) e = (e, victim-held l es v e)

pass-gives-up : (l : LearningLimits) (es : List Entry) (x : Pass) → Gives-up l es (placement_after l es x)
unfolding placement_after placement_by
pass-gives-up l es (found n) = tt
pass-gives-up l es (passed ks p) =
    judge-gives-up l es (second_pass p ks) p (any_replaced (second_pass p ks) || ltb (length es) l.tier_rows) (victim l es) refl

placement-gives-up : (l : LearningLimits) (m : ℕ) (t : Row) (es : List Entry) → Gives-up l es (placement l m t es)
unfolding placement
placement-gives-up l m t es = pass-gives-up l es (first_pass m t es)

-- ---- a place given to another row: what stood there, and all else, is there still
set-has : (v : ℕ) (e : Entry) (es : List Entry) → v < length es → In e.row (rows_e (set es v e))
set-has v e [] h = absurd (omega arith)
set-has zero e (x ∷ es) h = inl refl
set-has (suc v) e (x ∷ es) h = inr (set-has v e es (omega arith))

set_keeps : (v : ℕ) (e : Entry) (es : List Entry) (d r : Row) → In r (rows_e es) → In r (get_or (rows_e es) v d ∷ rows_e (set es v e))
set_keeps v e [] d r m = absurd m
set_keeps zero e (x ∷ es) d r (inl q) = inl q
set_keeps zero e (x ∷ es) d r (inr m) = inr (inr m)
set_keeps (suc v) e (x ∷ es) d r (inl q) = inr (inl q)
set_keeps (suc v) e (x ∷ es) d r (inr m) = go (set_keeps v e es d r m)
  where
    go : In r (get_or (rows_e es) v d ∷ rows_e (set es v e)) → In r (get_or (rows_e es) v d ∷ x.row ∷ rows_e (set es v e))
    go (inl q) = inl q
    go (inr i) = inr (inr i)

swapped : (v : ℕ) (e : Entry) (es : List Entry) (d t : Row) → v < length es → Dom e.row t
    → Covers (get_or (rows_e es) v d ∷ rows_e (set es v e)) (t ∷ rows_e es)
swapped v e es d t h k = covers-cons (dom-cov {s = t} (inr (set-has v e es h)) k) (covers-sub (set_keeps v e es d))

-- ---- retention
abbrev LosesVictim : Ledger → Row → Retention → Type 0
LosesVictim l t d = d.evicts ≡ true → Loses l t d

carry-loses : (l : Ledger) (t : Row) (h : ℕ) (s : Source) (a : Account) (m : Meter) (v : Placement) → PlacementOk t l.entries v
    → Gives-up l.header.limits l.entries v → LosesVictim l t (carry_out l t h s a m v)
unfolding carry_out untaken newborn rows_of row_at
carry-loses l t h s a m (subsumed p) c g e = absurd (false≢true e)
carry-loses l t h s a m protected c g e = absurd (false≢true e)
carry-loses l t h s a m (placing ks p) c g e = absurd (false≢true e)
carry-loses l t h s a m (evicting v p) c g e =
    record { at = v; victim = g.0; covers = rw settle-rows (swapped v _ l.entries _ t g.1 c.1) }

retained-loses : (l : Ledger) (m h : ℕ) (s : Source) (t : Row) (r : Read) → LosesVictim l t (retained l m h s t r)
unfolding retained untaken
retained-loses l m h s t (Paid a k) =
    carry-loses l t h s a k (placement l.header.limits m t l.entries) (placement-ok l.header.limits m t l.entries)
    (placement-gives-up l.header.limits m t l.entries)
retained-loses l m h s t (Declined a k) = λ e. absurd (false≢true e)
retained-loses l m h s t (Stopped a k) = λ e. absurd (false≢true e)

pub eviction-loses : EvictionLoses
unfolding retain
eviction-loses l most hits s t r =
    retained-loses l most hits s t (and_then r (pay (retain_reads l.header.limits most t l.entries)))
