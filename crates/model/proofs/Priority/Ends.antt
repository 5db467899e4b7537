-- Of a closing that was not refused: Conflict means that no closed region contains the given one; else the region left is a
-- region, contains the given one, and is contained in every closed region that does. Assumes nothing.
use mathlib.Core.Path.{◌≡◌, refl, sym, ◌∙◌, subst}
use mathlib.Core.Bool.{Bool, ◌&&◌}
use mathlib.Core.List.{List, [], ◌∷◌}
use mathlib.Core.Option.{Option, none, some}
use Prim.Native.Nat.{ℕ, zero, suc}
use lib.Dec.{T, eqb}
use lib.ListN.{length}
use Rattle.words.specs.Region.{Region, is_region, atoms_ok, region}
use Rattle.words.proofs.Regions.{Sound, sound-of, region-test}
use Rattle.meter.specs.declared.Meter.{Meter}
use Rattle.model.specs.declared.CloseAnswer.TheVariants.{Conflict, Closed}
use Rattle.model.specs.Records.{Row, rows_of, limits_ok}
use Rattle.model.specs.Refusals.{Lent, ledger_in, refusal, accepts}
use Rattle.model.specs.Answers.{Reply, refused, answered, named, close_reply}
use Rattle.model.specs.Operations.{CloseEnd, close_end, unclosed, closed_by, close, region_ok}
use Rattle.model.specs.Closing.{Turn, going, conflict, halted, closing}
use Rattle.model.specs.Priority.{Contains, ClosedFor, NoneClosed}
use Rattle.model.proofs.Cover.{and_left}
use Rattle.model.proofs.Priority.Covering.{rows_e}
use Rattle.model.proofs.Priority.Fine.{Fine}
use Rattle.model.proofs.Priority.Steps.{Over, Accepted, accepted, refusal-cons, rows_ok, row-over, fine-in}
use Rattle.model.proofs.Priority.Inside.{TurnIn, closing-in}

pub record Left (n : ℕ) (rows : List Row) (r : Region) (e : CloseEnd) : Type 0 where
  pub is_a : T (is_region n e.region)
  pub contains : Contains e.region r
  pub least : (d : Region) → T (is_region n d) → ClosedFor rows d → Contains d r → Contains d e.region

pub record EndOk (n : ℕ) (rows : List Row) (r : Region) (e : CloseEnd) : Type 0 where
  pub if_closed : e.answer ≡ close_reply Closed → Left n rows r e
  pub if_conflict : e.answer ≡ close_reply Conflict → NoneClosed n rows r

abbrev pub IsClosed : Reply → Type 0
IsClosed (refused k) = ⊥
IsClosed (answered zero v) = Unit {0}
IsClosed (answered (suc c) v) = ⊥
IsClosed (named c v o) = ⊥

abbrev pub IsConflict : Reply → Type 0
IsConflict (refused k) = ⊥
IsConflict (answered zero v) = ⊥
IsConflict (answered (suc zero) v) = Unit {0}
IsConflict (answered (suc (suc c)) v) = ⊥
IsConflict (named c v o) = ⊥

turn_end : (n : ℕ) (rows : List Row) (over : Over n rows) (fine : Fine rows) (r : Region) (x y : List ℕ) (m : Meter) (t : Turn)
    → T (atoms_ok n) → TurnIn n rows over fine r t
    → EndOk n rows r (closed_by t x y m)
unfolding close_end
turn_end n rows over fine r x y m (going u) a i = record {
  if_closed = λ e. record {
    is_a = region-test n u.region a i.sound;
    contains = i.grown;
    least = λ d g c k. i.within d (record { sound = sound-of n d g; closed = c; above = k });
  };
  if_conflict = λ e. absurd (subst IsConflict (sym e) tt);
}
turn_end n rows over fine r x y m (conflict u) a i = record {
  if_closed = λ e. absurd (subst IsClosed (sym e) tt);
  if_conflict = λ e d g c k. i d (record { sound = sound-of n d g; closed = c; above = k });
}
turn_end n rows over fine r x y m (halted u) a i = record {
  if_closed = λ e. absurd (subst IsClosed (sym e) tt);
  if_conflict = λ e. absurd (subst IsConflict (sym e) tt);
}

pub atoms-ok : (s : Lent) → Accepted s → T (atoms_ok s.header.limits.atoms)
unfolding limits_ok
atoms-ok s a = and_left (atoms_ok s.header.limits.atoms) _ a.limits

pub region-ok : (s : Lent) (held cut : List ℕ) → T (region_ok s held cut) → Sound s.header.limits.atoms (region held cut)
unfolding region_ok
region-ok s held cut t = sound-of s.header.limits.atoms (region held cut) t

pub atoms-in : (s : Lent) → (ledger_in s).header.limits.atoms ≡ s.header.limits.atoms
unfolding ledger_in
atoms-in s = refl

refused_end : (n : ℕ) (rows : List Row) (r : Region) (e : CloseEnd) (k : ℕ) → e.answer ≡ refused k → EndOk n rows r e
refused_end n rows r e k q = record {
  if_closed = λ z. absurd (subst IsClosed (sym z ∙ q) tt);
  if_conflict = λ z. absurd (subst IsConflict (sym z ∙ q) tt);
}

pub close-end : (s : Lent) (held cut x y : List ℕ) (m : Meter)
    → EndOk s.header.limits.atoms (rows_of (ledger_in s)) (region held cut) (close s held cut x y m)
unfolding close rows_of
close-end s held cut x y m = go (refusal tests) refl
  where
    tests : List (Bool × ℕ)
    tests =
        accepts s (eqb (length x) s.header.limits.tier_rows && eqb (length y) s.header.limits.atoms)
        ((region_ok s held cut, 6) ∷ [])

    go : (o : Option ℕ) → refusal tests ≡ o
        → EndOk s.header.limits.atoms (rows_e (ledger_in s).entries) (region held cut) (elim o as (λ k. CloseEnd)
        [ some n ↦ unclosed n s held cut x y m | none ↦ closed_by (closing (ledger_in s) (region held cut) m) x y m ])
    go (some k) e =
        refused_end s.header.limits.atoms (rows_e (ledger_in s).entries) (region held cut)
        (unclosed k s held cut x y m) k refl
    go none e =
        let a = accepted s (eqb (length x) s.header.limits.tier_rows && eqb (length y) s.header.limits.atoms)
        ((region_ok s held cut, 6) ∷ []) e in
        let over : Over s.header.limits.atoms (rows_e (ledger_in s).entries) =
        λ r i. row-over s.header.limits.atoms r (rows_ok s a.0 r i) in
        turn_end s.header.limits.atoms (rows_e (ledger_in s).entries) over (fine-in s a.0) (region held cut) x y m
        (closing (ledger_in s) (region held cut) m) (atoms-ok s a.0)
        (closing-in s.header.limits.atoms (rows_e (ledger_in s).entries) over (fine-in s a.0) (region held cut) (ledger_in s) m
        (atoms-in s) refl (region-ok s held cut (refusal-cons (region_ok s held cut) 6 [] a.1).0))
