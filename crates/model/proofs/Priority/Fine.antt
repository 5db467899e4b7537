-- Retentions of valid rows leave valid rows, and the limits. Assumes nothing.
use mathlib.Core.Path.{◌≡◌, refl, sym, ◌∙◌, subst}
use mathlib.Core.Logic.{inl, inr}
use mathlib.Core.Bool.{Bool, true, false, ◌||◌, false≢true, true≢false}
use mathlib.Core.List.{List, [], ◌∷◌, ◌++◌}
use mathlib.Core.Option.{Option, none, some}
use Prim.Native.Nat.{ℕ, zero, suc, ◌≤◌, ◌<◌}
use native.Mathlib.Nat.{le_trans}
use native.Mathlib.Omega.{arith}
use lib.Dec.{T, leb, ltb, leb→le}
use lib.ListN.{length, set}
use Rattle.lists.specs.Lists.{same}
use Rattle.meter.specs.declared.Meter.{Meter}
use Rattle.meter.specs.declared.Account.{Account}
use Rattle.meter.specs.Read.{Read, Paid, Declined, Stopped}
use Rattle.meter.specs.Meter.{and_then, pay}
use Rattle.model.specs.declared.LearningLimits.{LearningLimits}
use Rattle.model.specs.declared.Header.{Header}
use Rattle.model.specs.declared.Source.{Source}
use Rattle.model.specs.Records.{Row, Entry, Ledger, saturating_add, with_added, max_outputs}
use Rattle.model.specs.Union.{union, may_join, joins, grown}
use Rattle.model.specs.Rows.{subsumes}
use Rattle.model.specs.Retention.{Examined, Pass, found, passed, noted, first_pass, second_pass, any_replaced, placement_by}
use Rattle.model.specs.Retention.{placement_after, placement, Placement, subsumed, protected, placing, evicting, victim, halved}
use Rattle.model.specs.Retention.{settle, newborn, Retention, untaken, carry_out, retained, retain_reads, retain}
use Rattle.model.specs.Priority.{In, Covers}
use Rattle.model.proofs.Cover.{and_right}
use Rattle.model.proofs.Slots.{Valid}
use Rattle.model.proofs.Priority.Covering.{rows_e, rows_m, covers-refl, covers-trans, covers-cons}
use Rattle.model.proofs.Priority.Covering.{covers-sub}
use Rattle.model.proofs.Priority.Retaining.{PlacementOk, placement-ok, place_in, placed, settle-rows}
use Rattle.model.proofs.Union.{union-asc}

-- ---- a grown proposal is valid
grown-valid : (m : ℕ) (r p : Row) → m ≤ max_outputs → T (joins m r p) → Valid r → Valid p → Valid (grown r p)
unfolding joins grown
grown-valid m r p l t v w = record {
  conditions = w.conditions;
  outputs = union-asc r.outputs p.outputs 0 v.outputs w.outputs;
  few = w.few;
  many =
      le_trans (leb→le (length (union r.outputs p.outputs)) m
      (and_right (same r.conditions p.conditions) (leb (length (union r.outputs p.outputs)) m) (and_right (may_join m r p) _ t)))
      l;
}

-- each row of the list is valid
abbrev pub Fine : List Row → Type 0
Fine rs = (r : Row) → In r rs → Valid r

-- ---- what holds of joined rows if it holds of both holds of the row that a retention places
abbrev PassKeeps : (Row → Type 0) → Pass → Type 0
PassKeeps P (found n) = Unit {0}
PassKeeps P (passed ks p) = P p

abbrev pub PlacementKeeps : (Row → Type 0) → Placement → Type 0
PlacementKeeps P (subsumed p) = Unit {0}
PlacementKeeps P protected = Unit {0}
PlacementKeeps P (placing ks p) = P p
PlacementKeeps P (evicting v p) = P p

module _ (P : Row → Type 0) (m : ℕ) (join : (r p : Row) → T (joins m r p) → P r → P p → P (grown r p)) where
  noted-keeps : (b : Bool) (e : Entry) (x : Pass) → PassKeeps P x → PassKeeps P (noted b e x)
  unfolding noted
  noted-keeps b e (found n) f = tt
  noted-keeps b e (passed ks p) f = f

  pass-keeps-step : (p : Row) (e : Entry) (es : List Entry) (b c : Bool)
      → (T c → PassKeeps P (first_pass m (grown e.row p) es)) → PassKeeps P (first_pass m p es)
      → PassKeeps P (elim b [
        | true ↦ found 0
        | false ↦ elim c [
          | true ↦ noted true e (first_pass m (grown e.row p) es)
          | false ↦ noted false e (first_pass m p es)
        ]
      ])
  pass-keeps-step p e es true c f g = tt
  pass-keeps-step p e es false true f g = noted-keeps true e (first_pass m (grown e.row p) es) (f tt)
  pass-keeps-step p e es false false f g = noted-keeps false e (first_pass m p es) g

  pass-keeps : (p : Row) (es : List Entry) → P p → ((r : Row) → In r (rows_e es) → P r) → PassKeeps P (first_pass m p es)
  unfolding first_pass
  pass-keeps p [] v f = v
  pass-keeps p (e ∷ es) v f =
      pass-keeps-step p e es (subsumes e.row p) (joins m e.row p)
      (λ t. pass-keeps (grown e.row p) es (join e.row p t (f e.row (inl refl)) v) (λ r i. f r (inr i)))
      (pass-keeps p es v (λ r i. f r (inr i)))

  judge-keeps-step : (ks : List Examined) (p : Row) (a : Bool) (x : Option ℕ) → P p
      → PlacementKeeps P (elim a [ true ↦ placing ks p | false ↦ elim x [ none ↦ protected | some y ↦ evicting y p ] ])
  judge-keeps-step ks p true x v = v
  judge-keeps-step ks p false none v = tt
  judge-keeps-step ks p false (some y) v = v

  placement_after-keeps : (l : LearningLimits) (es : List Entry) (x : Pass) → PassKeeps P x → PlacementKeeps P (placement_after l es x)
  unfolding placement_after placement_by
  placement_after-keeps l es (found n) f = tt
  placement_after-keeps l es (passed ks p) f =
      judge-keeps-step (second_pass p ks) p (any_replaced (second_pass p ks) || ltb (length es) l.tier_rows) (victim l es) f

  pub placement-keeps : (l : LearningLimits) (t : Row) (es : List Entry) → P t → ((r : Row) → In r (rows_e es) → P r)
      → PlacementKeeps P (placement l m t es)
  unfolding placement
  placement-keeps l t es v f = placement_after-keeps l es (first_pass m t es) (pass-keeps t es v f)

-- ---- the entries after
set-in : (v : ℕ) (e : Entry) (es : List Entry) (r : Row) → In r (rows_e (set es v e)) → In r (e.row ∷ rows_e es)
set-in v e [] r m = absurd m
set-in zero e (x ∷ es) r (inl q) = inl q
set-in zero e (x ∷ es) r (inr m) = inr (inr m)
set-in (suc v) e (x ∷ es) r (inl q) = inr (inl q)
set-in (suc v) e (x ∷ es) r (inr m) = go (set-in v e es r m)
  where
    go : In r (e.row ∷ rows_e es) → In r (e.row ∷ x.row ∷ rows_e es)
    go (inl q) = inl q
    go (inr i) = inr (inr i)

-- evictions from n on came to k: none, and the count stays; else it is not 0
pub record Counted (evicts : Bool) (n k : ℕ) : Type 0 where
  pub calm : evicts ≡ false → k ≡ n
  pub some : evicts ≡ true → 0 < k
  pub more : 0 < n → 0 < k

pub none-counted : (n : ℕ) → Counted false n n
none-counted n = record { calm = λ e. refl; some = λ e. absurd (false≢true e); more = λ h. h }

one-counted : (n k : ℕ) → k ≡ saturating_add n 1 → Counted true n k
unfolding saturating_add
one-counted n k e = record { calm = λ q. absurd (true≢false q); some = λ q. omega arith; more = λ h. omega arith }

pub both-counted : (a b : Bool) (n k m : ℕ) → Counted b n k → Counted a k m → Counted (a || b) n m
both-counted true b n k m p q = record { calm = λ e. absurd (true≢false e); some = λ e. q.some refl; more = λ h. q.more (p.more h) }
both-counted false b n k m p q = record {
  calm = λ e. q.calm refl ∙ p.calm e;
  some = λ e. subst (λ (x : ℕ). 0 < x) (sym (q.calm refl)) (p.some e);
  more = λ h. q.more (p.more h);
}

-- a retention, all of it: limits, rows, what was taken, and the count of evictions
pub record RetainedFine (l : Ledger) (t : Row) (d : Retention) : Type 0 where
  pub limits : d.ledger.header.limits ≡ l.header.limits
  pub fine : Fine (rows_e d.ledger.entries)
  pub took : (r : Row) → In r d.took → r ≡ t
  pub from : Covers (d.took ++ rows_e l.entries) (rows_e d.ledger.entries)
  pub counted : Counted d.evicts l.header.evicted d.ledger.header.evicted

settle-limits : (h : Header) (es : List Entry) (n : ℕ) → (settle h es n).header.limits ≡ h.limits
unfolding settle with_added
settle-limits h es n = go (leb h.limits.tier_rows (suc h.epoch))
  where
    go : (b : Bool)
        → (elim b as (λ k. Ledger) [
          | true ↦ record { header = with_added h 0 n; entries = halved es }
          | false ↦ record { header = with_added h (suc h.epoch) n; entries = es }
        ]).header.limits ≡ h.limits
    go true = refl
    go false = refl

settle-evicted : (h : Header) (es : List Entry) (n : ℕ) → (settle h es n).header.evicted ≡ n
unfolding settle with_added
settle-evicted h es n = go (leb h.limits.tier_rows (suc h.epoch))
  where
    go : (b : Bool)
        → (elim b as (λ k. Ledger) [
          | true ↦ record { header = with_added h 0 n; entries = halved es }
          | false ↦ record { header = with_added h (suc h.epoch) n; entries = es }
        ]).header.evicted ≡ n
    go true = refl
    go false = refl

fine-cons : (e : Row) (rs : List Row) → Valid e → Fine rs → Fine (e ∷ rs)
fine-cons e rs v f r (inl q) = subst Valid (sym q) v
fine-cons e rs v f r (inr m) = f r m

only : (t r : Row) → In r (t ∷ []) → r ≡ t
only t r (inl e) = e
only t r (inr m) = absurd m

carry-fine : (l : Ledger) (t : Row) (h : ℕ) (s : Source) (a : Account) (m : Meter) (v : Placement) → Fine (rows_e l.entries)
    → PlacementOk t l.entries v → PlacementKeeps Valid v → RetainedFine l t (carry_out l t h s a m v)
unfolding carry_out untaken newborn
carry-fine l t h s a m (subsumed p) f o v =
    record { limits = refl; fine = f; took = only t; from = covers-sub (λ r i. inr i); counted = none-counted _ }
carry-fine l t h s a m protected f o v =
    record { limits = refl; fine = f; took = λ r i. absurd i; from = covers-refl (rows_e l.entries); counted = none-counted _ }
carry-fine l t h s a m (placing ks p) f o v = record {
  limits = settle-limits l.header _ _;
  fine = λ r i. fine-cons p (rows_m ks) v (subst Fine (sym o.rows) f) r
      (place_in _ ks r (subst (λ (rs : List Row). In r rs) (settle-rows l.header _ _) i));
  took = only t;
  from = subst (λ (rs : List Row). Covers (t ∷ rows_e l.entries) rs) (sym (settle-rows l.header _ _))
      (placed t l.entries ks _ o).back;
  counted = subst (λ (k : ℕ). Counted false l.header.evicted k) (sym (settle-evicted l.header _ l.header.evicted))
      (none-counted l.header.evicted);
}
carry-fine l t h s a m (evicting v p) f o w = record {
  limits = settle-limits l.header _ _;
  fine = λ r i. fine-cons p (rows_e l.entries) w f r
      (set-in v _ l.entries r (subst (λ (rs : List Row). In r rs) (settle-rows l.header _ _) i));
  took = only t;
  from = subst (λ (rs : List Row). Covers (t ∷ rows_e l.entries) rs) (sym (settle-rows l.header _ _))
      (covers-trans (covers-cons {B = rows_e l.entries} {t = p} o.0 (covers-sub (λ r i. inr i)))
      (covers-sub (set-in v _ l.entries)));
  counted = one-counted l.header.evicted _ (settle-evicted l.header _ _);
}

retained-fine : (l : Ledger) (m h : ℕ) (s : Source) (t : Row) (run : Read) → m ≤ max_outputs → Valid t → Fine (rows_e l.entries)
    → RetainedFine l t (retained l m h s t run)
unfolding retained untaken
retained-fine l m h s t (Paid a n) k v f =
    carry-fine l t h s a n (placement l.header.limits m t l.entries) f (placement-ok l.header.limits m t l.entries)
    (placement-keeps Valid m (λ r p j. grown-valid m r p k j) l.header.limits t l.entries v f)
retained-fine l m h s t (Declined a n) k v f =
    record { limits = refl; fine = f; took = λ r i. absurd i; from = covers-refl (rows_e l.entries); counted = none-counted _ }
retained-fine l m h s t (Stopped a n) k v f =
    record { limits = refl; fine = f; took = λ r i. absurd i; from = covers-refl (rows_e l.entries); counted = none-counted _ }

pub retain-fine : (l : Ledger) (m h : ℕ) (s : Source) (t : Row) (run : Read) → m ≤ max_outputs → Valid t → Fine (rows_e l.entries)
    → RetainedFine l t (retain l m h s t run)
unfolding retain
retain-fine l m h s t run k v f = retained-fine l m h s t (and_then run (pay (retain_reads l.header.limits m t l.entries))) k v f
