-- A retention without eviction: what is held afterwards gives what was held and the row taken. Assumes nothing.
use mathlib.Core.Path.{◌≡◌, refl, sym, ◌∙◌, ap, subst}
use mathlib.Core.Logic.{◌⊎◌, inl, inr}
use mathlib.Core.Bool.{Bool, true, false, ◌||◌, not}
use mathlib.Core.List.{List, [], ◌∷◌, ◌++◌}
use mathlib.Core.Option.{Option, none, some}
use Prim.Native.Nat.{ℕ, suc}
use lib.Dec.{T, leb, ltb}
use lib.ListN.{length}
use Rattle.meter.specs.declared.Meter.{Meter}
use Rattle.meter.specs.declared.Account.{Account}
use Rattle.meter.specs.Read.{Read, Paid, Declined, Stopped}
use Rattle.meter.specs.Meter.{and_then, pay}
use Rattle.model.specs.declared.LearningLimits.{LearningLimits}
use Rattle.model.specs.declared.Header.{Header}
use Rattle.model.specs.declared.Source.{Source}
use Rattle.model.specs.Records.{Row, Entry, Ledger, with_added, with_hits}
use Rattle.model.specs.Rows.{subsumes}
use Rattle.model.specs.Retention.{Examined, Pass, found, passed, first_pass, second_pass, any_replaced, kept, place, placement_by}
use Rattle.model.specs.Retention.{placement_after, placement, Placement, subsumed, protected, placing, evicting, victim, halved}
use Rattle.model.specs.Retention.{settle, newborn, Retention, untaken, carry_out, retained, retain_reads, retain}
use Rattle.model.specs.Priority.{In, Covers}
use Rattle.model.proofs.Priority.Covering.{rows_e, Dom, Cov, covers-refl, covers-trans, covers-cons, covers-sub, dom-cov}
use Rattle.model.proofs.Priority.Covering.{subs-sound, rows_m, GoneOk, Grown, PassOk, pass-ok}

or_case : (a b : Bool) {X : Type 0} → (T a → X) → (T b → X) → T (a || b) → X
or_case true b f g t = f tt
or_case false b f g t = g t

sweep-rows : (p : Row) (ks : List Examined) → rows_m (second_pass p ks) ≡ rows_m ks
unfolding second_pass
sweep-rows p [] = refl
sweep-rows p (k ∷ ks) = ap (λ (l : List Row). k.entry.row ∷ l) (sweep-rows p ks)

sweep-gone : (p : Row) (ks : List Examined) → GoneOk p ks → GoneOk p (second_pass p ks)
unfolding second_pass
sweep-gone p [] h = tt
sweep-gone p (k ∷ ks) h =
    (or_case k.replaced (subsumes p k.entry.row) h.0 (subs-sound p k.entry.row), sweep-gone p ks h.1)

keep-in-step : (k : Examined) (ks : List Examined) (b : Bool) → ((r : Row) → In r (rows_e (kept ks)) → In r (rows_m ks))
    → (r : Row) → In r (rows_e (elim b [ true ↦ kept ks | false ↦ k.entry ∷ kept ks ])) → In r (k.entry.row ∷ rows_m ks)
keep-in-step k ks true f r m = inr (f r m)
keep-in-step k ks false f r (inl e) = inl e
keep-in-step k ks false f r (inr m) = inr (f r m)

keep-in : (ks : List Examined) (r : Row) → In r (rows_e (kept ks)) → In r (rows_m ks)
unfolding kept
keep-in [] r m = m
keep-in (k ∷ ks) r m = keep-in-step k ks k.replaced (keep-in ks) r m

place-in-step : (e : Entry) (k : Examined) (ks : List Examined) (b : Bool)
    → ((r : Row) → In r (rows_e (place e ks)) → In r (e.row ∷ rows_m ks))
    → (r : Row) → In r (rows_e (elim b [ true ↦ e ∷ kept ks | false ↦ k.entry ∷ place e ks ])) → In r (e.row ∷ k.entry.row ∷ rows_m ks)
place-in-step e k ks true f r (inl q) = inl q
place-in-step e k ks true f r (inr m) = inr (inr (keep-in ks r m))
place-in-step e k ks false f r (inl q) = inr (inl q)
place-in-step e k ks false f r (inr m) = go (f r m)
  where
    go : In r (e.row ∷ rows_m ks) → In r (e.row ∷ k.entry.row ∷ rows_m ks)
    go (inl q) = inl q
    go (inr i) = inr (inr i)

pub place_in : (e : Entry) (ks : List Examined) (r : Row) → In r (rows_e (place e ks)) → In r (e.row ∷ rows_m ks)
unfolding place
place_in e [] r m = m
place_in e (k ∷ ks) r m = place-in-step e k ks k.replaced (place_in e ks) r m

place-has-step : (e : Entry) (k : Examined) (ks : List Examined) (b : Bool) → In e.row (rows_e (place e ks))
    → In e.row (rows_e (elim b [ true ↦ e ∷ kept ks | false ↦ k.entry ∷ place e ks ]))
place-has-step e k ks true m = inl refl
place-has-step e k ks false m = inr m

place-has : (e : Entry) (ks : List Examined) → In e.row (rows_e (place e ks))
unfolding place
place-has e [] = inl refl
place-has e (k ∷ ks) = place-has-step e k ks k.replaced (place-has e ks)

-- each row is kept, or is gone and the row p dominates it
abbrev Kept : Row → List Row → List Row → Type 0
Kept p A B = (r : Row) → In r B → In r A ⊎ Dom p r

kept_here : (p : Row) (k : Examined) (A B : List Row) → Kept p A B → Kept p (k.entry.row ∷ A) (k.entry.row ∷ B)
kept_here p k A B f r (inl q) = inl (inl q)
kept_here p k A B f r (inr m) = go (f r m)
  where
    go : In r A ⊎ Dom p r → In r (k.entry.row ∷ A) ⊎ Dom p r
    go (inl i) = inl (inr i)
    go (inr d) = inr d

kept-gone : (p : Row) (k : Examined) (A B : List Row) → Dom p k.entry.row → Kept p A B → Kept p A (k.entry.row ∷ B)
kept-gone p k A B d f r (inl q) = inr (subst (λ (x : Row). Dom p x) (sym q) d)
kept-gone p k A B d f r (inr m) = f r m

keep-keeps-step : (p : Row) (k : Examined) (ks : List Examined) (b : Bool) → (T b → Dom p k.entry.row)
    → Kept p (rows_e (kept ks)) (rows_m ks)
    → Kept p (rows_e (elim b [ true ↦ kept ks | false ↦ k.entry ∷ kept ks ])) (k.entry.row ∷ rows_m ks)
keep-keeps-step p k ks true d f = kept-gone p k (rows_e (kept ks)) (rows_m ks) (d tt) f
keep-keeps-step p k ks false d f = kept_here p k (rows_e (kept ks)) (rows_m ks) f

keep-keeps : (p : Row) (ks : List Examined) → GoneOk p ks → Kept p (rows_e (kept ks)) (rows_m ks)
unfolding kept
keep-keeps p [] h = λ r m. absurd m
keep-keeps p (k ∷ ks) h = keep-keeps-step p k ks k.replaced h.0 (keep-keeps p ks h.1)

kept_more : (p s : Row) (A B : List Row) → Kept p A B → Kept p (s ∷ A) B
kept_more p s A B f r m = go (f r m)
  where
    go : In r A ⊎ Dom p r → In r (s ∷ A) ⊎ Dom p r
    go (inl i) = inl (inr i)
    go (inr d) = inr d

place-keeps-step : (p : Row) (e : Entry) (k : Examined) (ks : List Examined) (b : Bool) → (T b → Dom p k.entry.row) → GoneOk p ks
    → Kept p (rows_e (place e ks)) (rows_m ks)
    → Kept p (rows_e (elim b [ true ↦ e ∷ kept ks | false ↦ k.entry ∷ place e ks ])) (k.entry.row ∷ rows_m ks)
place-keeps-step p e k ks true d g f =
    kept_more p e.row (rows_e (kept ks)) (k.entry.row ∷ rows_m ks)
    (kept-gone p k (rows_e (kept ks)) (rows_m ks) (d tt) (keep-keeps p ks g))
place-keeps-step p e k ks false d g f = kept_here p k (rows_e (place e ks)) (rows_m ks) f

place-keeps : (p : Row) (e : Entry) (ks : List Examined) → GoneOk p ks → Kept p (rows_e (place e ks)) (rows_m ks)
unfolding place
place-keeps p e [] h = λ r m. absurd m
place-keeps p e (k ∷ ks) h = place-keeps-step p e k ks k.replaced h.0 h.1 (place-keeps p e ks h.1)

-- two lists that give the same
pub record Alike (A B : List Row) : Type 0 where
  pub there : Covers A B
  pub back : Covers B A

pub alike_refl : (A : List Row) → Alike A A
alike_refl A = record { there = covers-refl A; back = covers-refl A }

pub alike-trans : {A B C : List Row} → Alike A B → Alike B C → Alike A C
alike-trans p q = record { there = covers-trans p.there q.there; back = covers-trans q.back p.back }

-- a grown proposal dominates the row taken
grown-dom : {t : Row} {es : List Entry} {ks : List Examined} {p : Row} → Grown t es ks p → Dom p t
grown-dom g = record { less = λ x m. subst (λ (c : List ℕ). In x c) g.conditions m; more = g.outputs }

-- the placed rows against the old ones and the row taken
pub placed : (t : Row) (es : List Entry) (ks : List Examined) (e : Entry) → Grown t es ks e.row
    → Alike (rows_e (place e ks)) (t ∷ rows_e es)
placed t es ks e g = record {
  there = covers-cons taken (record { at = old });
  back = covers-trans (covers-cons {B = rows_m ks} g.from (covers-sub (λ r m. inr (subst (λ (l : List Row). In r l) g.rows m))))
      (covers-sub (place_in e ks));
}
  where
    taken : Cov (rows_e (place e ks)) t
    taken = dom-cov {s = t} (place-has e ks) (grown-dom g)

    pick : (s : Row) → In s (rows_e (place e ks)) ⊎ Dom e.row s → Cov (rows_e (place e ks)) s
    pick s (inl m) = (covers-refl (rows_e (place e ks))).at s m
    pick s (inr d) = dom-cov (place-has e ks) d

    old : (s : Row) → In s (rows_e es) → Cov (rows_e (place e ks)) s
    old s m = pick s (place-keeps e.row e ks g.gone s (subst (λ (l : List Row). In s l) (sym g.rows) m))

-- what a verdict promises
abbrev pub PlacementOk : Row → List Entry → Placement → Type 0
PlacementOk t es (subsumed n) = Cov (rows_e es) t
PlacementOk t es protected = Unit {0}
PlacementOk t es (placing ks p) = Grown t es ks p
PlacementOk t es (evicting v p) = Cov (t ∷ rows_e es) p × Dom p t

judge-ok-step : (t : Row) (es : List Entry) (ks : List Examined) (p : Row) (a : Bool) (v : Option ℕ) → Grown t es ks p
    → PlacementOk t es (elim a [ true ↦ placing ks p | false ↦ elim v [ none ↦ protected | some x ↦ evicting x p ] ])
judge-ok-step t es ks p true v g = g
judge-ok-step t es ks p false none g = tt
judge-ok-step t es ks p false (some x) g = (g.from, grown-dom g)

settle-pass-ok : (l : LearningLimits) (t : Row) (es : List Entry) (x : Pass) → PassOk t es x → PlacementOk t es (placement_after l es x)
unfolding placement_after placement_by
settle-pass-ok l t es (found n) h = h
settle-pass-ok l t es (passed ks p) h =
    judge-ok-step t es (second_pass p ks) p (any_replaced (second_pass p ks) || ltb (length es) l.tier_rows)
    (victim l es) (record {
      conditions = h.conditions;
      outputs = h.outputs;
      from = h.from;
      rows = sweep-rows p ks ∙ h.rows;
      gone = sweep-gone p ks h.gone;
    })

pub placement-ok : (l : LearningLimits) (m : ℕ) (t : Row) (es : List Entry) → PlacementOk t es (placement l m t es)
unfolding placement
placement-ok l m t es = settle-pass-ok l t es (first_pass m t es) (pass-ok m t es)

pub halve-rows : (es : List Entry) → rows_e (halved es) ≡ rows_e es
unfolding halved with_hits
halve-rows [] = refl
halve-rows (e ∷ es) = ap (λ (l : List Row). e.row ∷ l) (halve-rows es)

pub settle-rows : (h : Header) (es : List Entry) (n : ℕ) → rows_e (settle h es n).entries ≡ rows_e es
unfolding settle
settle-rows h es n = go (leb h.limits.tier_rows (suc h.epoch))
  where
    go : (b : Bool)
        → rows_e
        (elim b as (λ k. Ledger) [
          | true ↦ record { header = with_added h 0 n; entries = halved es }
          | false ↦ record { header = with_added h (suc h.epoch) n; entries = es }
        ]).entries ≡ rows_e es
    go true = halve-rows es
    go false = refl

-- a retention that evicts nothing: what is held after is what was held, with what was taken
abbrev pub RetainedOk : Ledger → Retention → Type 0
RetainedOk l d = T (not d.evicts) → Alike (rows_e d.ledger.entries) (d.took ++ rows_e l.entries)

carry-ok : (l : Ledger) (t : Row) (h : ℕ) (s : Source) (a : Account) (m : Meter) (v : Placement) → PlacementOk t l.entries v
    → RetainedOk l (carry_out l t h s a m v)
unfolding carry_out untaken newborn
carry-ok l t h s a m (subsumed p) c = λ e. record
    { there = covers-cons c (covers-refl (rows_e l.entries)); back = covers-sub (λ r i. inr i) }
carry-ok l t h s a m protected c = λ e. alike_refl (rows_e l.entries)
carry-ok l t h s a m (placing ks p) c = λ e. rw settle-rows (placed t l.entries ks _ c)
carry-ok l t h s a m (evicting v p) c = λ e. absurd e

pub retained-ok : (l : Ledger) (m h : ℕ) (s : Source) (t : Row) (r : Read) → RetainedOk l (retained l m h s t r)
unfolding retained untaken
retained-ok l m h s t (Paid a k) =
    carry-ok l t h s a k (placement l.header.limits m t l.entries) (placement-ok l.header.limits m t l.entries)
retained-ok l m h s t (Declined a k) = λ e. alike_refl (rows_e l.entries)
retained-ok l m h s t (Stopped a k) = λ e. alike_refl (rows_e l.entries)

pub retain-ok : (l : Ledger) (m h : ℕ) (s : Source) (t : Row) (r : Read) → RetainedOk l (retain l m h s t r)
unfolding retain
retain-ok l m h s t r = retained-ok l m h s t (and_then r (pay (retain_reads l.header.limits m t l.entries)))
