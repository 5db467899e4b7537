-- What each kind of place says of the rows that are marked, of the verdict and of the rows after it. Assumes nothing.
use mathlib.Core.Path.{◌≡◌, refl, sym, ap, ◌∙◌, subst}
use mathlib.Core.Bool.{Bool, true, false, ◌||◌, true≢false, false≢true}
use mathlib.Core.List.{List, [], ◌∷◌, ◌++◌}
use mathlib.Core.Option as maybe
use mathlib.Core.Option.{none, some}
use Rattle.std.specs.Prelude.{Option, Some, None}
use Prim.Native.Nat.{ℕ, suc, ◌+◌, ◌<◌}
use native.Mathlib.Nat.{add-zero, zero-add, add-suc, suc-add}
use native.Mathlib.Numerals.{add-one}
use native.Mathlib.Omega.{arith}
use lib.Dec.{ltb}
use lib.ListN.{length, set, take, drop}
use borrow.Author.Tests.{ltb-true}
use Rattle.model.specs.declared.LearningLimits.{LearningLimits}
use Rattle.model.specs.Records.{Row, Entry}
use Rattle.model.specs.Rows.{prepare_reads}
use Rattle.model.specs.Retention.{Examined, Placement, placing, protected, evicting, any_replaced, kept, place, place_of, place_reads}
use Rattle.model.specs.Retention.{placement_by}
use Rattle.model.specs.Retention.{victim}
use Rattle.model.proofs.Entries.{victim-held}
use Rattle.tier.specs.Tier.{kept_by, closed_up}
use Rattle.retain_compare.specs.Passes.{examined_by}
use Rattle.retain.specs.declared.Room.{Room}
use Rattle.retain.specs.declared.Room.TheVariants.{After, First, Victim}
use Rattle.retain.specs.Places.{room_of, verdict_of, verdict_or, room_reads, placed_by, Fits}

-- ---- the place decides the verdict
pub placement_by-room : (l : LearningLimits) (es : List Entry) (ks : List Examined) (p : Row)
    → placement_by l es ks p ≡ verdict_or (room_of l es ks) ks p
unfolding placement_by room_of
placement_by-room l es ks p = go (any_replaced ks) (ltb (length es) l.tier_rows) (victim l es)
  where
    go : (a b : Bool) (x : maybe.Option ℕ)
        → (elim (a || b) as (λ k. Placement) [
          | true ↦ placing ks p
          | false ↦ elim x as (λ k. Placement) [ none ↦ protected | some v ↦ evicting v p ]
        ])
        ≡ verdict_or (elim a as (λ k. Option Room) [
          | true ↦ Some (First (place_of ks))
          | false ↦ elim b as (λ k. Option Room) [
            | true ↦ Some After
            | false ↦ elim x as (λ k. Option Room) [ none ↦ None | some v ↦ Some (Victim v) ]
          ]
        ]) ks p
    go true b x = refl
    go false true x = refl
    go false false none = refl
    go false false (some v) = refl

-- ---- what it tells
abbrev pub Told : LearningLimits → List Entry → List Examined → Room → Type 0
Told l es ks After = (any_replaced ks ≡ false) × (length es < l.tier_rows)
Told l es ks (First t) = (any_replaced ks ≡ true) × (t ≡ place_of ks)
Told l es ks (Victim v) = victim l es ≡ some v

abbrev ToldOr : LearningLimits → List Entry → List Examined → Option Room → Type 0
ToldOr l es ks None = Unit {0}
ToldOr l es ks (Some r) = Told l es ks r

pub room-told : (l : LearningLimits) (es : List Entry) (ks : List Examined) {r : Room} → Some r ≡ room_of l es ks → Told l es ks r
unfolding room_of
room-told l es ks {r} e =
    subst (ToldOr l es ks) (sym e) (go (any_replaced ks) (ltb (length es) l.tier_rows) (victim l es) refl refl refl)
  where
    go : (a b : Bool) (x : maybe.Option ℕ) → any_replaced ks ≡ a → ltb (length es) l.tier_rows ≡ b → victim l es ≡ x
        → ToldOr l es ks (elim a as (λ k. Option Room) [
          | true ↦ Some (First (place_of ks))
          | false ↦ elim b as (λ k. Option Room) [
            | true ↦ Some After
            | false ↦ elim x as (λ k. Option Room) [ none ↦ None | some v ↦ Some (Victim v) ]
          ]
        ])
    go true b x p q r = (p, refl)
    go false true x p q r = (p, ltb-true (length es) l.tier_rows q)
    go false false none p q r = tt
    go false false (some v) p q r = r

-- ---- the place is there
first-inside : (f : ℕ → Bool) (i : ℕ) (es : List Entry) → any_replaced (examined_by f i es) ≡ true → place_of (examined_by f i es) < length es
unfolding any_replaced examined_by place_of
first-inside f i [] e = absurd (false≢true e)
first-inside f i (x ∷ es) e = go (f i) e (first-inside f (suc i) es)
  where
    go : (b : Bool) → (b || any_replaced (examined_by f (suc i) es)) ≡ true
        → (any_replaced (examined_by f (suc i) es) ≡ true → place_of (examined_by f (suc i) es) < length es)
        → (elim b as (λ k. ℕ) [ true ↦ 0 | false ↦ suc (place_of (examined_by f (suc i) es)) ]) < suc (length es)
    go true e h = omega arith
    go false e h = let k = h e in omega arith

pub room_fits : (l : LearningLimits) (f : ℕ → Bool) (es : List Entry) (r : Room) → Told l es (examined_by f 0 es) r
    → Fits r (length es) l.tier_rows
room_fits l f es After t = t.1
room_fits l f es (First t) k = subst (λ (n : ℕ). n < length es) (sym k.1) (first-inside f 0 es k.0)
room_fits l f es (Victim v) k = victim-held l es v k

-- ---- the rows after it
kept_by_lem : (f : ℕ → Bool) (i : ℕ) (es : List Entry) → kept (examined_by f i es) ≡ kept_by f i es
unfolding kept examined_by kept_by
kept_by_lem f i [] = refl
kept_by_lem f i (e ∷ es) = go (f i) (kept_by_lem f (suc i) es)
  where
    go : (b : Bool) → kept (examined_by f (suc i) es) ≡ kept_by f (suc i) es
        → ◌≡◌ {A = List Entry} (elim b as (λ k. List Entry) [
          | true ↦ kept (examined_by f (suc i) es)
          | false ↦ e ∷ kept (examined_by f (suc i) es)
        ])
        (elim b as (λ k. List Entry) [ true ↦ kept_by f (suc i) es | false ↦ e ∷ kept_by f (suc i) es ])
    go true h = h
    go false h = ap (λ (l : List Entry). e ∷ l) h

none-marked : (f : ℕ → Bool) (i : ℕ) (es : List Entry) (e : Entry) → any_replaced (examined_by f i es) ≡ false
    → (place e (examined_by f i es) ≡ es ++ (e ∷ [])) × (place_of (examined_by f i es) ≡ length es)
unfolding any_replaced examined_by place place_of
none-marked f i [] e h = (refl, refl)
none-marked f i (x ∷ es) e h = go (f i) h (none-marked f (suc i) es e)
  where
    ks : List Examined
    ks = examined_by f (suc i) es

    go : (b : Bool) → (b || any_replaced ks) ≡ false → (any_replaced ks ≡ false → (place e ks ≡ es ++ (e ∷ [])) × (place_of ks ≡ length es))
        → ((elim b as (λ k. List Entry) [ true ↦ e ∷ kept ks | false ↦ x ∷ place e ks ]) ≡ x ∷ (es ++ (e ∷ [])))
        × ((elim b as (λ k. ℕ) [ true ↦ 0 | false ↦ suc (place_of ks) ]) ≡ suc (length es))
    go true h k = absurd (true≢false h)
    go false h k = let a = k h in (ap (λ (l : List Entry). x ∷ l) a.0, ap suc a.1)

some-marked : (f : ℕ → Bool) (i : ℕ) (es : List Entry) (e : Entry) → any_replaced (examined_by f i es) ≡ true
    → let t : ℕ = place_of (examined_by f i es) in
    place e (examined_by f i es) ≡ take (suc t) (set es t e) ++ kept_by f (i + suc t) (drop (suc t) (set es t e))
unfolding any_replaced examined_by place place_of
some-marked f i [] e h = absurd (false≢true h)
some-marked f i (x ∷ es) e h = go (f i) h (some-marked f (suc i) es e)
  where
    ks : List Examined
    ks = examined_by f (suc i) es

    t : ℕ
    t = place_of ks

    go : (b : Bool) → (b || any_replaced ks) ≡ true
        → (any_replaced ks ≡ true → place e ks ≡ take (suc t) (set es t e) ++ kept_by f (suc i + suc t) (drop (suc t) (set es t e)))
        → (elim b as (λ k. List Entry) [ true ↦ e ∷ kept ks | false ↦ x ∷ place e ks ])
        ≡ take (suc (elim b as (λ k. ℕ) [ true ↦ 0 | false ↦ suc t ])) (set (x ∷ es) (elim b as (λ k. ℕ) [ true ↦ 0 | false ↦ suc t ]) e)
        ++ kept_by f (i + suc (elim b as (λ k. ℕ) [ true ↦ 0 | false ↦ suc t ]))
        (drop (suc (elim b as (λ k. ℕ) [ true ↦ 0 | false ↦ suc t ])) (set (x ∷ es) (elim b as (λ k. ℕ) [ true ↦ 0 | false ↦ suc t ]) e))
    go true h k =
        ap (λ (l : List Entry). e ∷ l)
        (kept_by_lem f (suc i) es ∙ ap (λ (n : ℕ). kept_by f n es) (ap suc (sym (add-zero i)) ∙ sym (add-suc i 0)))
    go false h k =
        ap (λ (l : List Entry). x ∷ l)
        (k h
        ∙ ap (λ (n : ℕ). take (suc t) (set es t e) ++ kept_by f n (drop (suc t) (set es t e))) (suc-add i (suc t) ∙ sym (add-suc i (suc t))))

-- a place that is no victim's: the rows, the position and the reads of the definition
module _ (f : ℕ → Bool) (es : List Entry) (e : Entry) where
  abbrev ks : List Examined
  ks = examined_by f 0 es

  pub placed-after : any_replaced ks ≡ false → (place e ks ≡ placed_by After f es e) × (place_of ks ≡ length es)
  placed-after h = none-marked f 0 es e h

  pub placed_first : (t : ℕ) → any_replaced ks ≡ true → t ≡ place_of ks → place e ks ≡ placed_by (First t) f es e
  unfolding closed_up
  placed_first t h q =
      some-marked f 0 es e h
      ∙ ap (λ (n : ℕ). take (suc n) (set es n e) ++ kept_by f (0 + suc n) (drop (suc n) (set es n e))) (sym q)
      ∙ ap (λ (n : ℕ). take (suc t) (set es t e) ++ kept_by f n (drop (suc t) (set es t e))) (zero-add (suc t))
      ∙ ap (λ (n : ℕ). take n (set es t e) ++ kept_by f n (drop n (set es t e))) (sym (add-one t))

pub place-reads : (l : LearningLimits) (es : List Entry) (ks : List Examined) (p : Row) (r : Room) → Told l es ks r
    → place_reads es (verdict_of r ks p) ≡ prepare_reads p + room_reads r (length es)
unfolding place_reads
place-reads l es _ p After t = ap (λ (b : Bool). prepare_reads p + (elim b as (λ k. ℕ) [ true ↦ length es | false ↦ 0 ])) t.0
place-reads l es _ p (First i) t = ap (λ (b : Bool). prepare_reads p + (elim b as (λ k. ℕ) [ true ↦ length es | false ↦ 0 ])) t.0
place-reads l es _ p (Victim v) t = refl
