-- What a verdict places: the rows that were there and one more, as many as the tier has room for. Assumes nothing.
use mathlib.Core.Path.{◌≡◌, refl, sym, ap, ◌∙◌, subst}
use mathlib.Core.Bool.{Bool, true, false, ◌||◌, false≢true}
use mathlib.Core.List.{List, [], ◌∷◌, map}
use mathlib.Core.Option.{Option, none, some}
use Prim.Native.Nat.{ℕ, zero, suc, ◌≤◌}
use native.Mathlib.Omega.{arith}
use lib.Dec.{ltb}
use lib.ListN.{length, set, length-map}
use borrow.Author.Tests.{ltb-true}
use Rattle.lists.specs.Lists.{all}
use Rattle.lists.proofs.Bools.{and_both, and_yes}
use Rattle.model.specs.declared.LearningLimits.{LearningLimits}
use Rattle.model.specs.Records.{Row, Entry}
use Rattle.model.specs.Rows.{subsumes}
use Rattle.model.specs.Union.{joins, grown}
use Rattle.model.specs.Retention.{Examined, Pass, found, passed, noted, first_pass, second_pass, any_replaced, kept, place, placement_by}
use Rattle.model.specs.Retention.{placement_after, placement, Placement, subsumed, protected, placing, evicting, victim}

abbrev entries_of : List Examined → List Entry
entries_of ks = map (λ k. k.entry) ks

-- ---- the passes keep the entries
abbrev PassHas : List Entry → Pass → Type 0
PassHas es (found n) = Unit {0}
PassHas es (passed ks p) = entries_of ks ≡ es

noted-has : (b : Bool) (e : Entry) (es : List Entry) (x : Pass) → PassHas es x → PassHas (e ∷ es) (noted b e x)
unfolding noted
noted-has b e es (found n) h = tt
noted-has b e es (passed ks p) h = ap (λ (xs : List Entry). e ∷ xs) h

pass-has : (m : ℕ) (p : Row) (es : List Entry) → PassHas es (first_pass m p es)
unfolding first_pass
pass-has m p [] = refl
pass-has m p (e ∷ es) = go (subsumes e.row p) (joins m e.row p) (pass-has m (grown e.row p) es) (pass-has m p es)
  where
    go : (b c : Bool) → PassHas es (first_pass m (grown e.row p) es) → PassHas es (first_pass m p es)
        → PassHas (e ∷ es) (elim b [
          | true ↦ found 0
          | false ↦ elim c [
            | true ↦ noted true e (first_pass m (grown e.row p) es)
            | false ↦ noted false e (first_pass m p es)
          ]
        ])
    go true c f h = tt
    go false true f h = noted-has true e es (first_pass m (grown e.row p) es) f
    go false false f h = noted-has false e es (first_pass m p es) h

second-has : (p : Row) (ks : List Examined) → entries_of (second_pass p ks) ≡ entries_of ks
unfolding second_pass
second-has p [] = refl
second-has p (k ∷ ks) = ap (λ (xs : List Entry). k.entry ∷ xs) (second-has p ks)

-- ---- a verdict
abbrev pub PlacementHas : LearningLimits → List Entry → Placement → Type 0
PlacementHas l es (subsumed n) = Unit {0}
PlacementHas l es protected = Unit {0}
PlacementHas l es (placing ks p) = (entries_of ks ≡ es) × (any_replaced ks || ltb (length es) l.tier_rows) ≡ true
PlacementHas l es (evicting v p) = Unit {0}

judge-has : (l : LearningLimits) (es : List Entry) (ks : List Examined) (p : Row) (b : Bool) (x : Option ℕ)
    → (any_replaced ks || ltb (length es) l.tier_rows) ≡ b → entries_of ks ≡ es
    → PlacementHas l es (elim b [ true ↦ placing ks p | false ↦ elim x [ none ↦ protected | some v ↦ evicting v p ] ])
judge-has l es ks p true x e h = (h, e)
judge-has l es ks p false none e h = tt
judge-has l es ks p false (some v) e h = tt

placement_after-has : (l : LearningLimits) (es : List Entry) (x : Pass) → PassHas es x → PlacementHas l es (placement_after l es x)
unfolding placement_after placement_by
placement_after-has l es (found n) h = tt
placement_after-has l es (passed ks p) h =
    judge-has l es (second_pass p ks) p (any_replaced (second_pass p ks) || ltb (length es) l.tier_rows)
    (victim l es) refl (second-has p ks ∙ h)

pub placement-has : (l : LearningLimits) (m : ℕ) (t : Row) (es : List Entry) → PlacementHas l es (placement l m t es)
unfolding placement
placement-has l m t es = placement_after-has l es (first_pass m t es) (pass-has m t es)

-- ---- placed: as many as there were, or one more where nothing is replaced
kept-length : (ks : List Examined) → length (kept ks) ≤ length ks
unfolding kept
kept-length [] = omega arith
kept-length (k ∷ ks) = go k.replaced (kept-length ks)
  where
    go : (b : Bool) → length (kept ks) ≤ length ks
        → length {A = Entry} (elim b as (λ x. List Entry) [ true ↦ kept ks | false ↦ k.entry ∷ kept ks ]) ≤ suc (length ks)
    go true h = omega arith
    go false h = omega arith

place-more : (e : Entry) (ks : List Examined) → length (place e ks) ≤ suc (length ks)
unfolding place
place-more e [] = omega arith
place-more e (k ∷ ks) = go k.replaced (place-more e ks) (kept-length ks)
  where
    go : (b : Bool) → length (place e ks) ≤ suc (length ks) → length (kept ks) ≤ length ks →
        length {A = Entry} (elim b as (λ x. List Entry) [ true ↦ e ∷ kept ks | false ↦ k.entry ∷ place e ks ]) ≤ suc (suc (length ks))
    go true h j = omega arith
    go false h j = omega arith

place_same : (e : Entry) (ks : List Examined) → any_replaced ks ≡ true → length (place e ks) ≤ length ks
unfolding place any_replaced
place_same e [] h = absurd (false≢true h)
place_same e (k ∷ ks) h = go k.replaced h (place_same e ks) (kept-length ks)
  where
    go : (b : Bool) → (b || any_replaced ks) ≡ true → (any_replaced ks ≡ true → length (place e ks) ≤ length ks)
        → length (kept ks) ≤ length ks →
        length {A = Entry} (elim b as (λ x. List Entry) [ true ↦ e ∷ kept ks | false ↦ k.entry ∷ place e ks ]) ≤ suc (length ks)
    go true q f j = omega arith
    go false q f j = let i = f q in omega arith

pub place-fits : (tier : ℕ) (e : Entry) (es : List Entry) (ks : List Examined) → entries_of ks ≡ es
    → (any_replaced ks || ltb (length es) tier) ≡ true → length es ≤ tier → length (place e ks) ≤ tier
place-fits tier e es ks h b l = go (any_replaced ks) refl b
  where
    many : length es ≡ length ks
    many = ap length (sym h) ∙ length-map ks (λ k. k.entry)

    go : (a : Bool) → any_replaced ks ≡ a → (a || ltb (length es) tier) ≡ true → length (place e ks) ≤ tier
    go true q r = let s = place_same e ks q in let n = many in omega arith
    go false q r = let s = place-more e ks in let n = many in let i = ltb-true (length es) tier r in omega arith

-- ---- a test of every entry
module _ (f : Entry → Bool) where
  kept-all : (ks : List Examined) → all f (entries_of ks) ≡ true → all f (kept ks) ≡ true
  unfolding kept all
  kept-all [] h = refl
  kept-all (k ∷ ks) h = let s = and_both (f k.entry) _ h in go k.replaced s.0 (kept-all ks s.1)
    where
      go : (b : Bool) → f k.entry ≡ true → all f (kept ks) ≡ true
          → all f (elim b as (λ x. List Entry) [ true ↦ kept ks | false ↦ k.entry ∷ kept ks ]) ≡ true
      go true x y = y
      go false x y = and_yes (f k.entry) _ x y

  place-all : (e : Entry) (ks : List Examined) → f e ≡ true → all f (entries_of ks) ≡ true → all f (place e ks) ≡ true
  unfolding place all
  place-all e [] g h = and_yes (f e) true g refl
  place-all e (k ∷ ks) g h = let s = and_both (f k.entry) _ h in go k.replaced s.0 (kept-all ks s.1) (place-all e ks g s.1)
    where
      go : (b : Bool) → f k.entry ≡ true → all f (kept ks) ≡ true → all f (place e ks) ≡ true
          → all f (elim b as (λ x. List Entry) [ true ↦ e ∷ kept ks | false ↦ k.entry ∷ place e ks ]) ≡ true
      go true x y z = and_yes (f e) _ g y
      go false x y z = and_yes (f k.entry) _ x z

  pub placed-all : (e : Entry) (es : List Entry) (ks : List Examined) → entries_of ks ≡ es → f e ≡ true → all f es ≡ true
      → all f (place e ks) ≡ true
  placed-all e es ks q g h = place-all e ks g (subst (λ (xs : List Entry). all f xs ≡ true) (sym q) h)

  pub set_all : (v : ℕ) (e : Entry) (es : List Entry) → f e ≡ true → all f es ≡ true → all f (set es v e) ≡ true
  unfolding all
  set_all v e [] g h = refl
  set_all zero e (x ∷ es) g h = and_yes (f e) _ g (and_both (f x) _ h).1
  set_all (suc v) e (x ∷ es) g h = let s = and_both (f x) _ h in and_yes (f x) _ s.0 (set_all v e es g s.1)
