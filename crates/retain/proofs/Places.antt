-- The place of a new row, by the positions that are marked. Assumes nothing.
use mathlib.Core.Path.{◌≡◌, refl, sym, ap, ap₂, ◌∙◌}
use mathlib.Core.Bool.{Bool, true, false, ◌||◌}
use mathlib.Core.List.{List, [], ◌∷◌}
use mathlib.Core.Option as maybe
use mathlib.Core.Option.{none, some}
use Rattle.std.specs.Prelude.{Option, Some, None}
use Prim.Native.Nat.{ℕ, suc, ◌+◌, ◌-◌, ◌≤◌, ◌<◌}
use native.Mathlib.Nat.{add-zero, zero-add, add-suc, suc-add}
use native.Mathlib.Omega.{arith}
use lib.Dec.{ltb, leb}
use borrow.Author.Tests.{lt-ltb, le-ltb}
use lib.ListN.{length}
use Rattle.lists.specs.Lists.{select, range, first}
use Rattle.words.specs.Region.{has, next_from}
use Rattle.model.specs.declared.LearningLimits.{LearningLimits}
use Rattle.model.specs.Records.{Entry, founded_rows}
use Rattle.model.specs.Retention.{Examined, any_replaced, place_of, protects, victim_among, victim}
use Rattle.retain_compare.specs.Passes.{examined_by}
use Rattle.retain.specs.declared.Room.{Room}
use Rattle.retain.specs.declared.Room.TheVariants.{After, First, Victim}
use Rattle.retain.specs.Places.{room_of}

-- ---- the first position that is marked
abbrev sought : Bool → ℕ → maybe.Option ℕ
sought true n = some n
sought false n = none

next-from : (f : ℕ → Bool) (i : ℕ) (es : List Entry)
    → first (select f (range i (length es))) ≡ sought (any_replaced (examined_by f i es)) (i + place_of (examined_by f i es))
unfolding first select range any_replaced examined_by place_of
next-from f i [] = refl
next-from f i (e ∷ es) = go (f i) (next-from f (suc i) es)
  where
    ks : List Examined
    ks = examined_by f (suc i) es

    xs : List ℕ
    xs = select f (range (suc i) (length es))

    go : (b : Bool) → first xs ≡ sought (any_replaced ks) (suc i + place_of ks)
        → first {A = ℕ} (elim b as (λ k. List ℕ) [ true ↦ i ∷ xs | false ↦ xs ])
        ≡ sought (b || any_replaced ks) (i + (elim b as (λ k. ℕ) [ true ↦ 0 | false ↦ suc (place_of ks) ]))
    go true h = ap some (sym (add-zero i))
    go false h = h ∙ ap (sought (any_replaced ks)) (suc-add i (place_of ks) ∙ sym (add-suc i (place_of ks)))

module _ (ws : List ℕ) (es : List Entry) where
  abbrev ks : List Examined
  ks = examined_by (has ws) 0 es

  next-is : (rows : ℕ) → length es ≡ rows → next_from rows ws 0 ≡ sought (any_replaced ks) (place_of ks)
  unfolding next_from
  next-is rows e =
      let n : rows - 0 ≡ length es = omega arith in
      ap (λ (k : ℕ). first (select (has ws) (range 0 k))) n ∙ next-from (has ws) 0 es
      ∙ ap (sought (any_replaced ks)) (zero-add (place_of ks))

  next-some : (rows t : ℕ) → length es ≡ rows → some t ≡ next_from rows ws 0 → (any_replaced ks ≡ true) × (t ≡ place_of ks)
  next-some rows t e q = go (any_replaced ks) (q ∙ next-is rows e)
    where
      go : (b : Bool) → some t ≡ sought b (place_of ks) → (b ≡ true) × (t ≡ place_of ks)
      go true h = (refl, cc)
      go false h = let z : ◌≡◌ {A = ℕ} 0 1 = cc in absurd (omega arith)

  next-none : (rows : ℕ) → length es ≡ rows → none ≡ next_from rows ws 0 → any_replaced ks ≡ false
  next-none rows e q = go (any_replaced ks) (q ∙ next-is rows e)
    where
      go : (b : Bool) → none ≡ sought b (place_of ks) → b ≡ false
      go true h = let z : ◌≡◌ {A = ℕ} 0 1 = cc in absurd (omega arith)
      go false h = refl

  -- ---- the room by its tests
  abbrev tests : Bool → Bool → maybe.Option ℕ → Option Room
  tests a b x =
      elim a as (λ k. Option Room) [
        | true ↦ Some (First (place_of ks))
        | false ↦ elim b as (λ k. Option Room) [
          | true ↦ Some After
          | false ↦ elim x as (λ k. Option Room) [ none ↦ None | some v ↦ Some (Victim v) ]
        ]
      ]

  module _ (l : LearningLimits) (rows : ℕ) (e : length es ≡ rows) where
    tested : {a b : Bool} {x : maybe.Option ℕ} → any_replaced ks ≡ a → ltb (length es) l.tier_rows ≡ b → victim l es ≡ x
        → tests a b x ≡ room_of l es ks
    unfolding room_of
    tested {a} {b} p q s = ap (tests a b) (sym s) ∙ ap₂ (λ (x y : Bool). tests x y (victim l es)) (sym p) (sym q)

    pub room-first : (t : ℕ) → some t ≡ next_from rows ws 0 → Some (First t) ≡ room_of l es ks
    room-first t q = let a = next-some rows t e q in ap (λ (n : ℕ). Some (First n)) a.1 ∙ tested a.0 refl refl

    module _ (q : none ≡ next_from rows ws 0) where
      pub room_after : rows < l.tier_rows → Some After ≡ room_of l es ks
      room_after h = tested (next-none rows e q) (lt-ltb (length es) l.tier_rows (omega arith)) refl

      -- the tier is full: the victim, if there is one
      pub room-full : l.tier_rows ≤ rows → (founded : ℕ) → founded ≡ founded_rows es
          → (x : maybe.Option ℕ) → x ≡ victim_among (leb founded l.founded_floor) es → tests false false x ≡ room_of l es ks
      unfolding victim protects
      room-full h founded c x w =
          tested (next-none rows e q) (le-ltb (length es) l.tier_rows (omega arith))
          (sym (w ∙ ap (λ (n : ℕ). victim_among (leb n l.founded_floor) es) c))
