-- The laws of `lower_bound`, `mark_all` and `marked`. The chief one, `marked-positions`: the positions marked in a zeroed list are
-- the distinct ones, ascending. Assumes nothing.
use mathlib.Core.Bool.{Bool, true, false}
use mathlib.Core.List.{List, [], ◌∷◌, ◌++◌}
use mathlib.Core.Logic.{◌⊎◌, inl, inr}
use mathlib.Core.Path.{◌≡◌, refl, sym, ap, ◌∙◌}
use Prim.Native.Nat.{ℕ, zero, suc, ◌+◌, ◌≤◌, ◌<◌, min}
use native.Mathlib.Omega.{arith}
use lib.Dec.{ltb}
use lib.ListN.{length, get_or, set, take, drop, length-set, length-take, take-append-drop, get_or-eq_default}
use lib.Seq.{get_or-set_same, get_or-set_other, get_or-take}
use borrow.Author.Tests.{eq-eqb, ne_eqb, lt-ltb, le-ltb}
use Rattle.lists.specs.Counts.{is, times, Each, Sorted}
use Rattle.lists.specs.Lists.{select, range, up_to, sort_of, distinct, zeroed}
use Rattle.lists.specs.Marks.{lower_bound, mark_all, is_marked, marked}
use Rattle.lists.proofs.Counts.{same_or, lt-or-ge, is-equal, is-other, times-at, times-select-yes, times-select-no, each_none}
use Rattle.lists.proofs.Pads.{get_or-zeroed, length-zeroed}
use Rattle.lists.proofs.Selects.{select_yes, select_no, select-append, select-none, select-nothing, each-select, select_short}
use Rattle.lists.proofs.Selects.{range-from}
use Rattle.lists.proofs.Sorts.{Once, distinct-sorted, sorted-unique, sorted_after, sort-perm, sort_sorted}

-- ---- selections and runs of numbers ascend
pub sorted-select : (f : ℕ → Bool) (xs : List ℕ) → Sorted xs → Sorted (select f xs)
unfolding select
sorted-select f [] a = tt
sorted-select f (x ∷ xs) a = go (f x) (sorted-select f xs a.1)
  where
    go : (b : Bool) → Sorted (select f xs) →
        Sorted (elim b as (λ k. List ℕ) [ true ↦ x ∷ select f xs | false ↦ select f xs ])
    go true s = (each-select (λ v. x ≤ v) f xs a.0, s)
    go false s = s

pub sorted-range : (i n : ℕ) → Sorted (range i n)
unfolding range
sorted-range i zero = tt
sorted-range i (suc n) = ((λ v h. let k = range-from (suc i) n v h in omega arith), sorted-range (suc i) n)

pub times-range : (v i n : ℕ) → i ≤ v → v < i + n → times v (range i n) ≡ 1
unfolding range
times-range v i zero l h = absurd (omega arith)
times-range v i (suc n) l h = go (same_or v i) (times-range v (suc i) n)
  where
    go : (v ≡ i) ⊎ (v ≡ i → ⊥) → (suc i ≤ v → v < suc i + n → times v (range (suc i) n) ≡ 1) →
        is v i + times v (range (suc i) n) ≡ 1
    go (inl e) ih =
        let z : times v (range (suc i) n)
        ≡ 0 = each_none (λ u. (suc i ≤ u) × (u < suc i + n)) v (range (suc i) n) (range-from (suc i) n) (λ k. omega arith) in
        omega (arith, is-equal v i e)
    go (inr m) ih = omega (arith, is-other v i m, ih (omega (arith, m)) (omega arith))

-- ---- `lower_bound`
pub lower-le : (b : ℕ) (xs : List ℕ) → lower_bound b xs ≤ length xs
unfolding lower_bound
lower-le b xs = select_short (λ x. ltb x b) xs

lower-low : (b x : ℕ) (xs : List ℕ) → x < b → lower_bound b (x ∷ xs) ≡ suc (lower_bound b xs)
unfolding lower_bound
lower-low b x xs l = ap length (select_yes (λ y. ltb y b) x xs (lt-ltb x b l))

lower_high : (b x : ℕ) (xs : List ℕ) → b ≤ x → lower_bound b (x ∷ xs) ≡ lower_bound b xs
unfolding lower_bound
lower_high b x xs l = ap length (select_no (λ y. ltb y b) x xs (le-ltb x b l))

-- the position with lower numbers before it and others from it on
pub lower-at : (b : ℕ) (xs : List ℕ) (r : ℕ) → r ≤ length xs → ((k : ℕ) → k < r → get_or xs k 0 < b) →
    ((k : ℕ) → r ≤ k → k < length xs → b ≤ get_or xs k 0) → r ≡ lower_bound b xs
unfolding lower_bound select
lower-at b [] r l lo hi = omega arith
lower-at b (x ∷ xs) zero l lo hi =
    lower-at b xs zero (omega arith) (λ k h. absurd (omega arith)) (λ k h h'. hi (suc k) (omega arith) (omega arith))
    ∙ sym (lower_high b x xs (hi 0 (omega arith) (omega arith)))
lower-at b (x ∷ xs) (suc r) l lo hi =
    ap suc (lower-at b xs r (omega arith) (λ k h. lo (suc k) (omega arith)) (λ k h h'. hi (suc k) (omega arith) (omega arith)))
    ∙ sym (lower-low b x xs (lo 0 (omega arith)))

-- in an ascending list it is that position
pub record Lower (b : ℕ) (xs : List ℕ) (r : ℕ) : Type 0 where
  pub before : (k : ℕ) → k < r → get_or xs k 0 < b
  pub after : (k : ℕ) → r ≤ k → k < length xs → b ≤ get_or xs k 0

pub lower_of : (b : ℕ) (xs : List ℕ) → Sorted xs → Lower b xs (lower_bound b xs)
unfolding lower_bound select
lower_of b [] a = record { before = λ k h. absurd (omega arith); after = λ k h l. absurd (omega arith) }
lower_of b (x ∷ xs) a = go (lt-or-ge x b) (lower_of b xs a.1)
  where
    low : Lower b xs (lower_bound b xs) → x < b → Lower b (x ∷ xs) (suc (lower_bound b xs))
    low ih l = record { before = before; after = after }
      where
        before : (k : ℕ) → k < suc (lower_bound b xs) → get_or (x ∷ xs) k 0 < b
        before zero h = l
        before (suc k) h = ih.before k (omega arith)

        after : (k : ℕ) → suc (lower_bound b xs) ≤ k → k < suc (length xs) → b ≤ get_or (x ∷ xs) k 0
        after zero h m = absurd (omega arith)
        after (suc k) h m = ih.after k (omega arith) (omega arith)

    high : Lower b xs (lower_bound b xs) → b ≤ x → Lower b (x ∷ xs) (lower_bound b xs)
    high ih l = record { before = λ k h. none k (ih.before k h) (omega (arith, lower-le b xs)); after = λ k h m. after k m }
      where
        none : (k : ℕ) → get_or xs k 0 < b → k < length xs → get_or (x ∷ xs) k 0 < b
        none k h m = absurd (omega (arith, a.0 (get_or xs k 0) (times-at xs k m)))

        after : (k : ℕ) → k < suc (length xs) → b ≤ get_or (x ∷ xs) k 0
        after zero m = l
        after (suc k) m = omega (arith, a.0 (get_or xs k 0) (times-at xs k (omega arith)))

    go : (x < b) ⊎ (b ≤ x) → Lower b xs (lower_bound b xs) → Lower b (x ∷ xs) (lower_bound b (x ∷ xs))
    go (inl l) ih = rw (lower-low b x xs l) (low ih l)
    go (inr l) ih = rw (lower_high b x xs l) (high ih l)

-- what fails below b is selected from that position on
pub select-lower : (f : ℕ → Bool) (b : ℕ) (xs : List ℕ) → Sorted xs → ((v : ℕ) → v < b → f v ≡ false) →
    select f xs ≡ select f (drop (lower_bound b xs) xs)
select-lower f b xs a n =
    let r = lower_bound b xs in
    let none : select f (take r xs) ≡ [] = select-none f (take r xs) 0 (λ i l.
    let h : i < r = omega (arith, length-take r xs) in
    n (get_or (take r xs) i 0) (rw (get_or-take r xs i 0 h) ((lower_of b xs a).before i h))) in
    ap (select f) (sym (take-append-drop r xs)) ∙ select-append f (take r xs) (drop r xs)
    ∙ ap (λ (l : List ℕ). l ++ select f (drop r xs)) none

-- and nothing after a number from which on all fail
pub select-past : (f : ℕ → Bool) (xs : List ℕ) (i : ℕ) → Sorted xs → i < length xs → ((v : ℕ) → get_or xs i 0 ≤ v → f v ≡ false) →
    select f (drop i xs) ≡ []
select-past f xs i a l n = select-nothing f (drop i xs) (λ v h. n v (sorted_after xs i a l v h))

-- ---- `mark_all`
pub mark-append : (ms ps qs : List ℕ) → mark_all ms (ps ++ qs) ≡ mark_all (mark_all ms ps) qs
unfolding mark_all
mark-append ms [] qs = refl
mark-append ms (p ∷ ps) qs = mark-append (set ms p 1) ps qs

pub mark-one : (ms ps : List ℕ) (p : ℕ) → mark_all ms (p ∷ ps) ≡ mark_all (set ms p 1) ps
unfolding mark_all
mark-one ms ps p = refl

pub length-mark : (ms ps : List ℕ) → length (mark_all ms ps) ≡ length ms
unfolding mark_all
length-mark ms [] = refl
length-mark ms (p ∷ ps) = length-mark (set ms p 1) ps ∙ length-set ms p 1

pub get_or-mark : (ms ps : List ℕ) (q : ℕ) → q < length ms → min 1 (get_or (mark_all ms ps) q 0) ≡ min 1 (get_or ms q 0 + times q ps)
unfolding mark_all
get_or-mark ms [] q l = omega arith
get_or-mark ms (p ∷ ps) q l = get_or-mark (set ms p 1) ps q (rw length-set l) ∙ go (same_or q p)
  where
    go : (q ≡ p) ⊎ (q ≡ p → ⊥) → min 1 (get_or (set ms p 1) q 0 + times q ps) ≡ min 1 (get_or ms q 0 + (is q p + times q ps))
    go (inl e) =
        let g : get_or (set ms p 1) q 0 ≡ 1 = rw e (get_or-set_same ms p 1 0 (rw e at l)) in
        omega (arith, is-equal q p e)
    go (inr n) = omega (arith, get_or-set_other ms p q 1 0 n, is-other q p n)

-- ---- `marked`
marked-times : (ms : List ℕ) (v : ℕ) → times v (marked ms) ≡ min 1 (get_or ms v 0)
unfolding marked is_marked up_to
marked-times ms v = go (lt-or-ge v (length ms)) (same_or (get_or ms v 0) 0)
  where
    here : v < length ms → times v (up_to (length ms)) ≡ 1
    here l = times-range v 0 (length ms) (omega arith) (omega arith)

    go : (v < length ms) ⊎ (length ms ≤ v) → (get_or ms v 0 ≡ 0) ⊎ (get_or ms v 0 ≡ 0 → ⊥) →
        times v (select (is_marked ms) (up_to (length ms))) ≡ min 1 (get_or ms v 0)
    go (inr l) o =
        let z : get_or ms v 0 ≡ 0 = get_or-eq_default ms 0 {n = v} l in
        times-select-no (is_marked ms) v (up_to (length ms)) (rw (eq-eqb (get_or ms v 0) 0 z)) ∙ omega arith
    go (inl l) (inl z) = times-select-no (is_marked ms) v (up_to (length ms)) (rw (eq-eqb (get_or ms v 0) 0 z)) ∙ omega arith
    go (inl l) (inr n) =
        times-select-yes (is_marked ms) v (up_to (length ms)) (rw (ne_eqb (get_or ms v 0) 0 n)) ∙ here l ∙ omega (arith, n)

pub marked-sorted : (ms : List ℕ) → Sorted (marked ms)
unfolding marked up_to
marked-sorted ms = sorted-select (is_marked ms) (up_to (length ms)) (sorted-range 0 (length ms))

pub marked-positions : (out ps : List ℕ) → Each (λ v. v < length out) ps →
    marked (mark_all (zeroed out) ps) ≡ distinct (sort_of ps)
marked-positions out ps h = sorted-unique (marked ms) (distinct (sort_of ps)) (marked-sorted ms) o.sorted each
  where
    ms : List ℕ
    ms = mark_all (zeroed out) ps

    o : Once (sort_of ps) (distinct (sort_of ps))
    o = distinct-sorted (sort_of ps) (sort_sorted ps)

    long : length ms ≡ length out
    long = length-mark (zeroed out) ps ∙ length-zeroed out

    at : (v : ℕ) → (v < length out) ⊎ (length out ≤ v) → min 1 (get_or ms v 0) ≡ min 1 (times v ps)
    at v (inl l) =
        let z : get_or (zeroed out) v 0 ≡ 0 = get_or-zeroed out v in
        get_or-mark (zeroed out) ps v (rw length-zeroed l) ∙ omega arith
    at v (inr l) =
        let z : get_or ms v 0 ≡ 0 = get_or-eq_default ms 0 {n = v} (omega (arith, long)) in
        omega (arith, each_none (λ u. u < length out) v ps h (λ k. omega arith))

    each : (v : ℕ) → times v (marked ms) ≡ times v (distinct (sort_of ps))
    each v = marked-times ms v ∙ at v (lt-or-ge v (length out)) ∙ omega (arith, o.once v, sort-perm ps v)
