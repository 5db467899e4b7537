-- The candidates of a search: every row on a full scan, else every row with an atom given. Assumes nothing.
use mathlib.Core.Path.{◌≡◌, refl, sym, ap, ◌∙◌, subst}
use mathlib.Core.Logic.{◌⊎◌, inl, inr}
use mathlib.Core.Bool.{Bool, true, false, ◌||◌}
use mathlib.Core.List.{List, [], ◌∷◌, ◌++◌, map}
use mathlib.Core.Option.{Option, none, some}
use Prim.Native.Nat.{ℕ, zero, suc, ◌+◌, ◌*◌, ◌/◌, ◌%◌, ◌≤◌, ◌<◌, zero-le}
use native.Mathlib.Nat.{le_trans, not-suc-le-zero, le_of_suc-le-suc}
use native.Mathlib.Decide.{ℕ_discrete}
use native.Mathlib.Omega.{arith}
use lib.ListN.{length, get_or}
use lib.Dec.{T, eqb, leb, eqb→eq, eqb_refl}
use Rattle.lists.specs.Lists.{select, concat, range, up_to, insert, sort_of, unless_first, distinct}
use Rattle.lists.proofs.Bools.{T_of}
use Rattle.words.specs.Literal.{atom}
use Rattle.meter.specs.declared.Meter.{Meter}
use Rattle.meter.specs.Tick.{Tick, Ticked, Stopped}
use Rattle.meter.specs.Meter.{ticks}
use Rattle.model.specs.declared.Header.{Header}
use Rattle.model.specs.Records.{Row, Entry, Ledger, rows_of, with_stale, with_full, max_rows}
use Rattle.model.specs.Postings.{posting, row_postings, postings_from, postings_of, posted_at, positions, search_ticks, Search, searched}
use Rattle.model.specs.Postings.{rebuilt, candidates as search}
use Rattle.model.specs.Priority.{In}
use Rattle.model.proofs.Priority.Covering.{rows_e}
use Rattle.model.proofs.Priority.Inside.{empty-row}
use Rattle.model.proofs.Priority.Steps.{in_left, in_right}

-- ---- lists
pub in-range : (i n p : ℕ) → i ≤ p → p < i + n → In p (range i n)
unfolding range
in-range i zero p h k = absurd (let z : i < i = omega arith in never i z)
  where
    never : (i : ℕ) → i < i → ⊥
    never i z = omega arith
in-range i (suc n) p h k = go (ℕ_discrete p i) (λ l. in-range (suc i) n p l (omega arith))
  where
    go : Dec (p ≡ i) → (suc i ≤ p → In p (range (suc i) n)) → In p (i ∷ range (suc i) n)
    go (yes e) ih = inl e
    go (no d) ih = inr (ih (omega arith))

pub in-up_to : (n p : ℕ) → p < n → In p (up_to n)
unfolding up_to
in-up_to n p h = in-range 0 n p zero-le (omega arith)

pub in-select : (f : ℕ → Bool) (xs : List ℕ) (x : ℕ) → In x xs → T (f x) → In x (select f xs)
unfolding select
in-select f [] x m t = absurd m
in-select f (y ∷ ys) x m t = go (f y) refl m (in-select f ys x)
  where
    go : (b : Bool) → f y ≡ b → In x (y ∷ ys) → (In x ys → T (f x) → In x (select f ys))
        → In x (elim b as (λ k. List ℕ) [ true ↦ y ∷ select f ys | false ↦ select f ys ])
    go true e (inl q) ih = inl q
    go true e (inr i) ih = inr (ih i t)
    go false e (inl q) ih = absurd (subst T (ap f q ∙ e) t)
    go false e (inr i) ih = ih i t

pub select_in : (f : ℕ → Bool) (xs : List ℕ) (x : ℕ) → In x (select f xs) → In x xs × T (f x)
unfolding select
select_in f [] x m = absurd m
select_in f (y ∷ ys) x m = go (f y) refl m (select_in f ys x)
  where
    go : (b : Bool) → f y ≡ b → In x (elim b as (λ k. List ℕ) [ true ↦ y ∷ select f ys | false ↦ select f ys ])
        → (In x (select f ys) → In x ys × T (f x)) → In x (y ∷ ys) × T (f x)
    go true e (inl q) ih = (inl q, T_of (ap f q ∙ e))
    go true e (inr i) ih = let z = ih i in (inr z.0, z.1)
    go false e i ih = let z = ih i in (inr z.0, z.1)

in_map : (f : ℕ → ℕ) (xs : List ℕ) (x : ℕ) → In x xs → In (f x) (map f xs)
in_map f [] x m = absurd m
in_map f (y ∷ ys) x (inl e) = inl (ap f e)
in_map f (y ∷ ys) x (inr i) = inr (in_map f ys x i)

in-concat : (f : ℕ → List ℕ) (as' : List ℕ) (a x : ℕ) → In a as' → In x (f a) → In x (concat (map f as'))
unfolding concat
in-concat f [] a x m i = absurd m
in-concat f (b ∷ bs) a x (inl e) i = in_left (f b) (concat (map f bs)) x (subst (λ (y : ℕ). In x (f y)) e i)
in-concat f (b ∷ bs) a x (inr m) i = in_right (f b) (concat (map f bs)) x (in-concat f bs a x m i)

in_insert : (x : ℕ) (ys : List ℕ) (z : ℕ) → In z (x ∷ ys) → In z (insert x ys)
unfolding insert
in_insert x [] z m = m
in_insert x (y ∷ ys) z m = go (leb x y) m (in_insert x ys z)
  where
    go : (b : Bool) → In z (x ∷ y ∷ ys) → (In z (x ∷ ys) → In z (insert x ys))
        → In z (elim b as (λ k. List ℕ) [ true ↦ x ∷ y ∷ ys | false ↦ y ∷ insert x ys ])
    go true i ih = i
    go false (inl e) ih = inr (ih (inl e))
    go false (inr (inl e)) ih = inl e
    go false (inr (inr i)) ih = inr (ih (inr i))

in-sort : (xs : List ℕ) (z : ℕ) → In z xs → In z (sort_of xs)
unfolding sort_of
in-sort [] z m = m
in-sort (x ∷ xs) z (inl e) = in_insert x (sort_of xs) z (inl e)
in-sort (x ∷ xs) z (inr i) = in_insert x (sort_of xs) z (inr (in-sort xs z i))

in-unless : (x : ℕ) (ys : List ℕ) (z : ℕ) → In z (x ∷ ys) → In z (unless_first x ys)
unfolding unless_first
in-unless x [] z m = m
in-unless x (y ∷ ys) z m = go (eqb x y) refl m
  where
    go : (b : Bool) → eqb x y ≡ b → In z (x ∷ y ∷ ys) → In z (elim b as (λ k. List ℕ) [ true ↦ y ∷ ys | false ↦ x ∷ y ∷ ys ])
    go true e (inl q) = inl (q ∙ eqb→eq x y (T_of e))
    go true e (inr i) = i
    go false e i = i

in-distinct : (xs : List ℕ) (z : ℕ) → In z xs → In z (distinct xs)
unfolding distinct
in-distinct [] z m = m
in-distinct (x ∷ xs) z (inl e) = in-unless x (distinct xs) z (inl e)
in-distinct (x ∷ xs) z (inr i) = in-unless x (distinct xs) z (inr (in-distinct xs z i))

-- ---- postings
-- x is a literal of the row
abbrev pub Own : Row → ℕ → Type 0
Own r x = In x r.conditions ⊎ In x r.outputs

own-posting : (p : ℕ) (r : Row) (x : ℕ) → Own r x → In (posting p (atom x)) (row_postings p r)
unfolding row_postings
own-posting p r x (inl m) =
    in_map (posting p) (map atom r.conditions ++ distinct (map atom r.outputs)) (atom x)
    (in_left (map atom r.conditions) (distinct (map atom r.outputs)) (atom x) (in_map atom r.conditions x m))
own-posting p r x (inr m) =
    in_map (posting p) (map atom r.conditions ++ distinct (map atom r.outputs)) (atom x)
    (in_right (map atom r.conditions) (distinct (map atom r.outputs)) (atom x)
    (in-distinct (map atom r.outputs) (atom x) (in_map atom r.outputs x m)))

in-from : (i j q : ℕ) (rs : List Row) (y : ℕ) → i + j ≡ q → j < length rs → In y (row_postings q (get_or rs j empty-row))
    → In y (postings_from i rs)
unfolding postings_from
in-from i j q [] y e h m = absurd (not-suc-le-zero h)
in-from i zero q (r ∷ rs) y e h m =
    in_left (row_postings i r) (postings_from (suc i) rs) y (subst (λ (k : ℕ). In y (row_postings k r)) (let z : q ≡ i = omega arith in z) m)
in-from i (suc j) q (r ∷ rs) y e h m =
    in_right (row_postings i r) (postings_from (suc i) rs) y (in-from (suc i) j q rs y (omega arith) (le_of_suc-le-suc h) m)

in-posted : (ps : List ℕ) (p a : ℕ) → p < max_rows → In (posting p a) ps → In p (posted_at ps a)
unfolding posted_at posting
in-posted ps p a h m =
    let q : (a * max_rows + p) / max_rows ≡ a = omega arith in
    let r : (a * max_rows + p) % max_rows ≡ p = omega arith in
    subst (λ (k : ℕ). In k (map (λ x. x % max_rows) (select (λ x. eqb (x / max_rows) a) ps))) r
    (in_map (λ x. x % max_rows) (select (λ x. eqb (x / max_rows) a) ps) (a * max_rows + p)
    (in-select (λ x. eqb (x / max_rows) a) ps (a * max_rows + p) m (subst (λ (k : ℕ). T (eqb k a)) (sym q) (eqb_refl a))))

in-positions : (rs : List Row) (as' : List ℕ) (p x : ℕ) → length rs ≤ max_rows → p < length rs → Own (get_or rs p empty-row) x
    → In (atom x) as' → In p (positions (postings_of rs) as')
unfolding positions postings_of
in-positions rs as' p x l h o m =
    in-distinct (sort_of (concat (map (posted_at (postings_from 0 rs)) as'))) p
    (in-sort (concat (map (posted_at (postings_from 0 rs)) as')) p
    (in-concat (posted_at (postings_from 0 rs)) as' (atom x) p m
    (in-posted (postings_from 0 rs) p (atom x) (le_trans h l)
    (in-from 0 p p rs (posting p (atom x)) (omega arith) h (own-posting p (get_or rs p empty-row) x o)))))

-- ---- the search
abbrev pub Reads : Bool → List Row → List ℕ → List ℕ → Type 0
Reads full rs as' ps = (p : ℕ) → p < length rs → T full ⊎ ((x : ℕ) × Own (get_or rs p empty-row) x × In (atom x) as') → In p ps

abbrev pub FoundOk : Bool → List Row → List ℕ → Option (List ℕ) → Type 0
FoundOk full rs as' none = Unit {0}
FoundOk full rs as' (some ps) = Reads full rs as' ps

searched-reads : (rs : List Row) (h : Header) (as' : List ℕ) (t : Tick) → length rs ≤ max_rows
    → FoundOk false rs as' (searched h (postings_of rs) as' t).found
unfolding searched
searched-reads rs h as' (Stopped m) l = tt
searched-reads rs h as' (Ticked m) l = go
  where
    go : Reads false rs as' (positions (postings_of rs) as')
    go p k (inl t) = absurd t
    go p k (inr z) = in-positions rs as' p z.0 l k z.1 z.2

rebuilt-reads : (rs : List Row) (h : Header) (as' : List ℕ) (t : Tick) → length rs ≤ max_rows
    → FoundOk false rs as' (rebuilt h (postings_of rs) as' t).found
unfolding rebuilt
rebuilt-reads rs h as' (Stopped m) l = tt
rebuilt-reads rs h as' (Ticked m) l = searched-reads rs (with_stale h false) as' (ticks (search_ticks (postings_of rs) as') m) l

rows_long : (es : List Entry) → length (rows_e es) ≡ length es
rows_long [] = refl
rows_long (e ∷ es) = ap suc (rows_long es)

pub search-reads : (l : Ledger) (as' : List ℕ) (m : Meter) → length (rows_e l.entries) ≤ max_rows
    → FoundOk l.header.full (rows_e l.entries) as' (search l as' m).found
unfolding search rows_of
search-reads l as' m k = go (leb (length l.entries) 64 || l.header.full) refl
  where
    scan : Reads l.header.full (rows_e l.entries) as' (up_to (length l.entries))
    scan p h z = in-up_to (length l.entries) p (subst (λ (n : ℕ). p < n) (rows_long l.entries) h)

    not_full : (a b : Bool) → (a || b) ≡ false → b ≡ false
    not_full true b e = absurd (subst T e tt)
    not_full false b e = e

    t : Tick
    t = elim l.header.stale as (λ x. Tick) [ true ↦ ticks (length (postings_of (rows_e l.entries))) m | false ↦ Ticked m ]

    go : (b : Bool) → (leb (length l.entries) 64 || l.header.full) ≡ b
        → FoundOk l.header.full (rows_e l.entries) as' (elim b as (λ x. Search) [
          | true ↦ record { header = with_full l.header false; meter = m; found = some (up_to (length l.entries)) }
          | false ↦ rebuilt l.header (postings_of (rows_e l.entries)) as' t
        ]).found
    go true e = scan
    go false e =
        subst (λ (f : Bool). FoundOk f (rows_e l.entries) as' (rebuilt l.header (postings_of (rows_e l.entries)) as' t).found)
        (sym (not_full (leb (length l.entries) 64) l.header.full e)) (rebuilt-reads (rows_e l.entries) l.header as' t k)
