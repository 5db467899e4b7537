-- Publishing reaches every output that does not hold yet, in as many turns as are left. Assumes nothing.
use mathlib.Core.Path.{◌≡◌, refl, sym, ap, ap₂, ◌∙◌, subst}
use mathlib.Core.Logic.{◌⊎◌, inl, inr}
use mathlib.Core.Bool.{Bool, true, false, not}
use mathlib.Core.List.{List, [], ◌∷◌, ◌++◌}
use Prim.Native.Nat.{ℕ, zero, suc, ◌+◌, ◌≤◌, ◌<◌}
use native.Mathlib.Nat.{le_refl, le_trans, not-suc-le-zero, le_of_suc-le-suc}
use native.Mathlib.Omega.{arith}
use lib.ListN.{length, get_or, drop}
use lib.Dec.{T, leb, leb→le, nleb→lt, not_T}
use Rattle.lists.specs.Lists.{concat}
use Rattle.lists.proofs.Bools.{T_of}
use Rattle.lists.proofs.Selects.{select_short}
use Rattle.words.specs.Region.{Region, holds}
use Rattle.meter.specs.declared.Meter.{Meter}
use Rattle.meter.specs.Tick.{Tick, Ticked, Stopped}
use Rattle.meter.specs.Meter.{tick_of}
use Rattle.model.specs.declared.OutputCursor.{OutputCursor}
use Rattle.model.specs.Records.{Row}
use Rattle.model.specs.Rows.{groups, packed}
use Rattle.model.specs.Slots.{index_of, bits_of}
use Rattle.model.specs.Deduction.{Next, stopped, end, output, Published, published, start_cursor, scalar_next, failing, pending, loaded}
use Rattle.model.specs.Deduction.{given_out, give, packed_next, next_output}
use Rattle.model.specs.Priority.{In}
use Rattle.model.proofs.Packing.{Asc, OneWord, codes-group, groups-fit, concat-groups}
use Rattle.model.proofs.Priority.Closed.{failing-has}
use Rattle.model.proofs.Priority.Steps.{in_split, in_left, in_right}
use Rattle.model.proofs.Priority.Cursors.{Good, GoodGroups, good-groups, drop-groups, load-good, failing-word, failing-asc}

-- R: the outputs that a cursor still has before it; rs: those before the turn
abbrev pub After : Region → List ℕ → Next → List ℕ → Type 0
After q rs stopped ks = Unit {0}
After q rs end ks = (y : ℕ) → In y rs → T (holds q y)
After q rs (output c) ks = ((y : ℕ) → In y rs → (y ≡ c) ⊎ (In y ks ⊎ T (holds q y))) × (length ks < length rs)

pub record Left (R : OutputCursor → List ℕ) (q : Region) (rs : List ℕ) (x : Published) : Type 0 where
  pub after : After q rs x.next (R x.cursor)

after_less : (q : Region) (rs ts : List ℕ) (z : Next) (ks : List ℕ) → ((y : ℕ) → In y ts → In y rs ⊎ T (holds q y)) → length rs ≤ length ts
    → After q rs z ks → After q ts z ks
after_less q rs ts stopped ks f l a = tt
after_less q rs ts end ks f l a = λ y i. go y (f y i)
  where
    go : (y : ℕ) → In y rs ⊎ T (holds q y) → T (holds q y)
    go y (inl j) = a y j
    go y (inr t) = t
after_less q rs ts (output c) ks f l a = (λ y i. go y (f y i), le_trans a.1 l)
  where
    go : (y : ℕ) → In y rs ⊎ T (holds q y) → (y ≡ c) ⊎ (In y ks ⊎ T (holds q y))
    go y (inl j) = a.0 y j
    go y (inr t) = inr (inr t)

left_less : (R : OutputCursor → List ℕ) (q : Region) (rs ts : List ℕ) (x : Published) → ((y : ℕ) → In y ts → In y rs ⊎ T (holds q y))
    → length rs ≤ length ts → Left R q rs x → Left R q ts x
left_less R q rs ts x f l a = record { after = after_less q rs ts x.next (R x.cursor) f l a.after }

stopped-left : (R : OutputCursor → List ℕ) (q : Region) (rs : List ℕ) (k : OutputCursor) (m : Meter) → Left R q rs (published stopped k m)
unfolding published
stopped-left R q rs k m = record { after = tt }

end-left : (R : OutputCursor → List ℕ) (q : Region) (rs : List ℕ) (k : OutputCursor) (m : Meter) → ((y : ℕ) → In y rs → T (holds q y))
    → Left R q rs (published end k m)
unfolding published
end-left R q rs k m f = record { after = f }

output-left : (R : OutputCursor → List ℕ) (q : Region) (rs : List ℕ) (c : ℕ) (k : OutputCursor) (m : Meter) (ks : List ℕ) → R k ≡ ks
    → rs ≡ c ∷ ks → Left R q rs (published (output c) k m)
unfolding published
output-left R q rs c k m ks e f = record { after = (λ y i. go y (subst (In y) f i), len) }
  where
    go : (y : ℕ) → In y (c ∷ ks) → (y ≡ c) ⊎ (In y (R k) ⊎ T (holds q y))
    go y (inl z) = inl z
    go y (inr j) = inr (inl (subst (In y) (sym e) j))

    len : length (R k) < length rs
    len =
        subst (λ (l : List ℕ). length l < length rs) (sym e)
        (subst (λ (l : List ℕ). length ks < length l) (sym f) (le_refl (suc (length ks))))

-- ---- scalar: the outputs from the cursor on
unfoldable scalar_rest : Row → OutputCursor → List ℕ
scalar_rest r k = drop k.next r.outputs

drop_get : (xs : List ℕ) (j : ℕ) → j < length xs → drop j xs ≡ get_or xs j 0 ∷ drop (suc j) xs
drop_get [] j h = absurd (not-suc-le-zero h)
drop_get (x ∷ xs) zero h = refl
drop_get (x ∷ xs) (suc j) h = drop_get xs j (le_of_suc-le-suc h)

drop-none : (xs : List ℕ) (j : ℕ) → length xs ≤ j → drop j xs ≡ []
drop-none [] zero h = refl
drop-none [] (suc j) h = refl
drop-none (x ∷ xs) zero h = absurd (not-suc-le-zero h)
drop-none (x ∷ xs) (suc j) h = drop-none xs j (le_of_suc-le-suc h)

scalar-left : (q : Region) (r : Row) (k : OutputCursor) (t : Tick) → k.next < length r.outputs
    → Left (scalar_rest r) q (scalar_rest r k) (scalar_next r.outputs k t)
unfolding scalar_next scalar_rest
scalar-left q r k (Stopped m) h = stopped-left (scalar_rest r) q _ k m
scalar-left q r k (Ticked m) h =
    output-left (scalar_rest r) q _ _ _ m (drop (suc k.next) r.outputs) refl (drop_get r.outputs k.next h)

-- ---- packed: what is pending, and the groups from the cursor on
unfoldable packed_rest : Row → OutputCursor → List ℕ
packed_rest r k = pending k ++ concat (drop k.next (groups r.outputs))

abbrev IsNil : List (List ℕ) → Type 0
IsNil [] = Unit {0}
IsNil (x ∷ xs) = ⊥

abbrev tail_of : List (List ℕ) → List (List ℕ)
tail_of [] = []
tail_of (y ∷ ys) = ys

drop-tail : (gs : List (List ℕ)) (j : ℕ) (g : List ℕ) (hs : List (List ℕ)) → drop j gs ≡ g ∷ hs → drop (suc j) gs ≡ hs
drop-tail [] zero g hs e = absurd (subst IsNil e tt)
drop-tail [] (suc j) g hs e = absurd (subst IsNil e tt)
drop-tail (x ∷ xs) zero g hs e = ap tail_of e
drop-tail (x ∷ xs) (suc j) g hs e = drop-tail xs j g hs e

give-left : (q : Region) (r : Row) (c : ℕ) (cs : List ℕ) (gs : List (List ℕ)) (k : OutputCursor) (t : Tick) → Good r k → pending k ≡ c ∷ cs
    → drop k.next (groups r.outputs) ≡ gs
    → Left (packed_rest r) q ((c ∷ cs) ++ concat gs) (give c cs k t)
unfolding give given_out packed_rest pending
give-left q r c cs gs k (Stopped m) g e d = stopped-left (packed_rest r) q _ k m
give-left q r c cs gs k (Ticked m) g e d =
    let w : OneWord k.word (c ∷ cs) = subst (OneWord k.word) (sym g.are ∙ e) g.word in
    let a : Asc 0 (c ∷ cs) = subst (Asc 0) (sym g.are ∙ e) g.asc in
    output-left (packed_rest r) q _ c _ m (cs ++ concat gs)
    (ap₂ (λ (x : List ℕ) (y : List (List ℕ)). x ++ concat y) (codes-group k.word (suc c) cs w.1 a.1) d) refl

load-pending : (q : Region) (r : Row) (g : List ℕ) (k : OutputCursor) → OneWord (index_of g) g → Asc 0 g
    → ((x : ℕ) → In x g → In x r.outputs) → pending (loaded q g k) ≡ failing q g
unfolding loaded pending
load-pending q r g k w a f = codes-group (index_of g) 0 (failing q g) (failing-word q (index_of g) g w) (failing-asc q g a)

loaded-next : (q : Region) (g : List ℕ) (k : OutputCursor) → (loaded q g k).next ≡ suc k.next
unfolding loaded
loaded-next q g k = refl

length_app : (a b : List ℕ) → length (a ++ b) ≡ length a + length b
length_app [] b = omega arith
length_app (x ∷ a) b = let h = length_app a b in omega arith

failing-short : (q : Region) (g : List ℕ) → length (failing q g) ≤ length g
unfolding failing
failing-short q g = select_short (λ c. not (holds q c)) g

failing-or : (q : Region) (g : List ℕ) (y : ℕ) → In y g → In y (failing q g) ⊎ T (holds q y)
failing-or q g y i = go (holds q y) refl
  where
    go : (b : Bool) → holds q y ≡ b → In y (failing q g) ⊎ T (holds q y)
    go true e = inr (T_of e)
    go false e = inl (failing-has q g y i (λ t. subst T e t))

packed-left : (q : Region) (r : Row) (gs : List (List ℕ)) (k : OutputCursor) (m : Meter) → GoodGroups r gs → Good r k
    → drop k.next (groups r.outputs) ≡ gs
    → Left (packed_rest r) q (pending k ++ concat gs) (packed_next q gs k m)
unfolding packed_next concat
packed-left q r [] k m h g d = go (pending k) refl
  where
    go : (l : List ℕ) → pending k ≡ l
        → Left (packed_rest r) q (l ++ []) (elim l as (λ z. Published) [ [] ↦ published end k m | c ∷ cs ↦ give c cs k (tick_of m) ])
    go [] e = end-left (packed_rest r) q [] k m (λ y i. absurd i)
    go (c ∷ cs) e = give-left q r c cs [] k (tick_of m) g e d
packed-left q r (b ∷ gs) k m h g d = go (pending k) refl (λ l n i j. packed-left q r gs l n h.3 i j)
  where
    ticking : (t : Tick)
        → ((l : OutputCursor) (n : Meter) → Good r l → drop l.next (groups r.outputs) ≡ gs
        → Left (packed_rest r) q (pending l ++ concat gs) (packed_next q gs l n))
        → Left (packed_rest r) q (b ++ concat gs)
        (elim t as (λ z. Published) [ Stopped n ↦ published stopped k n | Ticked n ↦ packed_next q gs (loaded q b k) n ])
    ticking (Stopped n) ih = stopped-left (packed_rest r) q _ k n
    ticking (Ticked n) ih =
        left_less (packed_rest r) q (failing q b ++ concat gs) (b ++ concat gs) _ (λ y i. more y (in_split b (concat gs) y i)) short
        (subst (λ (l : List ℕ). Left (packed_rest r) q (l ++ concat gs) (packed_next q gs (loaded q b k) n))
        (load-pending q r b k h.0 h.1 h.2)
        (ih (loaded q b k) n (load-good q r b k h.0 h.1 h.2)
        (ap (λ (j : ℕ). drop j (groups r.outputs)) (loaded-next q b k) ∙ drop-tail (groups r.outputs) k.next b gs d)))
      where
        more : (y : ℕ) → In y b ⊎ In y (concat gs) → In y (failing q b ++ concat gs) ⊎ T (holds q y)
        more y (inl i) = pick (failing-or q b y i)
          where
            pick : In y (failing q b) ⊎ T (holds q y) → In y (failing q b ++ concat gs) ⊎ T (holds q y)
            pick (inl j) = inl (in_left (failing q b) (concat gs) y j)
            pick (inr t) = inr t
        more y (inr i) = inl (in_right (failing q b) (concat gs) y i)

        short : length (failing q b ++ concat gs) ≤ length (b ++ concat gs)
        short = let u = failing-short q b in let v = length_app (failing q b) (concat gs) in let w = length_app b (concat gs) in omega arith

    go : (l : List ℕ) → pending k ≡ l
        → ((l : OutputCursor) (n : Meter) → Good r l → drop l.next (groups r.outputs) ≡ gs
        → Left (packed_rest r) q (pending l ++ concat gs) (packed_next q gs l n))
        → Left (packed_rest r) q (l ++ (b ++ concat gs))
        (elim l as (λ z. Published) [
          | [] ↦ elim (tick_of m) [
            | Stopped n ↦ published stopped k n
            | Ticked n ↦ packed_next q gs (loaded q b k) n
          ]
          | c ∷ cs ↦ give c cs k (tick_of m)
        ])
    go [] e ih = ticking (tick_of m) ih
    go (c ∷ cs) e ih = give-left q r c cs (b ∷ gs) k (tick_of m) g e d

-- ---- both forms
pub record Resting (r : Row) : Type 0 where
  pub rest : OutputCursor → List ℕ
  pub turn : (q : Region) (k : OutputCursor) (m : Meter) → Good r k → Left rest q (rest k) (next_output q r k m)
  pub all : (x : ℕ) → In x r.outputs → In x (rest start_cursor)
  pub short : length (rest start_cursor) ≤ length r.outputs

start-groups : (gs : List (List ℕ)) → drop start_cursor.next gs ≡ gs
unfolding start_cursor
start-groups gs = refl

start-pending : pending start_cursor ≡ []
unfolding start_cursor pending bits_of
start-pending = codes-group 0 0 [] tt tt

start-packed : (r : Row) → packed_rest r start_cursor ≡ r.outputs
unfolding packed_rest
start-packed r =
    ap₂ (λ (x : List ℕ) (y : List (List ℕ)). x ++ concat y) start-pending (start-groups (groups r.outputs)) ∙ concat-groups r.outputs

start-scalar : (r : Row) → scalar_rest r start_cursor ≡ r.outputs
unfolding scalar_rest start_cursor
start-scalar r = refl

turn-packed : (r : Row) → Asc 0 r.outputs → (q : Region) (k : OutputCursor) (m : Meter) → Good r k
    → Left (packed_rest r) q (packed_rest r k) (packed_next q (drop k.next (groups r.outputs)) k m)
unfolding packed_rest
turn-packed r a q k m g =
    packed-left q r (drop k.next (groups r.outputs)) k m
    (drop-groups r k.next (groups r.outputs)
    (good-groups r 0 (groups r.outputs) (groups-fit 0 r.outputs a) (λ x i. subst (In x) (concat-groups r.outputs) i))) g refl

turn-scalar : (r : Row) (q : Region) (k : OutputCursor) (m : Meter) (b : Bool) → leb (length r.outputs) k.next ≡ b
    → Left (scalar_rest r) q (scalar_rest r k)
    (elim b as (λ z. Published) [ true ↦ published end k m | false ↦ scalar_next r.outputs k (tick_of m) ])
unfolding scalar_rest
turn-scalar r q k m true f =
    end-left (scalar_rest r) q _ k m
    (λ y i. absurd (subst (In y) (drop-none r.outputs k.next (leb→le (length r.outputs) k.next (T_of f))) i))
turn-scalar r q k m false f =
    scalar-left q r k (tick_of m) (nleb→lt (length r.outputs) k.next (not_T (leb (length r.outputs) k.next) (λ t. subst T f t)))

pub resting : (r : Row) → Asc 0 r.outputs → Resting r
unfolding next_output
resting r a = form (packed r) refl
  where
    both : Region → OutputCursor → Meter → Bool → Published
    both q k m b =
        elim b as (λ z. Published) [
          | true ↦ packed_next q (drop k.next (groups r.outputs)) k m
          | false ↦ elim (leb (length r.outputs) k.next) [ true ↦ published end k m | false ↦ scalar_next r.outputs k (tick_of m) ]
        ]

    form : (b : Bool) → packed r ≡ b → Resting r
    form true e = record {
      rest = packed_rest r;
      turn = λ q k m g. subst (λ (b : Bool). Left (packed_rest r) q (packed_rest r k) (both q k m b)) (sym e) (turn-packed r a q k m g);
      all = λ x i. subst (In x) (sym (start-packed r)) i;
      short = subst (λ (l : List ℕ). length l ≤ length r.outputs) (sym (start-packed r)) (le_refl _);
    }
    form false e = record {
      rest = scalar_rest r;
      turn = λ q k m g. subst (λ (b : Bool). Left (scalar_rest r) q (scalar_rest r k) (both q k m b)) (sym e)
          (turn-scalar r q k m (leb (length r.outputs) k.next) refl);
      all = λ x i. subst (In x) (sym (start-scalar r)) i;
      short = subst (λ (l : List ℕ). length l ≤ length r.outputs) (sym (start-scalar r)) (le_refl _);
    }
