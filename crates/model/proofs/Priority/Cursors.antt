-- The outputs that a cursor gives are outputs of its row. Assumes nothing.
use mathlib.Core.Path.{◌≡◌, refl, sym, ap, ◌∙◌, subst}
use mathlib.Core.Logic.{inl, inr}
use mathlib.Core.Bool.{Bool, true, false, not}
use mathlib.Core.List.{List, [], ◌∷◌}
use Prim.Native.Nat.{ℕ, zero, suc, ◌<◌, zero-le}
use native.Mathlib.Nat.{not-suc-le-zero, le_of_suc-le-suc}
use native.Mathlib.Omega.{arith}
use lib.ListN.{length, get_or, drop}
use lib.Dec.{T, leb, nleb→lt, not_T}
use Rattle.lists.specs.Lists.{select, concat}
use Rattle.words.specs.Region.{Region, holds}
use Rattle.meter.specs.declared.Meter.{Meter}
use Rattle.meter.specs.Tick.{Tick, Ticked, Stopped}
use Rattle.meter.specs.Meter.{tick_of}
use Rattle.model.specs.declared.OutputCursor.{OutputCursor}
use Rattle.model.specs.Records.{Row}
use Rattle.model.specs.Rows.{groups, packed}
use Rattle.model.specs.Slots.{index_of, bits_of}
use Rattle.model.specs.Deduction.{Next, stopped, end, output, Published, published, start_cursor, scalar_next, failing, pending, loaded}
use Rattle.model.specs.Deduction.{given_out, give, packed_next, next_output}
use Rattle.model.specs.Priority.{In}
use Rattle.model.proofs.Packing.{Asc, asc-less, OneWord, Fits, codes-group, groups-fit, concat-groups}
use Rattle.model.proofs.Priority.Closed.{failing-in}
use Rattle.model.proofs.Priority.Steps.{in_left, in_right}

-- ---- choosing keeps the order and the word
select-asc : (f : ℕ → Bool) (k : ℕ) (xs : List ℕ) → Asc k xs → Asc k (select f xs)
unfolding select
select-asc f k [] a = tt
select-asc f k (x ∷ xs) a = go (f x) (select-asc f (suc x) xs a.1)
  where
    go : (b : Bool) → Asc (suc x) (select f xs) → Asc k (elim b as (λ z. List ℕ) [ true ↦ x ∷ select f xs | false ↦ select f xs ])
    go true h = (a.0, h)
    go false h = asc-less k (suc x) (select f xs) (let q = a.0 in omega arith) h

select_word : (f : ℕ → Bool) (w : ℕ) (xs : List ℕ) → OneWord w xs → OneWord w (select f xs)
unfolding select
select_word f w [] a = tt
select_word f w (x ∷ xs) a = go (f x) (select_word f w xs a.1)
  where
    go : (b : Bool) → OneWord w (select f xs) → OneWord w (elim b as (λ z. List ℕ) [ true ↦ x ∷ select f xs | false ↦ select f xs ])
    go true h = (a.0, h)
    go false h = h

-- ---- a cursor whose pending codes are outputs
pub record Good (r : Row) (k : OutputCursor) : Type 0 where
  pub codes : List ℕ
  pub are : pending k ≡ codes
  pub word : OneWord k.word codes
  pub asc : Asc 0 codes
  pub from : (x : ℕ) → In x codes → In x r.outputs

clear-good : (r : Row) (j : ℕ) → Good r (record { next = j; word = 0; present = 0; absent = 0 })
unfolding pending bits_of
clear-good r j = record { codes = []; are = codes-group 0 0 [] tt tt; word = tt; asc = tt; from = λ x m. absurd m }

pub start-good : (r : Row) → Good r start_cursor
unfolding start_cursor
start-good r = clear-good r 0

pub record Gives (r : Row) (x : Published) : Type 0 where
  pub out : (c : ℕ) → x.next ≡ output c → In c r.outputs
  pub cursor : Good r x.cursor

abbrev IsOutput : Next → Type 0
IsOutput stopped = ⊥
IsOutput end = ⊥
IsOutput (output c) = Unit {0}

abbrev code_of : Next → ℕ → ℕ
code_of stopped d = d
code_of end d = d
code_of (output c) d = c

quiet-gives : (r : Row) (x : Next) (k : OutputCursor) (m : Meter) → (IsOutput x → ⊥) → Good r k → Gives r (published x k m)
unfolding published
quiet-gives r x k m f g = record { out = λ c e. absurd (f (subst IsOutput (sym e) tt)); cursor = g }

output-gives : (r : Row) (c : ℕ) (k : OutputCursor) (m : Meter) → In c r.outputs → Good r k → Gives r (published (output c) k m)
unfolding published
output-gives r c k m i g = record { out = λ d e. subst (λ (y : ℕ). In y r.outputs) (ap (λ (z : Next). code_of z 0) e) i; cursor = g }

-- ---- scalar
get_in : (xs : List ℕ) (j : ℕ) → j < length xs → In (get_or xs j 0) xs
get_in [] j h = absurd (not-suc-le-zero h)
get_in (x ∷ xs) zero h = inl refl
get_in (x ∷ xs) (suc j) h = inr (get_in xs j (le_of_suc-le-suc h))

scalar-gives : (r : Row) (k : OutputCursor) (t : Tick) → k.next < length r.outputs → Good r k → Gives r (scalar_next r.outputs k t)
unfolding scalar_next
scalar-gives r k (Stopped m) h g = quiet-gives r stopped k m (λ z. z) g
scalar-gives r k (Ticked m) h g = output-gives r _ _ m (get_in r.outputs k.next h) (clear-good r (suc k.next))

-- ---- packed
abbrev pub GoodGroups : Row → List (List ℕ) → Type 0
GoodGroups r [] = Unit {0}
GoodGroups r (g ∷ gs) = OneWord (index_of g) g × Asc 0 g × ((x : ℕ) → In x g → In x r.outputs) × GoodGroups r gs

pub good-groups : (r : Row) (k : ℕ) (gs : List (List ℕ)) → Fits k gs → ((x : ℕ) → In x (concat gs) → In x r.outputs) → GoodGroups r gs
unfolding concat
good-groups r k [] f h = tt
good-groups r k (g ∷ gs) f h = (
  f.0,
  asc-less 0 k g zero-le f.1,
  λ x m. h x (in_left g (concat gs) x m),
  good-groups r 0 gs f.2 (λ x m. h x (in_right g (concat gs) x m)),
)

pub drop-groups : (r : Row) (j : ℕ) (gs : List (List ℕ)) → GoodGroups r gs → GoodGroups r (drop j gs)
drop-groups r zero gs h = h
drop-groups r (suc j) [] h = tt
drop-groups r (suc j) (g ∷ gs) h = drop-groups r j gs h.3

give-gives : (r : Row) (c : ℕ) (cs : List ℕ) (k : OutputCursor) (t : Tick) → Good r k → pending k ≡ c ∷ cs → Gives r (give c cs k t)
unfolding give given_out pending
give-gives r c cs k (Stopped m) g e = quiet-gives r stopped k m (λ z. z) g
give-gives r c cs k (Ticked m) g e =
    let w : OneWord k.word (c ∷ cs) = subst (OneWord k.word) (sym g.are ∙ e) g.word in
    let a : Asc 0 (c ∷ cs) = subst (Asc 0) (sym g.are ∙ e) g.asc in
    let f : ((x : ℕ) → In x (c ∷ cs) → In x r.outputs) =
    subst (λ (l : List ℕ). (x : ℕ) → In x l → In x r.outputs) (sym g.are ∙ e) g.from in
    output-gives r c _ m (f c (inl refl)) (record {
      codes = cs;
      are = codes-group k.word (suc c) cs w.1 a.1;
      word = w.1;
      asc = asc-less 0 (suc c) cs zero-le a.1;
      from = λ x i. f x (inr i);
    })

pub failing-word : (q : Region) (w : ℕ) (g : List ℕ) → OneWord w g → OneWord w (failing q g)
unfolding failing
failing-word q w g h = select_word (λ c. not (holds q c)) w g h

pub failing-asc : (q : Region) (g : List ℕ) → Asc 0 g → Asc 0 (failing q g)
unfolding failing
failing-asc q g h = select-asc (λ c. not (holds q c)) 0 g h

pub load-good : (q : Region) (r : Row) (g : List ℕ) (k : OutputCursor) → OneWord (index_of g) g → Asc 0 g
    → ((x : ℕ) → In x g → In x r.outputs) → Good r (loaded q g k)
unfolding loaded pending
load-good q r g k w a f = record {
  codes = failing q g;
  are = codes-group (index_of g) 0 (failing q g) (word_of w) (asc-of a);
  word = word_of w;
  asc = asc-of a;
  from = λ x m. f x (failing-in q g x m).0;
}
  where
    word_of : OneWord (index_of g) g → OneWord (index_of g) (failing q g)
    word_of h = failing-word q (index_of g) g h

    asc-of : Asc 0 g → Asc 0 (failing q g)
    asc-of h = failing-asc q g h

packed-gives : (q : Region) (r : Row) (gs : List (List ℕ)) (k : OutputCursor) (m : Meter) → GoodGroups r gs → Good r k
    → Gives r (packed_next q gs k m)
unfolding packed_next
packed-gives q r [] k m h g = go (pending k) refl
  where
    go : (l : List ℕ) → pending k ≡ l → Gives r (elim l as (λ z. Published) [ [] ↦ published end k m | c ∷ cs ↦ give c cs k (tick_of m) ])
    go [] e = quiet-gives r end k m (λ z. z) g
    go (c ∷ cs) e = give-gives r c cs k (tick_of m) g e
packed-gives q r (b ∷ gs) k m h g = go (pending k) refl (λ l n i. packed-gives q r gs l n h.3 i)
  where
    ticking : (t : Tick) → ((l : OutputCursor) (n : Meter) → Good r l → Gives r (packed_next q gs l n))
        → Gives r (elim t as (λ z. Published) [ Stopped n ↦ published stopped k n | Ticked n ↦ packed_next q gs (loaded q b k) n ])
    ticking (Stopped n) ih = quiet-gives r stopped k n (λ z. z) g
    ticking (Ticked n) ih = ih (loaded q b k) n (load-good q r b k h.0 h.1 h.2)

    go : (l : List ℕ) → pending k ≡ l → ((l : OutputCursor) (n : Meter) → Good r l → Gives r (packed_next q gs l n))
        → Gives r (elim l as (λ z. Published) [
          | [] ↦ elim (tick_of m) [
            | Stopped n ↦ published stopped k n
            | Ticked n ↦ packed_next q gs (loaded q b k) n
          ]
          | c ∷ cs ↦ give c cs k (tick_of m)
        ])
    go [] e ih = ticking (tick_of m) ih
    go (c ∷ cs) e ih = give-gives r c cs k (tick_of m) g e

pub next-gives : (q : Region) (r : Row) (k : OutputCursor) (m : Meter) → Asc 0 r.outputs → Good r k → Gives r (next_output q r k m)
unfolding next_output
next-gives q r k m a g = form (packed r)
  where
    more : (b : Bool) → leb (length r.outputs) k.next ≡ b
        → Gives r (elim b as (λ z. Published) [ true ↦ published end k m | false ↦ scalar_next r.outputs k (tick_of m) ])
    more true e = quiet-gives r end k m (λ z. z) g
    more false e =
        scalar-gives r k (tick_of m) (nleb→lt (length r.outputs) k.next
        (not_T (leb (length r.outputs) k.next) (λ t. subst T e t))) g

    form : (b : Bool)
        → Gives r (elim b as (λ z. Published) [
          | true ↦ packed_next q (drop k.next (groups r.outputs)) k m
          | false ↦ elim (leb (length r.outputs) k.next) [ true ↦ published end k m | false ↦ scalar_next r.outputs k (tick_of m) ]
        ])
    form true =
        packed-gives q r (drop k.next (groups r.outputs)) k m
        (drop-groups r k.next (groups r.outputs)
        (good-groups r 0 (groups r.outputs) (groups-fit 0 r.outputs a) (λ x i. subst (In x) (concat-groups r.outputs) i))) g
    form false = more (leb (length r.outputs) k.next) refl
