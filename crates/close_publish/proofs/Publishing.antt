-- Publishing in a closing: each output decided in turn, up to the end, a false decision or a stop. Assumes nothing.
use mathlib.Core.Path.{◌≡◌, refl, sym, ap, ap₂, ◌∙◌, subst}
use mathlib.Core.Bool.{Bool, true, false}
use mathlib.Core.List.{List, []}
use mathlib.Core.Option.{Option, none, some}
use Prim.Native.Nat.{ℕ, zero, suc, ◌<◌, ◌≤◌}
use native.Mathlib.Omega.{arith}
use lib.Dec.{T}
use lib.ListN.{length}
use Rattle.lists.specs.Lists.{ascending}
use Rattle.lists.proofs.Bools.{T_true, T_of}
use Rattle.words.specs.Region.{Region, region, is_region, decide}
use Rattle.words.proofs.Regions.{sound-of}
use Rattle.meter.specs.declared.Meter.{Meter}
use Rattle.model.specs.declared.OutputCursor.{OutputCursor}
use Rattle.model.specs.declared.Literal.{Literal}
use Rattle.model.specs.declared.NextAnswer.TheVariants as next-answer
use Rattle.std.specs.Prelude.{None, Result, Ok, Err}
use Rattle.model.specs.Records.{Row, is_row, fresh, limits_of}
use Rattle.model.specs.Slots.{row_in}
use Rattle.model.specs.Deduction.{Next, stopped, end, output, Published, published, next_output, start_cursor}
use Rattle.model.specs.Operations.{next_answer}
use Rattle.model.specs.Closing.{decides, earns}
use Rattle.model.specs.Closing.{State, Turn, going, conflict, halted, on_going, with_meter, with_region, decide_on, publish}
use Rattle.model.proofs.Slots.{ascending-asc}
use Rattle.model.proofs.Priority.Cursors.{Good, start-good, next-gives}
use Rattle.model.proofs.Priority.Reaching.{After, Resting, resting}
use Rattle.model.proofs.Priority.Fuel.{publish-fuel}
use Rattle.model.proofs.Rows.{row-parts}
use Rattle.slots.specs.Layout.{Stored}
use Rattle.row_deduce.specs.Publication.{Pointed}
use Rattle.row_deduce.proofs.Cursors.{pointed-start, pointed-next}
use Rattle.close_publish.specs.Turns.{Beside, beside, state, halted_as, ended_as, Counted}
use Rattle.close_publish.specs.declared.Halt.{Halt}
use Rattle.close_publish.specs.declared.Halt.TheVariants.{Conflict, Stopped}
use Rattle.close_publish.proofs.Ending.{halted-stays, ended-stays}
use Rattle.close_publish.proofs.Deciding.{counted-none, counted-both}

-- ---- a publishing reads and writes nothing of the ledger, nor of the output that is named
abbrev with : Beside → State → State
with l s = record { ledger = l.ledger; region = s.region; meter = s.meter; contradicted = l.contradicted }

abbrev on_turn : Beside → Turn → Turn
on_turn l (going s) = going (with l s)
on_turn l (conflict s) = conflict (with l s)
on_turn l (halted s) = halted (with l s)

decide-with : (n c : ℕ) (l : Beside) (s : State) → on_turn l (decide_on n c s) ≡ decide_on n c (with l s)
unfolding decide_on
decide-with n c l s = go (decide n s.region c)
  where
    go : (o : Option Region)
        → on_turn l (elim o as (λ k. Turn) [
          | none ↦ conflict s
          | some r ↦ going (with_region r s)
        ])
        ≡ (elim o as (λ k. Turn) [
          | none ↦ conflict (with l s)
          | some r ↦ going (with l (with_region r s))
        ])
    go none = refl
    go (some r) = refl

going-with : (l : Beside) (t : Turn) (f : State → Turn) → ((s : State) → on_turn l (f s) ≡ f (with l s))
    → on_turn l (on_going t f) ≡ on_going (on_turn l t) f
unfolding on_going
going-with l (going s) f h = h s
going-with l (conflict s) f h = refl
going-with l (halted s) f h = refl

publish-with : (fuel n : ℕ) (r : Row) (k : OutputCursor) (l : Beside) (s : State)
    → on_turn l (publish fuel n r k s) ≡ publish fuel n r k (with l s)
unfolding publish
publish-with zero n r k l s = refl
publish-with (suc fuel) n r k l s = go (next_output s.region r k s.meter) (λ j t. publish-with fuel n r j l t)
  where
    go : (x : Published) → ((j : OutputCursor) (t : State) → on_turn l (publish fuel n r j t) ≡ publish fuel n r j (with l t))
        → on_turn l (elim x.next as (λ z. Turn) [
          | stopped ↦ halted (with_meter x.meter s)
          | end ↦ going (with_meter x.meter s)
          | output c ↦ on_going (decide_on n c (with_meter x.meter s))
              (publish fuel n r x.cursor)
        ]) ≡ (elim x.next as (λ z. Turn) [
          | stopped ↦ halted (with l (with_meter x.meter s))
          | end ↦ going (with l (with_meter x.meter s))
          | output c ↦ on_going (decide_on n c (with l (with_meter x.meter s))) (publish fuel n r x.cursor)
        ])
    go x ih = by x.next
      where
        t : State
        t = with_meter x.meter s

        by : (z : Next)
            → on_turn l (elim z as (λ z. Turn) [
              | stopped ↦ halted t
              | end ↦ going t
              | output c ↦ on_going (decide_on n c t) (publish fuel n r x.cursor)
            ])
            ≡ (elim z as (λ z. Turn) [
              | stopped ↦ halted (with l t)
              | end ↦ going (with l t)
              | output c ↦ on_going (decide_on n c (with l t)) (publish fuel n r x.cursor)
            ])
        by stopped = refl
        by end = refl
        by (output c) =
            going-with l (decide_on n c t) (publish fuel n r x.cursor) (ih x.cursor)
            ∙ ap (λ (u : Turn). on_going u (publish fuel n r x.cursor)) (decide-with n c l t)

-- ---- the outputs that a cursor has before it
rest_of : (r : Row) (b : Bool) → (T b → Resting r) → OutputCursor → List ℕ
rest_of r true w k = (w tt).rest k
rest_of r false w k = []

unfoldable pub left : Row → OutputCursor → ℕ
unfolding rest_of
left r k = length (rest_of r (ascending r.outputs) (λ t. resting r (ascending-asc r.outputs t)) k)

record Rests (r : Row) : Type 0 where
  by : Resting r
  is : (k : OutputCursor) → left r k ≡ length (by.rest k)

rests : (r : Row) → T (ascending r.outputs) → Rests r
unfolding left rest_of
rests r t =
    let z = go (ascending r.outputs) (λ t. resting r (ascending-asc r.outputs t)) t in
    record { by = z.0; is = z.1 }
  where
    go : (b : Bool) (f : T b → Resting r) → T b → (w : Resting r) × ((k : OutputCursor) → length (rest_of r b f k) ≡ length (w.rest k))
    go true f t = (f tt, λ k. refl)
    go false f t = absurd t

-- ---- one turn, by what is published
module _ (fuel n : ℕ) (r : Row) (k : OutputCursor) (s : State) where
  abbrev x : Published
  x = next_output s.region r k s.meter

  abbrev t : State
  t = with_meter x.meter s

  after : Next → Turn
  after z = elim z [ stopped ↦ halted t | end ↦ going t | output c ↦ on_going (decide_on n c t) (publish fuel n r x.cursor) ]

  publish-stops : x.next ≡ stopped → publish (suc fuel) n r k s ≡ halted t
  unfolding publish after
  publish-stops e = ap after e

  publish-ends : x.next ≡ end → publish (suc fuel) n r k s ≡ going t
  unfolding publish after
  publish-ends e = ap after e

  publish-outputs : (c : ℕ) → x.next ≡ output c → publish (suc fuel) n r k s ≡ on_going (decide_on n c t) (publish fuel n r x.cursor)
  unfolding publish after
  publish-outputs c e = ap after e

-- the code's answer
pub stopped-next : (z : Next) → ((c : Literal) → next_answer z ≡ next-answer.Output c → ⊥) → (next_answer z ≡ next-answer.End → ⊥)
    → z ≡ stopped
unfolding next_answer
stopped-next stopped o e = refl
stopped-next end o e = absurd (e refl)
stopped-next (output d) o e = absurd (o _ refl)

-- ---- one decision, by how it ended
-- it never stops: where it does not go on it is a Conflict, which earns a hit
pub clashes : {A : Type 0} (w : Result A Halt) (n : ℕ) (old older : Region) (s : State) (c : ℕ) (t : State) → ((a : A) → w ≡ Ok a → ⊥)
    → ended_as w s ≡ decide_on n c t → earns n old (ended_as w s) ≡ earns n older (ended_as w s)
unfolding earns decide_on
clashes (Ok a) n old older s c t o e = absurd (o a refl)
clashes (Err Conflict) n old older s c t o e = refl
clashes (Err Stopped) n old older s c t o e = go (decide n t.region c) e
  where
    go : (d : Option Region) → halted s ≡ (elim d as (λ k. Turn) [
      | none ↦ conflict t
      | some r ↦ going (with_region r t)
    ]) → decides n old s.region ≡ decides n older s.region
    go none e = absurd (let q : ◌≡◌ {A = ℕ} 0 1 = cc in omega arith)
    go (some r) e = absurd (let q : ◌≡◌ {A = ℕ} 0 1 = cc in omega arith)

-- ---- the walk
bare : Beside
bare = beside (record { header = fresh (limits_of 0 0 0) 0; entries = [] }) None

pub record Publishes (n : ℕ) (slot held₀ cut₀ : List ℕ) (m₀ : Meter) (c₀ : ℕ) (held cut : List ℕ) (m : Meter) (c : ℕ)
    (k : OutputCursor) : Type 0 where
  pub pointed : Pointed (row_in slot) k
  pub good : Good (row_in slot) k
  pub whole : T (is_region n (region held cut))
  pub counted : Counted n c₀ c (region held₀ cut₀) (region held cut)
  pub rest : (l : Beside) → publish (suc (left (row_in slot) k)) n (row_in slot) k (state l held cut m)
      ≡ publish (suc (length (row_in slot).outputs)) n (row_in slot) start_cursor (state l held₀ cut₀ m₀)

module _ (n : ℕ) (slot : List ℕ) (st : Stored n slot) where
  abbrev row : Row
  row = row_in slot

  rising : T (ascending (row_in slot).outputs)
  rising = T_of (row-parts n (row_in slot) (T_true (is_row n (row_in slot)) st.row)).outputs_rise

  -- fuel is never used up, whatever the ledger
  fuel-any : (f g : ℕ) (k : OutputCursor) (held cut : List ℕ) (m : Meter) (l : Beside) → Good row k → T (is_region n (region held cut))
      → left row k < f → left row k < g
      → publish f n row k (state l held cut m) ≡ publish g n row k (state l held cut m)
  unfolding bare
  fuel-any f g k held cut m l o t h j =
      let w = rests row rising in
      let s : State = state bare held cut m in
      sym (publish-with f n row k l s)
      ∙ ap (on_turn l)
      (publish-fuel n [] (λ r i. absurd i) f g row w.by k s (ascending-asc row.outputs rising) o
      (record { sound = sound-of n (region held cut) t; grown = λ x i. i; same = refl })
      (subst (λ (a : ℕ). a < f) (w.is k) h) (subst (λ (a : ℕ). a < g) (w.is k) j))
      ∙ publish-with g n row k l s

  start-short : left row start_cursor ≤ length row.outputs
  start-short = let w = rests row rising in subst (λ (a : ℕ). a ≤ length row.outputs) (sym (w.is start_cursor)) w.by.short

  pub publish-start : (held cut : List ℕ) (m : Meter) (c : ℕ) → T (is_region n (region held cut))
      → Publishes n slot held cut m c held cut m c start_cursor
  publish-start held cut m c t =
      let h = start-short in
      record {
        pointed = pointed-start row;
        good = start-good row;
        whole = t;
        counted = counted-none n c (region held cut);
        rest = λ l. fuel-any (suc (left row start_cursor)) (suc (length row.outputs)) start_cursor held cut m l (start-good row) t
            (omega arith) (omega arith);
      }

  -- what is published next, z, with the cursor and the meter after it
  module _ (held₀ cut₀ : List ℕ) (m₀ : Meter) (c₀ : ℕ) (held cut : List ℕ) (m : Meter) (c : ℕ) (k : OutputCursor)
      (w : Publishes n slot held₀ cut₀ m₀ c₀ held cut m c k) (z : Next) (k' : OutputCursor) (m' : Meter)
      (q : published z k' m' ≡ next_output (region held cut) row k m) where
    abbrev wholly : Beside → Turn
    wholly l = publish (suc (length row.outputs)) n row start_cursor (state l held₀ cut₀ m₀)

    abbrev next : Published
    next = next_output (region held cut) row k m

    next-is : (next_output (region held cut) row k m).next ≡ z
    unfolding published
    next-is = sym (ap (λ (y : Published). y.next) q)

    meter-is : m' ≡ (next_output (region held cut) row k m).meter
    unfolding published
    meter-is = ap (λ (y : Published). y.meter) q

    cursor-is : k' ≡ (next_output (region held cut) row k m).cursor
    unfolding published
    cursor-is = ap (λ (y : Published). y.cursor) q

    pub publish-stopped : z ≡ stopped → (l : Beside)
        → halted (state l held cut m') ≡ publish (suc (length row.outputs)) n row start_cursor (state l held₀ cut₀ m₀)
    publish-stopped e l =
        ap (λ (y : Meter). halted (state l held cut y)) meter-is
        ∙ sym (publish-stops (left row k) n row k (state l held cut m) (next-is ∙ e)) ∙ w.rest l

    pub publish-end : z ≡ end → (l : Beside)
        → going (state l held cut m') ≡ publish (suc (length row.outputs)) n row start_cursor (state l held₀ cut₀ m₀)
    publish-end e l =
        ap (λ (y : Meter). going (state l held cut y)) meter-is
        ∙ sym (publish-ends (left row k) n row k (state l held cut m) (next-is ∙ e)) ∙ w.rest l

    module _ (o : ℕ) (e : z ≡ output o) where
      -- the walk with the output at hand
      here : (l : Beside) → on_going (decide_on n o (state l held cut m')) (publish (left row k) n row k') ≡ wholly l
      here l =
          ap₂ (λ (y : Meter) (j : OutputCursor). on_going (decide_on n o (state l held cut y)) (publish (left row k) n row j)) meter-is
          cursor-is
          ∙ sym (publish-outputs (left row k) n row k (state l held cut m) o (next-is ∙ e))
          ∙ w.rest l

      -- a decision that does not go on ends the walk
      pub publish-halts : (h : Halt) (held' cut' : List ℕ)
          → ((l : Beside) (m : Meter) → halted_as h (state l held' cut' m) ≡ decide_on n o (state l held cut m))
          → (l : Beside) → halted_as h (state l held' cut' m')
          ≡ publish (suc (length row.outputs)) n row start_cursor (state l held₀ cut₀ m₀)
      publish-halts h held' cut' d l =
          halted-stays h (state l held' cut' m') (publish (left row k) n row k')
          ∙ ap (λ (y : Turn). on_going y (publish (left row k) n row k')) (d l m') ∙ here l

      module _ {A : Type 0} (one : Result A Halt) (held' cut' : List ℕ) (m₁ : Meter)
          (d : (l : Beside) → ended_as one (state l held' cut' m₁) ≡ decide_on n o (state l held cut m')) where
        -- it is a Conflict
        pub publish-conflict : ((a : A) → one ≡ Ok a → ⊥) → (l : Beside) → ended_as one (state l held' cut' m₁)
            ≡ publish (suc (length row.outputs)) n row start_cursor (state l held₀ cut₀ m₀)
        publish-conflict t l =
            ended-stays one (state l held' cut' m₁) (publish (left row k) n row k') t
            ∙ ap (λ (y : Turn). on_going y (publish (left row k) n row k')) (d l) ∙ here l

        -- so the whole walk earns a hit where it does
        pub ended-earns : ((a : A) → one ≡ Ok a → ⊥) → (b : Bool)
            → ((l : Beside) → b ≡ earns n (region held cut) (ended_as one (state l held' cut' m₁)))
            → (l : Beside) → b ≡ earns n (region held₀ cut₀) (ended_as one (state l held' cut' m₁))
        ended-earns t b g l =
            g l
            ∙ clashes one n (region held cut) (region held₀ cut₀) (state l held' cut' m₁) o (state l held cut m') t (d l)

      pub publish-less : left row k' < left row k
      publish-less =
          let v = rests row rising in
          let a = (v.by.turn (region held cut) k m w.good).after in
          let h : length (v.by.rest (next_output (region held cut) row k m).cursor)
          < length (v.by.rest k) = (subst
          (λ (y : Next). After (region held cut) (v.by.rest k) y (v.by.rest (next_output (region held cut) row k m).cursor)) (next-is ∙ e)
          a).1 in
          subst (λ (y : ℕ). y < left row k) (sym (ap (left row) cursor-is ∙ v.is (next_output (region held cut) row k m).cursor))
          (subst (λ (y : ℕ). length (v.by.rest (next_output (region held cut) row k m).cursor) < y) (sym (v.is k)) h)

      -- the next output after a decision that goes on
      pub publish-on : (held' cut' : List ℕ) (c' : ℕ)
          → ((l : Beside) (m : Meter) → going (state l held' cut' m) ≡ decide_on n o (state l held cut m))
          → Counted n c c' (region held cut) (region held' cut') → T (is_region n (region held' cut'))
          → Publishes n slot held₀ cut₀ m₀ c₀ held' cut' m' c' k'
      unfolding on_going
      publish-on held' cut' c' d counted whole =
          let good : Good row k' =
          subst (Good row) (sym cursor-is)
          (next-gives (region held cut) row k m (ascending-asc row.outputs rising) w.good).cursor in
          let less = publish-less in
          record {
            pointed = subst (Pointed row) (sym cursor-is) (pointed-next n row st.row st.atoms (region held cut) k m w.pointed);
            good = good;
            whole = whole;
            counted = counted-both n c₀ c c' (region held₀ cut₀) (region held cut) (region held' cut') w.counted counted;
            rest = λ l.
                fuel-any (suc (left row k')) (left row k) k' held' cut' m' l good whole (omega arith) less
                ∙ ap (λ (u : Turn). on_going u (publish (left row k) n row k')) (d l m') ∙ here l;
          }
