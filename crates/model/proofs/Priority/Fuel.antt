-- The fuel of publishing and of the rounds is never used up: more changes nothing, and a closing halts only on a spent meter.
-- Assumes nothing.
use mathlib.Core.Path.{◌≡◌, refl, sym, subst}
use mathlib.Core.Logic.{inl}
use mathlib.Core.Bool.{Bool, true, false, ◌&&◌, ◌||◌}
use mathlib.Core.List.{List, [], ◌∷◌}
use mathlib.Core.Option.{Option, none, some}
use native.Mathlib.Omega.{arith}
use Prim.Native.Nat.{ℕ, zero, suc, ◌<◌, suc-le-suc}
use native.Mathlib.Nat.{le_trans, not-suc-le-zero, le_of_suc-le-suc}
use lib.ListN.{length, drop}
use lib.Dec.{eqb, leb}
use Rattle.lists.specs.Lists.{up_to}
use Rattle.words.specs.Region.{Region, decide, region}
use Rattle.words.proofs.Regions.{Sound}
use Rattle.meter.specs.declared.Meter.{Meter}
use Rattle.meter.specs.Tick.{Tick, Ticked, Stopped}
use Rattle.meter.specs.Meter.{tick_of, ticks}
use Rattle.meter.specs.Counting.{Spent}
use Rattle.meter.proofs.Counting.{tick-stopped, ticks-stopped}
use Rattle.model.specs.declared.CloseAnswer.TheVariants as close-answer
use Rattle.model.specs.declared.Header.{Header}
use Rattle.model.specs.declared.Deduction.{Deduction}
use Rattle.model.specs.declared.Deduction.TheVariants.{Nothing, Force, Require}
use Rattle.model.specs.declared.OutputCursor.{OutputCursor}
use Rattle.model.specs.Records.{Row, Ledger, rows_of, row_at, with_stale, with_full}
use Rattle.model.specs.Rows.{groups, packed}
use Rattle.model.specs.Deduction.{Next, Published, published, pending, loaded, give, scalar_next, packed_next, next_output, deduction}
use Rattle.model.specs.Deduction.{deduction_ticks, start_cursor}
use Rattle.model.specs.Deduction as deducing
use Rattle.model.specs.Postings.{Search, searched, rebuilt, search_ticks, postings_of, candidates as search}
use Rattle.model.specs.Closing.{State, Turn, going, conflict, halted, on_going, with_meter, with_header, decide_on, publish}
use Rattle.model.specs.Closing.{with_named, begun, with_hit, follow, reading, act, round, decided_since, rounds, closing}
use Rattle.model.specs.Refusals.{Lent, ledger_in, refusal, accepts}
use Rattle.model.specs.Answers.{Reply, refused, answered, named, close_reply}
use Rattle.model.specs.Operations.{CloseEnd, close_end, unclosed, closed_by, close, region_ok}
use Rattle.model.specs.Priority.{In}
use Rattle.model.proofs.Packing.{Asc}
use Rattle.model.proofs.Priority.Covering.{rows_e}
use Rattle.model.proofs.Priority.Fine.{Fine}
use Rattle.model.proofs.Priority.Steps.{opt-elim, accepted, refusal-cons, fine-in}
use Rattle.model.proofs.Priority.Quiet.{act_by}
use Rattle.model.proofs.Priority.Cursors.{Good, Gives as Given, next-gives}
use Rattle.model.proofs.Priority.Reaching.{After, Left, Resting}
use Rattle.model.proofs.Priority.Ends.{region-ok, atoms-in}
use Rattle.model.proofs.Priority.Rounds.{OnGoing, on-map, on-eq, opens, opens-less, opens-le, Step, self, Decides, decide-step}
use Rattle.model.proofs.Priority.Rounds.{Rounded, round-step}

-- ---- more fuel changes nothing
module _ (n : ℕ) (rows : List Row) (fine : Fine rows) where
  pub publish-fuel : (f g : ℕ) (r : Row) (w : Resting r) (k : OutputCursor) (s : State) → Asc 0 r.outputs → Good r k
      → Step n rows fine s s → length (w.rest k) < f → length (w.rest k) < g
      → publish f n r k s ≡ publish g n r k s
  unfolding publish
  publish-fuel zero g r w k s a o i h l = absurd (not-suc-le-zero h)
  publish-fuel (suc f) zero r w k s a o i h l = absurd (not-suc-le-zero l)
  publish-fuel (suc f) (suc g) r w k s a o i h l =
      go (next_output s.region r k s.meter) (next-gives s.region r k s.meter a o) (w.turn s.region k s.meter o)
      (λ x t y j b c. publish-fuel f g r w x t a y j b c)
    where
      go : (x : Published) → Given r x → Left w.rest s.region (w.rest k) x
          → ((x : OutputCursor) (t : State) → Good r x → Step n rows fine t t → length (w.rest x) < f → length (w.rest x) < g
          → publish f n r x t ≡ publish g n r x t)
          → ◌≡◌ {A = Turn} (elim x.next as (λ z. Turn) [
            | deducing.stopped ↦ halted (with_meter x.meter s)
            | deducing.end ↦ going (with_meter x.meter s)
            | deducing.output c ↦ on_going (decide_on n c (with_meter x.meter s))
                (publish f n r x.cursor)
          ]) (elim x.next as (λ z. Turn) [
            | deducing.stopped ↦ halted (with_meter x.meter s)
            | deducing.end ↦ going (with_meter x.meter s)
            | deducing.output c ↦ on_going (decide_on n c (with_meter x.meter s))
                (publish g n r x.cursor)
          ])
      go x y v ih = by x.next v.after
        where
          t : State
          t = with_meter x.meter s

          by : (z : Next) → After s.region (w.rest k) z (w.rest x.cursor)
              → ◌≡◌ {A = Turn} (elim z as (λ z. Turn) [
                | deducing.stopped ↦ halted t
                | deducing.end ↦ going t
                | deducing.output c ↦ on_going (decide_on n c t) (publish f n r x.cursor)
              ])
              (elim z as (λ z. Turn) [
                | deducing.stopped ↦ halted t
                | deducing.end ↦ going t
                | deducing.output c ↦ on_going (decide_on n c t) (publish g n r x.cursor)
              ])
          by deducing.stopped e = refl
          by deducing.end e = refl
          by (deducing.output c) e =
              on-eq (decide_on n c t) (publish f n r x.cursor) (publish g n r x.cursor)
              (on-map (Decides n rows fine c t) (λ u. publish f n r x.cursor u ≡ publish g n r x.cursor u) (decide_on n c t)
              (λ u d. ih x.cursor u y.cursor (self n rows fine t u d.0) (le_trans e.1 (le_of_suc-le-suc h))
              (le_trans e.1 (le_of_suc-le-suc l)))
              (decide-step n rows fine c t (record { sound = i.sound; grown = λ y h. h; same = i.same })))

  pub rounds-fuel : (f g : ℕ) (as' : List ℕ) (s : State) → Step n rows fine s s → opens n s.region < f → opens n s.region < g
      → rounds f n as' s ≡ rounds g n as' s
  unfolding rounds
  rounds-fuel zero g as' s i h k = absurd (not-suc-le-zero h)
  rounds-fuel (suc f) zero as' s i h k = absurd (not-suc-le-zero k)
  rounds-fuel (suc f) (suc g) as' s i h k = go (search s.ledger as' s.meter).found (λ bs u j a b. rounds-fuel f g bs u j a b)
    where
      t : State
      t =
          with_meter (search s.ledger as' s.meter).meter (with_header (search s.ledger as' s.meter).header s)

      next : ℕ → State → Turn
      next fuel u = elim (decided_since n s.region u.region) as (λ k. Turn) [ [] ↦ going u | a ∷ bs ↦ rounds fuel n (a ∷ bs) u ]

      go : (o : Option (List ℕ))
          → ((bs : List ℕ) (u : State) → Step n rows fine u u → opens n u.region < f → opens n u.region < g
          → rounds f n bs u ≡ rounds g n bs u)
          → ◌≡◌ {A = Turn} (elim o as (λ k. Turn) [ none ↦ halted t | some ps ↦ on_going (round n ps t) (next f) ])
          (elim o as (λ k. Turn) [ none ↦ halted t | some ps ↦ on_going (round n ps t) (next g) ])
      go none ih = refl
      go (some ps) ih =
          on-eq (round n ps t) (next f) (next g)
          (on-map (Rounded n rows fine ps t) (λ u. next f u ≡ next g u) (round n ps t)
          (λ u w. by u w.0 (decided_since n s.region u.region) refl)
          (round-step n rows fine ps t (record { sound = i.sound; grown = λ y h. h; same = i.same })))
        where
          by : (u : State) → Step n rows fine t u → (d : List ℕ) → decided_since n s.region u.region ≡ d
              → ◌≡◌ {A = Turn} (elim d as (λ k. Turn) [ [] ↦ going u | a ∷ bs ↦ rounds f n (a ∷ bs) u ])
              (elim d as (λ k. Turn) [ [] ↦ going u | a ∷ bs ↦ rounds g n (a ∷ bs) u ])
          by u w [] e = refl
          by u w (a ∷ bs) e =
              let l : opens n u.region < opens n s.region =
              opens-less n s.region u.region a w.grown (subst (In a) (sym e) (inl refl)) in
              ih (a ∷ bs) u (self n rows fine t u w) (le_trans l (le_of_suc-le-suc h)) (le_trans l (le_of_suc-le-suc k))

  -- any fuel above the number of atoms gives the closing
  pub closing-fuel : (f : ℕ) (s : State) → Step n rows fine s s → n < f → rounds f n [] s ≡ rounds (suc n) n [] s
  closing-fuel f s i h =
      rounds-fuel f (suc n) [] s i (le_trans (suc-le-suc (opens-le n s.region)) h) (suc-le-suc (opens-le n s.region))

-- ---- ticks that are stopped leave a spent meter
abbrev TickOk : Tick → Type 0
TickOk (Ticked m) = Unit {0}
TickOk (Stopped m) = Spent m

tick-ok : (t : Tick) → ((m : Meter) → t ≡ Stopped m → Spent m) → TickOk t
tick-ok (Ticked m) f = tt
tick-ok (Stopped m) f = f m refl

tick-spent : (m : Meter) → TickOk (tick_of m)
tick-spent m = tick-ok (tick_of m) (λ k e. (tick-stopped m e).1)

ticks-spent : (n : ℕ) (m : Meter) → TickOk (ticks n m)
ticks-spent n m = tick-ok (ticks n m) (λ k e. (ticks-stopped n m e).spent)

-- ---- no more output for want of a tick
abbrev StopOk : Next → Meter → Type 0
StopOk deducing.stopped m = Spent m
StopOk deducing.end m = Unit {0}
StopOk (deducing.output c) m = Unit {0}

record Stops (x : Published) : Type 0 where
  stop : StopOk x.next x.meter

stops : (x : Next) (k : OutputCursor) (m : Meter) → StopOk x m → Stops (published x k m)
unfolding published
stops x k m o = record { stop = o }

scalar-stop : (os : List ℕ) (k : OutputCursor) (t : Tick) → TickOk t → Stops (scalar_next os k t)
unfolding scalar_next
scalar-stop os k (Stopped m) o = stops deducing.stopped k m o
scalar-stop os k (Ticked m) o = stops (deducing.output _) _ m tt

give-stop : (c : ℕ) (cs : List ℕ) (k : OutputCursor) (t : Tick) → TickOk t → Stops (give c cs k t)
unfolding give
give-stop c cs k (Stopped m) o = stops deducing.stopped k m o
give-stop c cs k (Ticked m) o = stops (deducing.output c) _ m tt

packed-stop : (q : Region) (gs : List (List ℕ)) (k : OutputCursor) (m : Meter) → Stops (packed_next q gs k m)
unfolding packed_next
packed-stop q [] k m = go (pending k)
  where
    go : (l : List ℕ) → Stops (elim l as (λ z. Published) [ [] ↦ published deducing.end k m | c ∷ cs ↦ give c cs k (tick_of m) ])
    go [] = stops deducing.end k m tt
    go (c ∷ cs) = give-stop c cs k (tick_of m) (tick-spent m)
packed-stop q (b ∷ gs) k m = go (pending k) (λ l n. packed-stop q gs l n)
  where
    ticking : (t : Tick) → TickOk t → ((l : OutputCursor) (n : Meter) → Stops (packed_next q gs l n))
        → Stops (elim t as (λ z. Published) [ Stopped n ↦ published deducing.stopped k n | Ticked n ↦ packed_next q gs (loaded q b k) n ])
    ticking (Stopped n) o ih = stops deducing.stopped k n o
    ticking (Ticked n) o ih = ih (loaded q b k) n

    go : (l : List ℕ) → ((l : OutputCursor) (n : Meter) → Stops (packed_next q gs l n))
        → Stops (elim l as (λ z. Published) [
          | [] ↦ elim (tick_of m) [
            | Stopped n ↦ published deducing.stopped k n
            | Ticked n ↦ packed_next q gs (loaded q b k) n
          ]
          | c ∷ cs ↦ give c cs k (tick_of m)
        ])
    go [] ih = ticking (tick_of m) (tick-spent m) ih
    go (c ∷ cs) ih = give-stop c cs k (tick_of m) (tick-spent m)

next-stop : (q : Region) (r : Row) (k : OutputCursor) (m : Meter) → Stops (next_output q r k m)
unfolding next_output
next-stop q r k m = form (packed r) (leb (length r.outputs) k.next)
  where
    form : (a b : Bool)
        → Stops (elim a as (λ z. Published) [
          | true ↦ packed_next q (drop k.next (groups r.outputs)) k m
          | false ↦ elim b as (λ z. Published) [ true ↦ published deducing.end k m | false ↦ scalar_next r.outputs k (tick_of m) ]
        ])
    form true b = packed-stop q (drop k.next (groups r.outputs)) k m
    form false true = stops deducing.end k m tt
    form false false = scalar-stop r.outputs k (tick_of m) (tick-spent m)

-- ---- no candidates for want of a tick
abbrev FindOk : Option (List ℕ) → Meter → Type 0
FindOk none m = Spent m
FindOk (some ps) m = Unit {0}

record Finds (x : Search) : Type 0 where
  find : FindOk x.found x.meter

searched-finds : (h : Header) (ps as' : List ℕ) (t : Tick) → TickOk t → Finds (searched h ps as' t)
unfolding searched
searched-finds h ps as' (Stopped m) o = record { find = o }
searched-finds h ps as' (Ticked m) o = record { find = tt }

rebuilt-finds : (h : Header) (ps as' : List ℕ) (t : Tick) → TickOk t → Finds (rebuilt h ps as' t)
unfolding rebuilt
rebuilt-finds h ps as' (Stopped m) o = record { find = o }
rebuilt-finds h ps as' (Ticked m) o =
    searched-finds (with_stale h false) ps as' (ticks (search_ticks ps as') m) (ticks-spent (search_ticks ps as') m)

search-finds : (l : Ledger) (as' : List ℕ) (m : Meter) → Finds (search l as' m)
unfolding search
search-finds l as' m = go (leb (length l.entries) 64 || l.header.full)
  where
    t : Bool → Tick
    t b = elim b as (λ x. Tick) [ true ↦ ticks (length (postings_of (rows_of l))) m | false ↦ Ticked m ]

    fine-tick : (b : Bool) → TickOk (t b)
    fine-tick true = ticks-spent (length (postings_of (rows_of l))) m
    fine-tick false = tt

    go : (b : Bool) → Finds (elim b as (λ x. Search) [
      | true ↦ record { header = with_full l.header false; meter = m; found = some (up_to (length l.entries)) }
      | false ↦ rebuilt l.header (postings_of (rows_of l)) as' (t l.header.stale)
    ])
    go true = record { find = tt }
    go false = rebuilt-finds l.header (postings_of (rows_of l)) as' (t l.header.stale) (fine-tick l.header.stale)

-- ---- a turn halts only on a spent meter
abbrev pub Halts : Turn → Type 0
Halts (going s) = Unit {0}
Halts (conflict s) = Unit {0}
Halts (halted s) = Spent s.meter

halts-on : (P : State → Type 0) (t : Turn) (k : State → Turn) → Halts t → OnGoing P t → ((s : State) → P s → Halts (k s))
    → Halts (on_going t k)
unfolding on_going
halts-on P (going s) k h p f = f s p
halts-on P (conflict s) k h p f = tt
halts-on P (halted s) k h p f = h

abbrev Any : State → Type 0
Any s = Unit {0}

on-any : (t : Turn) → OnGoing Any t
on-any (going s) = tt
on-any (conflict s) = tt
on-any (halted s) = tt

decide-halts : (n c : ℕ) (s : State) → Halts (decide_on n c s)
unfolding decide_on
decide-halts n c s = opt-elim Halts (decide n s.region c) _ _ (λ e. tt) (λ r. tt)

publish-halts : (fuel n : ℕ) (r : Row) (k : OutputCursor) (s : State) → Halts (publish fuel n r k s)
unfolding publish
publish-halts zero n r k s = tt
publish-halts (suc fuel) n r k s =
    go (next_output s.region r k s.meter) (next-stop s.region r k s.meter) (λ l t. publish-halts fuel n r l t)
  where
    go : (x : Published) → Stops x → ((l : OutputCursor) (t : State) → Halts (publish fuel n r l t))
        → Halts (elim x.next as (λ z. Turn) [
          | deducing.stopped ↦ halted (with_meter x.meter s)
          | deducing.end ↦ going (with_meter x.meter s)
          | deducing.output c ↦ on_going (decide_on n c (with_meter x.meter s))
              (publish fuel n r x.cursor)
        ])
    go x o ih = by x.next o.stop
      where
        t : State
        t = with_meter x.meter s

        by : (z : Next) → StopOk z x.meter
            → Halts (elim z as (λ z. Turn) [
              | deducing.stopped ↦ halted t
              | deducing.end ↦ going t
              | deducing.output c ↦ on_going (decide_on n c t) (publish fuel n r x.cursor)
            ])
        by deducing.stopped e = e
        by deducing.end e = tt
        by (deducing.output c) e =
            halts-on Any (decide_on n c t) (publish fuel n r x.cursor) (decide-halts n c t) (on-any (decide_on n c t))
            (λ u w. ih x.cursor u)

follow-halts : (n : ℕ) (r : Row) (d : Deduction) (s : State) → Halts (follow n r d s)
unfolding follow
follow-halts n r Nothing s = tt
follow-halts n r Force s = publish-halts (suc (length r.outputs)) n r start_cursor s
follow-halts n r (Require c o) s = decide-halts n c.0 s

reading-halts : (n : ℕ) (r : Row) (s : State) → Halts (reading n r s)
unfolding reading
reading-halts n r s = go (ticks (deduction_ticks s.region r) s.meter) (ticks-spent (deduction_ticks s.region r) s.meter)
  where
    d : Deduction
    d = deduction s.region r

    go : (t : Tick) → TickOk t
        → Halts (elim t as (λ k. Turn) [ Stopped m ↦ halted (with_meter m s) | Ticked m ↦ follow n r d (with_named d (with_meter m s)) ])
    go (Stopped m) o = o
    go (Ticked m) o = follow-halts n r d (with_named d (with_meter m s))

hit-halts : (p : ℕ) (t : Turn) → Halts t → Halts (with_hit p t)
unfolding with_hit
hit-halts p (going s) h = tt
hit-halts p (conflict s) h = tt
hit-halts p (halted s) h = h

act-halts : (n p : ℕ) (s : State) → Halts (act n p s)
act-halts n p s = let h = reading-halts n (row_at p s.ledger) s in act_by Halts n p s h (hit-halts p _ h)

round-halts : (n : ℕ) (ps : List ℕ) (s : State) → Halts (round n ps s)
unfolding round
round-halts n [] s = tt
round-halts n (p ∷ ps) s = halts-on Any (act n p s) (round n ps) (act-halts n p s) (on-any (act n p s)) (λ u w. round-halts n ps u)

module _ (n : ℕ) (rows : List Row) (fine : Fine rows) where
  pub rounds-halts : (fuel : ℕ) (as' : List ℕ) (s : State) → Step n rows fine s s → opens n s.region < fuel → Halts (rounds fuel n as' s)
  unfolding rounds
  rounds-halts zero as' s i h = absurd (not-suc-le-zero h)
  rounds-halts (suc fuel) as' s i h =
      go (search s.ledger as' s.meter) (search-finds s.ledger as' s.meter) (λ bs u j l. rounds-halts fuel bs u j l)
    where
      go : (x : Search) → Finds x
          → ((bs : List ℕ) (u : State) → Step n rows fine u u → opens n u.region < fuel → Halts (rounds fuel n bs u))
          → Halts (elim x.found as (λ k. Turn) [
            | none
                ↦ halted
                (with_meter x.meter (with_header x.header s))
            | some ps
                ↦ on_going (round n ps
                (with_meter x.meter (with_header x.header s)))
                (λ u. elim (decided_since n s.region u.region) as (λ k. Turn) [ [] ↦ going u | a ∷ bs ↦ rounds fuel n (a ∷ bs) u ])
          ])
      go x o ih = by x.found o.find
        where
          t : State
          t = with_meter x.meter (with_header x.header s)

          next : State → Turn
          next u = elim (decided_since n s.region u.region) as (λ k. Turn) [ [] ↦ going u | a ∷ bs ↦ rounds fuel n (a ∷ bs) u ]

          after : (u : State) → Step n rows fine t u → (d : List ℕ) → decided_since n s.region u.region ≡ d
              → Halts (elim d as (λ k. Turn) [ [] ↦ going u | a ∷ bs ↦ rounds fuel n (a ∷ bs) u ])
          after u w [] e = tt
          after u w (a ∷ bs) e =
              ih (a ∷ bs) u (self n rows fine t u w)
              (le_trans (opens-less n s.region u.region a w.grown (subst (In a) (sym e) (inl refl))) (le_of_suc-le-suc h))

          by : (f : Option (List ℕ)) → FindOk f x.meter
              → Halts (elim f as (λ k. Turn) [ none ↦ halted t | some ps ↦ on_going (round n ps t) next ])
          by none e = e
          by (some ps) e =
              halts-on (Rounded n rows fine ps t) (round n ps t) next (round-halts n ps t)
              (round-step n rows fine ps t (record { sound = i.sound; grown = λ y h. h; same = i.same }))
              (λ u w. after u w.0 (decided_since n s.region u.region) refl)

  pub closing-halts : (l : Ledger) (r : Region) (m : Meter) → l.header.limits.atoms ≡ n → rows_e l.entries ≡ rows → Sound n r
      → Halts (closing l r m)
  unfolding closing
  closing-halts l r m e q s =
      subst (λ (k : ℕ). Halts
      (rounds (suc k) k []
      (begun l r m))) (sym e)
      (rounds-halts (suc n) []
      (begun l r m)
      (record { sound = s; grown = λ x t. t; same = q }) (suc-le-suc (opens-le n r)))

-- ---- Close answers Stopped only on a spent meter
abbrev IsStopped : Reply → Type 0
IsStopped (refused k) = ⊥
IsStopped (answered c v) = c ≡ 2
IsStopped (named c v o) = ⊥

turn-spent : (x y : List ℕ) (m : Meter) (t : Turn) → Halts t
    → (closed_by t x y m).answer ≡ close_reply close-answer.Stopped
    → Spent
    (closed_by t x y m).meter
unfolding close_end
turn-spent x y m (going u) i e = absurd (let z : ◌≡◌ {A = ℕ} 0 2 = subst IsStopped (sym e) refl in omega arith)
turn-spent x y m (conflict u) i e = absurd (let z : ◌≡◌ {A = ℕ} 1 2 = subst IsStopped (sym e) refl in omega arith)
turn-spent x y m (halted u) i e = i

pub close-stopped : (s : Lent) (held cut x y : List ℕ) (m : Meter) → (close s held cut x y m).answer ≡ close_reply close-answer.Stopped
    → Spent (close s held cut x y m).meter
unfolding close
close-stopped s held cut x y m = go (refusal tests) refl
  where
    tests : List (Bool × ℕ)
    tests =
        accepts s (eqb (length x) s.header.limits.tier_rows && eqb (length y) s.header.limits.atoms)
        ((region_ok s held cut, 6) ∷ [])

    ending : Option ℕ → CloseEnd
    ending o = elim o as (λ k. CloseEnd)
        [ some n ↦ unclosed n s held cut x y m | none ↦ closed_by (closing (ledger_in s) (region held cut) m) x y m ]

    go : (o : Option ℕ) → refusal tests ≡ o → (ending o).answer ≡ close_reply close-answer.Stopped → Spent (ending o).meter
    go (some k) e q = absurd (subst IsStopped (sym q) refl)
    go none e q =
        let a = accepted s (eqb (length x) s.header.limits.tier_rows && eqb (length y) s.header.limits.atoms)
        ((region_ok s held cut, 6) ∷ []) e in
        turn-spent x y m (closing (ledger_in s) (region held cut) m)
        (closing-halts s.header.limits.atoms (rows_e (ledger_in s).entries) (fine-in s a.0) (ledger_in s) (region held cut) m
        (atoms-in s) refl (region-ok s held cut (refusal-cons (region_ok s held cut) 6 [] a.1).0)) q
