-- The rounds of a closing: at the end every row is settled. Assumes nothing.
use mathlib.Core.Path.{◌≡◌, refl, sym, ap, ◌∙◌, subst}
use mathlib.Core.Logic.{◌⊎◌, inl, inr}
use mathlib.Core.Bool.{Bool, true, false, not, ◌&&◌}
use mathlib.Core.List.{List, [], ◌∷◌}
use mathlib.Core.Option.{Option, none, some}
use Prim.Native.Nat.{ℕ, zero, suc, ◌*◌, ◌≤◌, ◌<◌, zero-le, suc-le-suc}
use native.Mathlib.Nat.{not-suc-le-zero, le_of_suc-le-suc}
use native.Mathlib.Omega.{arith}
use lib.ListN.{length, get_or}
use lib.Dec.{T, eqb, ltb, eqb_refl, ltb→lt}
use Rattle.lists.specs.Lists.{select, up_to}
use Rattle.lists.proofs.Bools.{and-of, not-of, or_l, or_r, T_true, T_of}
use Rattle.lists.proofs.Selects.{length-range, select_short}
use Rattle.words.specs.Literal.{atom, opposite}
use Rattle.words.specs.Region.{Region, has, holds, contradicts, decided, decide, mark_literal}
use Rattle.words.proofs.Regions.{Sound}
use Rattle.meter.specs.declared.Meter.{Meter}
use Rattle.meter.specs.Meter.{ticks}
use Rattle.model.specs.declared.Deduction.{Deduction}
use Rattle.model.specs.declared.Deduction.TheVariants.{Nothing, Force, Require}
use Rattle.model.specs.declared.OutputCursor.{OutputCursor}
use Rattle.model.specs.Records.{Row, Ledger, rows_of, row_at, hit_entry, with_full, max_rows}
use Rattle.model.specs.Deduction.{Next, Published, next_output, deduction, deduction_ticks, start_cursor}
use Rattle.model.specs.Deduction as deducing
use Rattle.model.specs.Postings.{candidates as search}
use Rattle.model.specs.Closing.{State, Turn, going, conflict, halted, on_going, with_meter, with_header, with_region, hit_at, decide_on}
use Rattle.model.specs.Closing.{with_named, begun, with_hit, publish, follow, reading, act, round, decided_since, rounds, closing}
use Rattle.model.specs.Priority.{In, Contains, ClosedFor, Says}
use Rattle.model.proofs.Cover.{and_left, and_right}
use Rattle.model.proofs.Packing.{Asc}
use Rattle.model.proofs.Priority.Covering.{rows_e}
use Rattle.model.proofs.Priority.Fine.{Fine}
use Rattle.model.proofs.Priority.Steps.{tick-elim}
use Rattle.model.proofs.Priority.Conditions.{mark-sound, holds-mark}
use Rattle.model.proofs.Priority.Quiet.{adjust-rows, act_by}
use Rattle.model.proofs.Priority.Closed.{says, in-or-not}
use Rattle.model.proofs.Priority.Cursors.{Good, Gives as Given, start-good, next-gives}
use Rattle.model.proofs.Priority.Inside.{double, not-con, row_in, empty-row, IsForce, asc-row}
use Rattle.model.proofs.Priority.Settling.{Settled, Quiet, decided-grow, settled-grow, quiet-later, settled-forced, settled-nothing}
use Rattle.model.proofs.Priority.Settling.{settled-required}
use Rattle.model.proofs.Priority.Reaching.{After, Left, Resting, resting}
use Rattle.model.proofs.Priority.Searching.{in-up_to, in-select, select_in, Own, Reads, FoundOk, search-reads}
use Rattle.model.proofs.Entries.{hit-row}

-- ---- a turn that goes on
abbrev pub OnGoing : (State → Type 0) → Turn → Type 0
OnGoing P (going s) = P s
OnGoing P (conflict s) = Unit {0}
OnGoing P (halted s) = Unit {0}

pub on-ok : (P Q : State → Type 0) (t : Turn) (k : State → Turn) → OnGoing P t → ((s : State) → P s → OnGoing Q (k s))
    → OnGoing Q (on_going t k)
unfolding on_going
on-ok P Q (going s) k p f = f s p
on-ok P Q (conflict s) k p f = tt
on-ok P Q (halted s) k p f = tt

pub on-map : (P Q : State → Type 0) (t : Turn) → ((s : State) → P s → Q s) → OnGoing P t → OnGoing Q t
on-map P Q (going s) f p = f s p
on-map P Q (conflict s) f p = tt
on-map P Q (halted s) f p = tt

pub on-eq : (t : Turn) (f g : State → Turn) → OnGoing (λ s. f s ≡ g s) t → on_going t f ≡ on_going t g
unfolding on_going
on-eq (going s) f g e = e
on-eq (conflict s) f g e = refl
on-eq (halted s) f g e = refl

-- ---- the atoms decided
decided-in : (n : ℕ) (r : Region) → Sound n r → (a : ℕ) → T (decided r a) → a < n
unfolding decided
decided-in n r s a t = go (has r.held a) refl t
  where
    go : (b : Bool) → has r.held a ≡ b → T (elim b as (λ k. Bool) [ true ↦ true | false ↦ has r.cut a ]) → a < n
    go true e u = s.held.inside a e
    go false e u = s.cut.inside a (T_true (has r.cut a) u)

since-has : (n : ℕ) (r q : Region) → Sound n q → (a : ℕ) → T (decided q a) → decided r a ≡ false → In a (decided_since n r q)
unfolding decided_since
since-has n r q s a t e =
    in-select (λ a. decided q a && not (decided r a)) (up_to n) a (in-up_to n a (decided-in n q s a t))
    (and-of (decided q a) (not (decided r a)) t (not-of (decided r a) e))

since-in : (n : ℕ) (r q : Region) (a : ℕ) → In a (decided_since n r q) → In a (up_to n) × T (decided q a && not (decided r a))
unfolding decided_since
since-in n r q a i = select_in (λ a. decided q a && not (decided r a)) (up_to n) a i

-- a row with no atom among those decided
quiet-since : (n : ℕ) (r q : Region) (s : Row) → Sound n q → ((x : ℕ) → Own s x → In (atom x) (decided_since n r q) → ⊥) → Quiet s r q
quiet-since n r q s so f x o t = go (decided r (atom x)) refl
  where
    go : (b : Bool) → decided r (atom x) ≡ b → T (decided r (atom x))
    go true e = T_of e
    go false e = absurd (f x o (since-has n r q so (atom x) t e))

-- ---- the open atoms grow fewer
unfoldable pub opens : ℕ → Region → ℕ
opens n r = length (select (λ a. not (decided r a)) (up_to n))

fewer : (f g : ℕ → Bool) (xs : List ℕ) → ((a : ℕ) → T (f a) → T (g a)) → length (select f xs) ≤ length (select g xs)
unfolding select
fewer f g [] h = zero-le
fewer f g (x ∷ xs) h = go (f x) (g x) (h x) (fewer f g xs h)
  where
    go : (a b : Bool) → (T a → T b) → length (select f xs) ≤ length (select g xs)
        → length {A = ℕ} (elim a as (λ z. List ℕ) [ true ↦ x ∷ select f xs | false ↦ select f xs ])
        ≤ length {A = ℕ} (elim b as (λ z. List ℕ) [ true ↦ x ∷ select g xs | false ↦ select g xs ])
    go true true k l = suc-le-suc l
    go true false k l = absurd (k tt)
    go false true k l = omega arith
    go false false k l = l

fewer-by : (f g : ℕ → Bool) (xs : List ℕ) (a : ℕ) → ((b : ℕ) → T (f b) → T (g b)) → In a xs → (T (f a) → ⊥) → T (g a)
    → length (select f xs) < length (select g xs)
unfolding select
fewer-by f g [] a h m u v = absurd m
fewer-by f g (x ∷ xs) a h m u v = go (f x) (g x) refl refl (h x) m (fewer f g xs h) (λ i. fewer-by f g xs a h i u v)
  where
    go : (b c : Bool) → f x ≡ b → g x ≡ c → (T b → T c) → In a (x ∷ xs) → length (select f xs) ≤ length (select g xs)
        → (In a xs → length (select f xs) < length (select g xs))
        → length {A = ℕ} (elim b as (λ z. List ℕ) [ true ↦ x ∷ select f xs | false ↦ select f xs ])
        < length {A = ℕ} (elim c as (λ z. List ℕ) [ true ↦ x ∷ select g xs | false ↦ select g xs ])
    go true c p q k (inl e) l ih = absurd (u (T_of (ap f e ∙ p)))
    go true true p q k (inr i) l ih = suc-le-suc (ih i)
    go true false p q k (inr i) l ih = absurd (k tt)
    go false true p q k i l ih = suc-le-suc l
    go false false p q k (inl e) l ih = absurd (subst T (ap g e ∙ q) v)
    go false false p q k (inr i) l ih = ih i

not-both : (b : Bool) → T (not b) → T b → ⊥
not-both true u v = u
not-both false u v = v

not-grow : (a b : Bool) → (T a → T b) → T (not b) → T (not a)
not-grow true b f t = absurd (not-both b t (f tt))
not-grow false b f t = tt

pub opens-less : (n : ℕ) (r q : Region) (a : ℕ) → Contains q r → In a (decided_since n r q) → opens n q < opens n r
unfolding opens
opens-less n r q a c i =
    let z = since-in n r q a i in
    fewer-by (λ a. not (decided q a)) (λ a. not (decided r a)) (up_to n) a
    (λ b t. not-grow (decided r b) (decided q b) (decided-grow r q c b) t) z.0
    (λ t. not-both (decided q a) t (and_left (decided q a) (not (decided r a)) z.1)) (and_right (decided q a) (not (decided r a)) z.1)

pub opens-le : (n : ℕ) (r : Region) → opens n r ≤ n
unfolding opens up_to
opens-le n r =
    subst (λ (k : ℕ). length (select (λ a. not (decided r a)) (up_to n)) ≤ k) (length-range 0 n)
    (select_short (λ a. not (decided r a)) (up_to n))

-- ---- one state after another
module _ (n : ℕ) (rows : List Row) (fine : Fine rows) where
  pub record Step (s t : State) : Type 0 where
    pub sound : Sound n t.region
    pub grown : Contains t.region s.region
    pub same : rows_e t.ledger.entries ≡ rows

  pub step-trans : (s t u : State) → Step s t → Step t u → Step s u
  step-trans s t u a b = record { sound = b.sound; grown = λ x h. b.grown x (a.grown x h); same = b.same }

  -- ---- deciding a literal
  abbrev pub Decides : ℕ → State → State → Type 0
  Decides c s t = Step s t × T (holds t.region c)

  pub decide-step : (c : ℕ) (s : State) → Step s s → OnGoing (Decides c s) (decide_on n c s)
  unfolding decide_on decide
  decide-step c s i = go (ltb (atom c) n && not (contradicts s.region c)) refl
    where
      go : (b : Bool) → (ltb (atom c) n && not (contradicts s.region c)) ≡ b
          → OnGoing (Decides c s) (elim (elim b as (λ k. Option Region) [ true ↦ some (mark_literal s.region c) | false ↦ none ])
          as (λ k. Turn) [ none ↦ conflict s | some r ↦ going (with_region r s) ])
      go true e =
          let t = T_of e in
          let h : c < 2 * n = double n c (ltb→lt (atom c) n (and_left (ltb (atom c) n) _ t)) in
          let free : (T (holds s.region (opposite c)) → ⊥) = λ u. not-con s.region c (and_right (ltb (atom c) n) _ t) u in (
            record {
              sound = mark-sound n s.region c i.sound h free;
              grown = λ x u. subst T (sym (holds-mark n s.region c x i.sound h)) (or_l (holds s.region x) (eqb x c) u);
              same = i.same;
            },
            subst T (sym (holds-mark n s.region c c i.sound h)) (or_r (holds s.region c) (eqb c c) (eqb_refl c)),
          )
      go false e = tt

  -- ---- publishing
  abbrev pub AllOut : Row → State → State → Type 0
  AllOut r s t = Step s t × ((y : ℕ) → In y r.outputs → T (holds t.region y))

  publish-step : (fuel : ℕ) (r : Row) (w : Resting r) (k : OutputCursor) (s : State) → Asc 0 r.outputs → Good r k → Step s s
      → length (w.rest k) < fuel
      → ((y : ℕ) → In y r.outputs → In y (w.rest k) ⊎ T (holds s.region y)) → OnGoing (AllOut r s) (publish fuel n r k s)
  unfolding publish
  publish-step zero r w k s a g i l f = absurd (not-suc-le-zero l)
  publish-step (suc fuel) r w k s a g i l f =
      go (next_output s.region r k s.meter) (next-gives s.region r k s.meter a g) (w.turn s.region k s.meter g)
      (λ x t h j m z. publish-step fuel r w x t a h j m z)
    where
      go : (x : Published) → Given r x → Left w.rest s.region (w.rest k) x
          → ((x : OutputCursor) (t : State) → Good r x → Step t t → length (w.rest x) < fuel
          → ((y : ℕ) → In y r.outputs → In y (w.rest x) ⊎ T (holds t.region y)) → OnGoing (AllOut r t) (publish fuel n r x t))
          → OnGoing (AllOut r s) (elim x.next as (λ z. Turn) [
            | deducing.stopped ↦ halted (with_meter x.meter s)
            | deducing.end ↦ going (with_meter x.meter s)
            | deducing.output c ↦ on_going (decide_on n c (with_meter x.meter s))
                (publish fuel n r x.cursor)
          ])
      go x y v ih = by x.next v.after
        where
          t : State
          t = with_meter x.meter s

          st : Step s t
          st = record { sound = i.sound; grown = λ y h. h; same = i.same }

          tt' : Step t t
          tt' = record { sound = i.sound; grown = λ y h. h; same = i.same }

          by : (z : Next) → After s.region (w.rest k) z (w.rest x.cursor)
              → OnGoing (AllOut r s) (elim z as (λ z. Turn) [
                | deducing.stopped ↦ halted t
                | deducing.end ↦ going t
                | deducing.output c ↦ on_going (decide_on n c t) (publish fuel n r x.cursor)
              ])
          by deducing.stopped e = tt
          by deducing.end e = (st, λ y j. pick y (f y j))
            where
              pick : (y : ℕ) → In y (w.rest k) ⊎ T (holds s.region y) → T (holds s.region y)
              pick y (inl m) = e y m
              pick y (inr u) = u
          by (deducing.output c) e =
              on-ok (Decides c t) (AllOut r s) (decide_on n c t) (publish fuel n r x.cursor) (decide-step c t tt')
              (λ u d. on-map (AllOut r u) (AllOut r s) (publish fuel n r x.cursor u)
              (λ v p. (step-trans s u v (step-trans s t u st d.0) p.0, p.1))
              (ih x.cursor u y.cursor (record { sound = d.0.sound; grown = λ y h. h; same = d.0.same }) (less e.1)
              (λ y j. pick u d y (f y j))))
            where
              less : length (w.rest x.cursor) < length (w.rest k) → length (w.rest x.cursor) < fuel
              less h = omega arith

              pick : (u : State) → Decides c t u → (y : ℕ) → In y (w.rest k) ⊎ T (holds s.region y)
                  → In y (w.rest x.cursor) ⊎ T (holds u.region y)
              pick u d y (inr h) = inr (d.0.grown y h)
              pick u d y (inl m) = part (e.0 y m)
                where
                  part : (y ≡ c) ⊎ (In y (w.rest x.cursor) ⊎ T (holds s.region y))
                      → In y (w.rest x.cursor) ⊎ T (holds u.region y)
                  part (inl q) = inr (subst (λ (z : ℕ). T (holds u.region z)) (sym q) d.1)
                  part (inr (inl j)) = inl j
                  part (inr (inr h)) = inr (d.0.grown y h)

  -- ---- one row
  unfoldable pub row_of : ℕ → Row
  row_of p = get_or rows p empty-row

  pub self : (s t : State) → Step s t → Step t t
  self s t i = record { sound = i.sound; grown = λ y h. h; same = i.same }

  abbrev Settles : Row → State → State → Type 0
  Settles r s t = Step s t × Settled r t.region

  follow-step : (r : Row) (d : Deduction) (s : State) → deduction s.region r ≡ d → Asc 0 r.outputs → Step s s
      → OnGoing (Settles r s) (follow n r d s)
  unfolding follow
  follow-step r Nothing s e a i = (i, settled-nothing r s.region e)
  follow-step r Force s e a i =
      let w = resting r a in
      on-map (AllOut r s) (Settles r s) (publish (suc (length r.outputs)) n r start_cursor s)
      (λ t z. (z.0, settled-forced r s.region t.region e z.0.grown z.1))
      (publish-step (suc (length r.outputs)) r w start_cursor s a (start-good r) i (suc-le-suc w.short) (λ y j. inl (w.all y j)))
  follow-step r (Require c o) s e a i =
      on-map (Decides c.0 s) (Settles r s) (decide_on n c.0 s)
      (λ t z. (
        z.0,
        settled-required n r s.region t.region c.0
            (says s.region r c.0 (subst (λ (d : Deduction). Says d r c.0) (sym e) refl)) (λ f. subst IsForce (sym f ∙ e) tt)
            z.0.sound
            z.0.grown z.1,
      ))
      (decide-step c.0 s i)

  reading_step : (r : Row) (s : State) → Asc 0 r.outputs → Step s s → OnGoing (Settles r s) (reading n r s)
  unfolding reading
  reading_step r s a i =
      tick-elim (OnGoing (Settles r s)) (ticks (deduction_ticks s.region r) s.meter) _ _ (λ m. tt)
      (λ m. on-map (Settles r (at m)) (Settles r s) (follow n r (deduction s.region r) (at m))
      (λ t z. (record { sound = z.0.sound; grown = z.0.grown; same = z.0.same }, z.1))
      (follow-step r (deduction s.region r) (at m) refl a (record { sound = i.sound; grown = λ y h. h; same = i.same })))
    where
      at : Meter → State
      at m = with_named (deduction s.region r) (with_meter m s)

  -- a hit changes no row and no region
  hit-step : (p : ℕ) (r : Row) (s : State) (t : Turn) → OnGoing (Settles r s) t → OnGoing (Settles r s) (with_hit p t)
  unfolding with_hit hit_at
  hit-step p r s (going t) z = (
    record {
      sound = z.0.sound;
      grown = z.0.grown;
      same = adjust-rows hit_entry hit-row p t.ledger.entries ∙ z.0.same;
    },
    z.1,
  )
  hit-step p r s (conflict t) z = tt
  hit-step p r s (halted t) z = tt

  row-at : (p : ℕ) (s : State) → Step s s → row_at p s.ledger ≡ row_of p
  unfolding row_at rows_of row_of
  row-at p s i = ap (λ (l : List Row). get_or l p empty-row) i.same

  asc-at : (p : ℕ) → Asc 0 (row_of p).outputs
  unfolding row_of
  asc-at p = asc-row rows fine (get_or rows p empty-row) (row_in rows p empty-row)

  act-step : (p : ℕ) (s : State) → Step s s → OnGoing (Settles (row_of p) s) (act n p s)
  act-step p s i =
      let z = subst (λ (r : Row). OnGoing (Settles (row_of p) s) (reading n r s)) (sym (row-at p s i))
      (reading_step (row_of p) s (asc-at p) i) in
      act_by (OnGoing (Settles (row_of p) s)) n p s z (hit-step p (row_of p) s _ z)

  -- ---- a round: the rows read are settled, if no atom of theirs was decided in it
  abbrev pub Rounded : List ℕ → State → State → Type 0
  Rounded ps s t = Step s t × ((p : ℕ) → In p ps → Quiet (row_of p) s.region t.region → Settled (row_of p) t.region)

  pub round-step : (ps : List ℕ) (s : State) → Step s s → OnGoing (Rounded ps s) (round n ps s)
  unfolding round
  round-step [] s i = (i, λ p m. absurd m)
  round-step (p ∷ ps) s i =
      on-ok (Settles (row_of p) s) (Rounded (p ∷ ps) s) (act n p s) (round n ps) (act-step p s i)
      (λ u z. on-map (Rounded ps u) (Rounded (p ∷ ps) s) (round n ps u) (λ t w. (step-trans s u t z.0 w.0, each u z t w))
      (round-step ps u (self s u z.0)))
    where
      each : (u : State) → Settles (row_of p) s u → (t : State) → Rounded ps u t → (q : ℕ) → In q (p ∷ ps)
          → Quiet (row_of q) s.region t.region → Settled (row_of q) t.region
      each u z t w q (inl e) k = subst (λ (y : ℕ). Settled (row_of y) t.region) (sym e)
          (settled-grow n (row_of p) u.region t.region w.0.sound w.0.grown
          (quiet-later (row_of p) s.region u.region t.region z.0.grown
          (subst (λ (y : ℕ). Quiet (row_of y) s.region t.region) e k)) z.1)
      each u z t w q (inr m) k = w.1 q m (quiet-later (row_of q) s.region u.region t.region z.0.grown k)

  -- ---- all rounds
  -- a full scan comes, or every row with no atom among as' is settled
  abbrev Ready : State → List ℕ → Type 0
  Ready s as' = T s.ledger.header.full ⊎ ((r : Row) → In r rows → ((x : ℕ) → Own r x → In (atom x) as' → ⊥) → Settled r s.region)

  abbrev Ended : State → Type 0
  Ended t = ClosedFor rows t.region

  some_in : (xs as' : List ℕ) → ((x : ℕ) × In x xs × In (atom x) as') ⊎ ((x : ℕ) → In x xs → In (atom x) as' → ⊥)
  some_in [] as' = inr (λ x m. absurd m)
  some_in (y ∷ ys) as' = go (in-or-not (atom y) as') (some_in ys as')
    where
      go : In (atom y) as' ⊎ (In (atom y) as' → ⊥) → ((x : ℕ) × In x ys × In (atom x) as') ⊎ ((x : ℕ) → In x ys → In (atom x) as' → ⊥)
          → ((x : ℕ) × In x (y ∷ ys) × In (atom x) as') ⊎ ((x : ℕ) → In x (y ∷ ys) → In (atom x) as' → ⊥)
      go (inl i) z = inl (y, inl refl, i)
      go (inr f) (inl z) = inl (z.0, inr z.1, z.2)
      go (inr f) (inr g) = inr out
        where
          out : (x : ℕ) → In x (y ∷ ys) → In (atom x) as' → ⊥
          out x (inl e) i = f (subst (λ (k : ℕ). In (atom k) as') e i)
          out x (inr m) i = g x m i

  some-own : (r : Row) (as' : List ℕ) → ((x : ℕ) × Own r x × In (atom x) as') ⊎ ((x : ℕ) → Own r x → In (atom x) as' → ⊥)
  some-own r as' = go (some_in r.conditions as') (some_in r.outputs as')
    where
      go : ((x : ℕ) × In x r.conditions × In (atom x) as') ⊎ ((x : ℕ) → In x r.conditions → In (atom x) as' → ⊥)
          → ((x : ℕ) × In x r.outputs × In (atom x) as') ⊎ ((x : ℕ) → In x r.outputs → In (atom x) as' → ⊥)
          → ((x : ℕ) × Own r x × In (atom x) as') ⊎ ((x : ℕ) → Own r x → In (atom x) as' → ⊥)
      go (inl z) w = inl (z.0, inl z.1, z.2)
      go (inr f) (inl z) = inl (z.0, inr z.1, z.2)
      go (inr f) (inr g) = inr out
        where
          out : (x : ℕ) → Own r x → In (atom x) as' → ⊥
          out x (inl m) i = f x m i
          out x (inr m) i = g x m i

  get_in : (rs : List Row) (p : ℕ) → p < length rs → In (get_or rs p empty-row) rs
  get_in [] p h = absurd (not-suc-le-zero h)
  get_in (r ∷ rs) zero h = inl refl
  get_in (r ∷ rs) (suc p) h = inr (get_in rs p (le_of_suc-le-suc h))

  in-at : (rs : List Row) (r : Row) → In r rs → (p : ℕ) × (p < length rs) × (get_or rs p empty-row ≡ r)
  in-at [] r m = absurd m
  in-at (q ∷ rs) r (inl e) = (0, suc-le-suc zero-le, sym e)
  in-at (q ∷ rs) r (inr m) = let z = in-at rs r m in (suc z.0, suc-le-suc z.1, z.2)

  -- each row is read in the round, or settled before it
  read-or : (s : State) (as' ps : List ℕ) → Ready s as' → Reads s.ledger.header.full rows as' ps → (p : ℕ) → p < length rows
      → In p ps ⊎ Settled (row_of p) s.region
  unfolding row_of
  read-or s as' ps (inl t) f p h = inl (f p h (inl t))
  read-or s as' ps (inr g) f p h = go (some-own (get_or rows p empty-row) as')
    where
      go : ((x : ℕ) × Own (get_or rows p empty-row) x × In (atom x) as') ⊎ ((x : ℕ) → Own (get_or rows p empty-row) x → In (atom x) as' → ⊥)
          → In p ps ⊎ Settled (get_or rows p empty-row) s.region
      go (inl z) = inl (f p h (inr z))
      go (inr k) = inr (g (get_or rows p empty-row) (get_in rows p h) k)

  -- after the round every row with no atom decided in it is settled
  round-ok : (s u : State) (ps : List ℕ) → ((p : ℕ) → p < length rows → In p ps ⊎ Settled (row_of p) s.region) → Rounded ps s u
      → (r : Row) → In r rows → ((x : ℕ) → Own r x → In (atom x) (decided_since n s.region u.region) → ⊥) → Settled r u.region
  unfolding row_of
  round-ok s u ps f w r m k = subst (λ (y : Row). Settled y u.region) z.2 (go (f z.0 z.1))
    where
      z : (p : ℕ) × (p < length rows) × (get_or rows p empty-row ≡ r)
      z = in-at rows r m

      quiet : Quiet (get_or rows z.0 empty-row) s.region u.region
      quiet = subst (λ (y : Row). Quiet y s.region u.region) (sym z.2) (quiet-since n s.region u.region r w.0.sound k)

      go : In z.0 ps ⊎ Settled (get_or rows z.0 empty-row) s.region → Settled (get_or rows z.0 empty-row) u.region
      go (inl i) = w.1 z.0 i quiet
      go (inr h) = settled-grow n (get_or rows z.0 empty-row) s.region u.region w.0.sound w.0.grown quiet h

  pub rounds-closed : (fuel : ℕ) (as' : List ℕ) (s : State) → length rows ≤ max_rows → Step s s → Ready s as'
      → OnGoing Ended (rounds fuel n as' s)
  unfolding rounds
  rounds-closed zero as' s few i y = tt
  rounds-closed (suc fuel) as' s few i y =
      go (search s.ledger as' s.meter).found
      (subst (λ (l : List Row). FoundOk s.ledger.header.full l as' (search s.ledger as' s.meter).found) i.same
      (search-reads s.ledger as' s.meter (subst (λ (l : List Row). length l ≤ max_rows) (sym i.same) few)))
      (λ bs u j k. rounds-closed fuel bs u few j k)
    where
      t : State
      t =
          with_meter (search s.ledger as' s.meter).meter (with_header (search s.ledger as' s.meter).header s)

      next : State → Turn
      next u = elim (decided_since n s.region u.region) as (λ k. Turn) [ [] ↦ going u | a ∷ bs ↦ rounds fuel n (a ∷ bs) u ]

      go : (o : Option (List ℕ)) → FoundOk s.ledger.header.full rows as' o
          → ((bs : List ℕ) (u : State) → Step u u → Ready u bs → OnGoing Ended (rounds fuel n bs u))
          → OnGoing Ended (elim o as (λ k. Turn) [ none ↦ halted t | some ps ↦ on_going (round n ps t) next ])
      go none f ih = tt
      go (some ps) f ih =
          on-ok (Rounded ps t) Ended (round n ps t) next (round-step ps t (record { sound = i.sound; grown = λ y h. h; same = i.same }))
          (λ u w. after u (record { sound = w.0.sound; grown = w.0.grown; same = w.0.same }, w.1))
        where
          after : (u : State) → Rounded ps s u → OnGoing Ended (next u)
          after u w = by (decided_since n s.region u.region) refl
            where
              by : (d : List ℕ) → decided_since n s.region u.region ≡ d
                  → OnGoing Ended (elim d as (λ k. Turn) [ [] ↦ going u | a ∷ bs ↦ rounds fuel n (a ∷ bs) u ])
              by [] e = λ r m. round-ok s u ps (read-or s as' ps y f) w r m (λ x o j. subst (In (atom x)) e j)
              by (a ∷ bs) e =
                  ih (a ∷ bs) u (self s u w.0)
                  (inr (λ r m k. round-ok s u ps (read-or s as' ps y f) w r m (λ x o j. k x o (subst (In (atom x)) e j))))

  full-true : (l : Ledger) → (with_full l.header true).full ≡ true
  unfolding with_full
  full-true l = refl

  pub closing-closed : (l : Ledger) (r : Region) (m : Meter) → length rows ≤ max_rows → l.header.limits.atoms ≡ n
      → rows_e l.entries ≡ rows → Sound n r → OnGoing Ended (closing l r m)
  unfolding closing
  closing-closed l r m few e q s =
      subst (λ (k : ℕ). OnGoing Ended
      (rounds (suc k) k []
      (begun l r m))) (sym e)
      (rounds-closed (suc n) [] _ few (record { sound = s; grown = λ x t. t; same = q }) (inl (T_of (full-true l))))
