-- A closing stays inside every closed region above the given one; a Conflict leaves none. Assumes nothing.
use mathlib.Core.Path.{◌≡◌, refl, sym, ◌∙◌, ap, subst}
use mathlib.Core.Logic.{◌⊎◌, inl, inr}
use mathlib.Core.Bool.{Bool, true, false, ◌&&◌, ◌||◌, not}
use mathlib.Core.List.{List, [], ◌∷◌}
use mathlib.Core.Option.{Option, none, some}
use Prim.Native.Nat.{ℕ, zero, suc, ◌*◌, ◌<◌}
use native.Mathlib.Omega.{arith}
use lib.Dec.{T, eqb, ltb, eqb→eq, ltb→lt}
use Rattle.lists.proofs.Bools.{T_true, T_of}
use Rattle.words.specs.Literal.{atom}
use Rattle.words.specs.Region.{Region, decide}
use Rattle.meter.specs.declared.Meter.{Meter}
use Rattle.meter.specs.Meter.{ticks}
use Rattle.model.specs.Records.{Row, Ledger, rows_of, row_at}
use Rattle.model.specs.Records.{hit_entry}
use Rattle.model.specs.Closing.{State, Turn, going, conflict, halted, on_going, with_meter, with_region, with_contradicted}
use Rattle.model.specs.Closing.{with_header, hit_at, counted, decide_on, naming, begun}
use Rattle.model.specs.Closing.{with_hit, publish, follow, reading, act, round, decided_since, rounds, closing}
use Rattle.model.specs.Priority.{In}
use Rattle.model.proofs.Cover.{and_left, and_right}
use Rattle.model.proofs.Packing.{Asc}
use Rattle.model.proofs.Priority.Covering.{rows_e}
use Rattle.model.proofs.Priority.Fine.{Fine}
use Rattle.model.proofs.Priority.Steps.{opt-elim, tick-elim, Over}
use Rattle.model.specs.declared.Deduction.{Deduction}
use Rattle.model.specs.Contradicted.{Contradicted}
use Rattle.model.specs.declared.Deduction.TheVariants.{Nothing, Force, Require}
use Rattle.model.specs.declared.OutputCursor.{OutputCursor}
use Rattle.model.specs.Deduction.{Next, Published, next_output, deduction, deduction_ticks}
use Rattle.model.specs.Deduction as deducing
use Rattle.model.specs.Postings.{candidates as search}
use mathlib.Core.Bool.{true≢false}
use lib.ListN.{get_or}
use lib.Dec.{T_not, lt→ltb}
use Rattle.lists.specs.Lists.{select}
use Rattle.words.specs.Literal.{opposite}
use Rattle.words.specs.Region.{holds, contradicts, mark_literal}
use Rattle.words.proofs.Regions.{Sound}
use Rattle.words.proofs.Deciding.{sound-apart, sound-inside}
use Rattle.model.specs.Deduction.{failing, contradicted, requiring, deduce_from}
use Rattle.model.specs.Priority.{Contains, ClosedFor, Says}
use Rattle.model.proofs.Cover.{or_split}
use Rattle.model.proofs.Priority.Conditions.{row-clean, mark-sound, holds-mark}
use Rattle.model.proofs.Priority.Cursors.{Good, Gives as Given, start-good, next-gives}
use Rattle.model.proofs.Priority.Quiet.{adjust-rows, act_by}
use Rattle.model.proofs.Priority.Closed.{Saying, says, failing-in, failing-has, contradicted-in, in-contradicted}
use Rattle.model.proofs.Priority.Closed.{unfold-con, force-all, require-one, single}
use Rattle.model.proofs.Entries.{hit-row}

-- ---- a sound region has no literal with its opposite, and none at n atoms or above
pub no_both : (n : ℕ) (r : Region) → Sound n r → (x : ℕ) → T (holds r x) → T (holds r (opposite x)) → ⊥
unfolding contradicts
no_both n r s x t u = true≢false (sym (T_true (holds r (opposite x)) u) ∙ sound-apart n r x s (T_true (holds r x) t))

pub holds-in : (n : ℕ) (r : Region) → Sound n r → (x : ℕ) → T (holds r x) → atom x < n
holds-in n r s x t = sound-inside n r x s (T_true (holds r x) t)

pub double : (n c : ℕ) → atom c < n → c < 2 * n
unfolding atom
double n c h = omega arith

pub not-con : (r : Region) (x : ℕ) → T (not (contradicts r x)) → T (holds r (opposite x)) → ⊥
unfolding contradicts
not-con r x u v = T_not (holds r (opposite x)) u v

pub fold-con : (r : Region) (o : ℕ) → T (holds r (opposite o)) → T (contradicts r o)
unfolding contradicts
fold-con r o t = t

-- ---- a forcing row's conditions hold
abbrev pub IsForce : Deduction → Type 0
IsForce Nothing = ⊥
IsForce Force = Unit {0}
IsForce (Require c o) = ⊥

pub force-holds : (q : Region) (r : Row) → deduction q r ≡ Force → (c : ℕ) → In c r.conditions → T (holds q c)
unfolding deduction deduce_from
force-holds q r e c m = go (failing q r.conditions) refl e
  where
    go : (fs : List ℕ) → failing q r.conditions ≡ fs → deduce_from q r fs ≡ Force → T (holds q c)
    go [] z f = each (holds q c) refl
      where
        each : (b : Bool) → holds q c ≡ b → T (holds q c)
        each true w = T_of w
        each false w = absurd (subst (In c) z (failing-has q r.conditions c m (λ t. subst T w t)))
    go (x ∷ xs) z f = absurd (never (not (deducing.idle q (x ∷ xs)) && contradicted q r.outputs) f)
      where
        never : (b : Bool) → (elim b as (λ k. Deduction) [ true ↦ requiring q r x | false ↦ Nothing ]) ≡ Force → ⊥
        never true g = subst IsForce (sym g) tt
        never false g = subst IsForce (sym g) tt

-- the row at a position is one of the rows, or has no literal
pub row_in : (rs : List Row) (p : ℕ) (e : Row) → In (get_or rs p e) rs ⊎ (get_or rs p e ≡ e)
row_in [] p e = inr refl
row_in (r ∷ rs) zero e = inl (inl refl)
row_in (r ∷ rs) (suc p) e = up (row_in rs p e)
  where
    up : In (get_or rs p e) rs ⊎ (get_or rs p e ≡ e) → In (get_or rs p e) (r ∷ rs) ⊎ (get_or rs p e ≡ e)
    up (inl m) = inl (inr m)
    up (inr q) = inr q

abbrev pub empty-row : Row
empty-row = record { conditions = []; outputs = [] }

pub asc-row : (rows : List Row) → Fine rows → (r : Row) → In r rows ⊎ (r ≡ empty-row) → Asc 0 r.outputs
asc-row rows fine r (inl m) = (fine r m).outputs
asc-row rows fine r (inr e) = subst (λ (z : Row). Asc 0 z.outputs) (sym e) tt

empty-says : (q : Region) (x : ℕ) → Saying q empty-row x → ⊥
unfolding failing select
empty-says q x (inl p) = p.1
empty-says q x (inr p) = subst (λ (l : List ℕ). In p.0 l) (sym p.1.one) (inl refl)

module _ (n : ℕ) (rows : List Row) (over : Over n rows) (fine : Fine rows) (r₀ : Region) where
  -- a closed region above the given one
  pub record Above (c : Region) : Type 0 where
    pub sound : Sound n c
    pub closed : ClosedFor rows c
    pub above : Contains c r₀

  pub record Inside (s : State) : Type 0 where
    pub sound : Sound n s.region
    pub grown : Contains s.region r₀
    pub within : (c : Region) → Above c → Contains c s.region
    pub same : rows_e s.ledger.entries ≡ rows

  abbrev pub TurnIn : Turn → Type 0
  TurnIn (going s) = Inside s
  TurnIn (halted s) = Inside s
  TurnIn (conflict s) = (c : Region) → Above c → ⊥

  on_in : (t : Turn) (k : State → Turn) → TurnIn t → ((s : State) → Inside s → TurnIn (k s)) → TurnIn (on_going t k)
  unfolding on_going
  on_in (going s) k p f = f s p
  on_in (conflict s) k p f = p
  on_in (halted s) k p f = p

  -- ---- deciding a literal that every closed region above has
  decide-in : (c : ℕ) (s : State) → Inside s → ((d : Region) → Above d → T (holds d c)) → TurnIn (decide_on n c s)
  unfolding decide_on decide
  decide-in c s i f = go (ltb (atom c) n && not (contradicts s.region c)) refl
    where
      go : (b : Bool) → (ltb (atom c) n && not (contradicts s.region c)) ≡ b
          → TurnIn (elim (elim b as (λ k. Option Region) [ true ↦ some (mark_literal s.region c) | false ↦ none ]) as (λ k. Turn)
          [ none ↦ conflict s | some r ↦ going (with_region r s) ])
      go true e =
          let t = T_of e in
          let h : c < 2 * n = double n c (ltb→lt (atom c) n (and_left (ltb (atom c) n) _ t)) in
          let free : (T (holds s.region (opposite c)) → ⊥) = λ u. not-con s.region c (and_right (ltb (atom c) n) _ t) u in
          record {
            sound = mark-sound n s.region c i.sound h free;
            grown = λ x u. subst T (sym (holds-mark n s.region c x i.sound h)) (left (holds s.region x) (eqb x c) (i.grown x u));
            within = λ d a x u. split d a x
                (or_split (holds s.region x) (eqb x c) (subst T (holds-mark n s.region c x i.sound h) u));
            same = i.same;
          }
        where
          left : (a b : Bool) → T a → T (a || b)
          left true b u = tt
          left false b u = absurd u

          split : (d : Region) → Above d → (x : ℕ) → T (holds s.region x) ⊎ T (eqb x c) → T (holds d x)
          split d a x (inl u) = i.within d a x u
          split d a x (inr u) = subst (λ (y : ℕ). T (holds d y)) (sym (eqb→eq x c u)) (f d a)
      go false e = λ d a. clash d a (holds-in n d a.sound c (f d a))
        where
          clash : (d : Region) → Above d → atom c < n → ⊥
          clash d a h = no_both n d a.sound c (f d a) (i.within d a (opposite c) (unfold-con s.region c (con e)))
            where
              con : (ltb (atom c) n && not (contradicts s.region c)) ≡ false → T (contradicts s.region c)
              con q =
                  let e1 : ltb (atom c) n ≡ true = T_true (ltb (atom c) n) (lt→ltb (atom c) n h) in
                  pick (contradicts s.region c) (sym (ap {B = Bool} (λ (b : Bool). b && not (contradicts s.region c)) e1) ∙ q)
                where
                  pick : (b : Bool) → (true && not b) ≡ false → T b
                  pick true q = tt
                  pick false q = absurd (true≢false q)

  -- ---- what a row says on a region inside is in every closed region above
  abbrev Heard : State → Row → Type 0
  Heard s r = (x : ℕ) → Saying s.region r x → (d : Region) → Above d → T (holds d x)

  heard : (s : State) → Inside s → (r : Row) → In r rows → Heard s r
  heard s i r m x (inl p) d a =
      a.closed r m x (subst (λ (e : Deduction). Says e r x) (sym (force-all d r (λ c j. i.within d a c (p.0 c j)))) p.1)
  heard s i r m x (inr p) d a = subst (λ (y : ℕ). T (holds d y)) (sym p.2) (go (holds d p.0) refl)
    where
      f : ℕ
      f = p.0

      fails-only : (x : ℕ) → In x r.conditions → (T (holds d x) → ⊥) → x ≡ f
      fails-only x j h = pick (subst (In x) p.1.one (failing-has s.region r.conditions x j (λ t. h (i.within d a x t))))
        where
          pick : In x (f ∷ []) → x ≡ f
          pick (inl e) = e
          pick (inr k) = absurd k

      f-in : In f r.conditions
      f-in = (failing-in s.region r.conditions f (subst (In f) (sym p.1.one) (inl refl))).0

      w : (o : ℕ) × In o r.outputs × T (contradicts s.region o)
      w = contradicted-in s.region r.outputs p.1.clash

      -- the contradicted output is contradicted above
      w-above : T (holds d (opposite w.0))
      w-above = i.within d a (opposite w.0) (unfold-con s.region w.0 w.2)

      go : (b : Bool) → holds d f ≡ b → T (holds d (opposite f))
      go true e =
          absurd (no_both n d a.sound w.0
          (a.closed r m w.0
          (subst (λ (k : Deduction). Says k r w.0) (sym (force-all d r (λ c j. each c j (holds d c) refl))) w.1)) w-above)
        where
          each : (c : ℕ) → In c r.conditions → (b : Bool) → holds d c ≡ b → T (holds d c)
          each c j true q = T_of q
          each c j false q = subst (λ (y : ℕ). T (holds d y)) (sym (fails-only c j (λ t. subst T q t))) (T_of e)
      go false e = free (contradicts d f) refl
        where
          free : (b : Bool) → contradicts d f ≡ b → T (holds d (opposite f))
          free true q = unfold-con d f (T_of q)
          free false q = a.closed r m (opposite f) (subst (λ (k : Deduction). Says k r (opposite f)) (sym (require-one d r f (record {
            one = single n f d r.conditions (row-clean n r (over r m)) fails-only f-in (λ t. subst T e t);
            free = λ t. subst T q t;
            clash = in-contradicted d r.outputs w.0 w.1 (fold-con d w.0 w-above);
          }))) refl)

  -- ---- publishing: every closed region above has the outputs
  publish-in : (fuel : ℕ) (r : Row) (k : OutputCursor) (s : State) → Asc 0 r.outputs
      → ((c : ℕ) → In c r.outputs → (d : Region) → Above d → T (holds d c)) → Good r k → Inside s → TurnIn (publish fuel n r k s)
  unfolding publish
  publish-in zero r k s a f g i = i
  publish-in (suc fuel) r k s a f g i =
      go (next_output s.region r k s.meter) (next-gives s.region r k s.meter a g) (λ l t h j. publish-in fuel r l t a f h j)
    where
      go : (x : Published) → Given r x → ((l : OutputCursor) (t : State) → Good r l → Inside t → TurnIn (publish fuel n r l t))
          → TurnIn (elim x.next as (λ z. Turn) [
            | deducing.stopped ↦ halted (with_meter x.meter s)
            | deducing.end ↦ going (with_meter x.meter s)
            | deducing.output c ↦ on_going (decide_on n c (with_meter x.meter s))
                (publish fuel n r x.cursor)
          ])
      go x y ih = by x.next refl
        where
          t : State
          t = with_meter x.meter s

          it : Inside t
          it = record { sound = i.sound; grown = i.grown; within = i.within; same = i.same }

          by : (z : Next) → x.next ≡ z
              → TurnIn (elim z as (λ z. Turn) [
                | deducing.stopped ↦ halted t
                | deducing.end ↦ going t
                | deducing.output c ↦ on_going (decide_on n c t) (publish fuel n r x.cursor)
              ])
          by deducing.stopped e = it
          by deducing.end e = it
          by (deducing.output c) e =
              on_in (decide_on n c t) (publish fuel n r x.cursor) (decide-in c t it (f c (y.out c e)))
              (λ u j. ih x.cursor u y.cursor j)

  follow-in : (r : Row) (d : Deduction) (s : State) → deduction s.region r ≡ d → Asc 0 r.outputs → Heard s r → Inside s
      → TurnIn (follow n r d s)
  unfolding follow
  follow-in r Nothing s e a h i = i
  follow-in r Force s e a h i = publish-in _ r _ s a (λ c j. h c (inl (force-holds s.region r e, j))) (start-good r) i
  follow-in r (Require c o) s e a h i =
      decide-in c.0 s i (h c.0 (says s.region r c.0 (subst (λ (k : Deduction). Says k r c.0) (sym e) refl)))

  heard-at : (s : State) → Inside s → (r : Row) → In r rows ⊎ (r ≡ empty-row) → Heard s r
  heard-at s i r (inl m) = heard s i r m
  heard-at s i r (inr e) = λ x y. absurd (empty-says s.region x (subst (λ (z : Row). Saying s.region z x) e y))

  at_row : (p : ℕ) (s : State) → Inside s → In (row_at p s.ledger) rows ⊎ (row_at p s.ledger ≡ empty-row)
  unfolding row_at rows_of
  at_row p s i =
      subst (λ (l : List Row). In (get_or (rows_e s.ledger.entries) p empty-row) l
      ⊎ (get_or (rows_e s.ledger.entries) p empty-row ≡ empty-row)) i.same (row_in (rows_e s.ledger.entries) p empty-row)

  reading-in : (r : Row) (s : State) → In r rows ⊎ (r ≡ empty-row) → Inside s → TurnIn (reading n r s)
  unfolding reading
  reading-in r s w i =
      tick-elim TurnIn (ticks (deduction_ticks s.region r) s.meter) _ _ (λ m. it m s.contradicted)
      (λ m. follow-in r d _ refl (asc-row rows fine r w) (heard-at _ (it m after) r w) (it m after))
    where
      d : Deduction
      d = deduction s.region r

      after : Contradicted
      after = naming d s.contradicted

      it : (m : Meter) (o : Contradicted) → Inside (with_contradicted o (with_meter m s))
      it m o = record { sound = i.sound; grown = i.grown; within = i.within; same = i.same }

  hit-in : (p : ℕ) (t : Turn) → TurnIn t → TurnIn (with_hit p t)
  unfolding with_hit hit_at
  hit-in p t i = go t i
    where
      more : (s : State) → Inside s → Inside (counted p s)
      more s i =
          record {
            sound = i.sound;
            grown = i.grown;
            within = i.within;
            same = adjust-rows hit_entry hit-row p s.ledger.entries ∙ i.same;
          }

      go : (t : Turn) → TurnIn t → TurnIn (with_hit p t)
      go (going s) i = more s i
      go (conflict s) i = i
      go (halted s) i = more s i

  act-in : (p : ℕ) (s : State) → Inside s → TurnIn (act n p s)
  act-in p s i = let t = reading-in (row_at p s.ledger) s (at_row p s i) i in act_by TurnIn n p s t (hit-in p _ t)

  round-in : (ps : List ℕ) (s : State) → Inside s → TurnIn (round n ps s)
  unfolding round
  round-in [] s i = i
  round-in (p ∷ ps) s i = on_in (act n p s) (round n ps) (act-in p s i) (λ t j. round-in ps t j)

  list-in : (xs : List ℕ) (a : Turn) (f : ℕ → List ℕ → Turn) → TurnIn a → ((y : ℕ) (ys : List ℕ) → TurnIn (f y ys))
      → TurnIn (elim xs as (λ k. Turn) [ [] ↦ a | y ∷ ys ↦ f y ys ])
  list-in [] a f p q = p
  list-in (y ∷ ys) a f p q = q y ys

  pub rounds-in : (fuel : ℕ) (as' : List ℕ) (s : State) → Inside s → TurnIn (rounds fuel n as' s)
  unfolding rounds
  rounds-in zero as' s i = i
  rounds-in (suc fuel) as' s i =
      opt-elim TurnIn (search s.ledger as' s.meter).found _ _ (λ e. it)
      (λ ps. on_in (round n ps _) _ (round-in ps _ it)
      (λ u j. list-in (decided_since n s.region u.region) _ _ j (λ y ys. rounds-in fuel (y ∷ ys) u j)))
    where
      it : Inside
          (with_meter (search s.ledger as' s.meter).meter (with_header (search s.ledger as' s.meter).header s))
      it = record { sound = i.sound; grown = i.grown; within = i.within; same = i.same }

  pub closing-in : (l : Ledger) (m : Meter) → l.header.limits.atoms ≡ n → rows_e l.entries ≡ rows → Sound n r₀
      → TurnIn (closing l r₀ m)
  unfolding closing
  closing-in l m e q s =
      subst (λ (k : ℕ). TurnIn
      (rounds (suc k) k []
      (begun l r₀ m))) (sym e)
      (rounds-in (suc n) [] _ (record { sound = s; grown = λ x t. t; within = λ c a x t. a.above x t; same = q }))
