-- 02, Two: when an atom was decided from one region to another, and which readings earn a hit. Assumes nothing.
use mathlib.Core.Path.{◌≡◌, refl, sym, ap, ◌∙◌, subst}
use mathlib.Core.Logic.{◌⊎◌, inl, inr}
use mathlib.Core.Bool.{Bool, true, false, ◌&&◌, ◌||◌, not, true≢false, or-true}
use mathlib.Core.Option.{Option, none, some}
use Prim.Native.Nat.{ℕ, zero, suc, ◌<◌}
use lib.Dec.{T}
use lib.ListN.{length}
use borrow.Author.Tests.{eq-eqb}
use Rattle.lists.specs.Lists.{up_to}
use Rattle.lists.proofs.Bools.{and_yes, false_of, T_true, T_of}
use Rattle.lists.proofs.Selects.{length-up_to, get_or-up_to}
use Rattle.lists.proofs.Tests.{any_at, any_none, any-either}
use Rattle.words.specs.Literal.{atom, opposite}
use Rattle.words.specs.Region.{Region, decided, holds, contradicts, mark_literal, decide}
use Rattle.words.proofs.Literals.{atom-opposite, opposite-twice}
use Rattle.words.proofs.Regions.{Sound}
use Rattle.words.proofs.Deciding.{decide-some, decide-marks, holds-mark, sound-inside, sound-apart, held-again}
use Rattle.meter.specs.Meter.{ticks}
use Rattle.model.specs.declared.Literal.{Literal}
use Rattle.model.specs.declared.Deduction.{Deduction}
use Rattle.model.specs.declared.Deduction.TheVariants.{Nothing, Force, Require}
use Rattle.model.specs.declared.OutputCursor.{OutputCursor}
use Rattle.model.specs.Records.{Row, is_row_over}
use Rattle.model.specs.Deduction.{Next, Published, start_cursor, next_output, deduction, deduction_ticks}
use Rattle.model.specs.Deduction as deducing
use Rattle.model.specs.Closing.{State, Turn, going, conflict, halted, on_going, with_meter, with_region, decide_on, publish, follow}
use Rattle.model.specs.Closing.{with_named, reading, decided_anew, decides, earns}
use Rattle.model.specs.Priority.{In, Contains, Says}
use Rattle.model.proofs.Packing.{Asc}
use Rattle.model.proofs.Priority.Steps.{tick-elim}
use Rattle.model.proofs.Priority.Conditions.{clean-in, row-clean}
use Rattle.model.proofs.Priority.Closed.{Saying, says, failing-in, unfold-con, force-all}
use Rattle.model.proofs.Priority.Cursors.{Good, Gives as Given, start-good, next-gives}
use Rattle.model.proofs.Priority.Inside.{IsForce, fold-con}
use Rattle.model.proofs.Priority.Settling.{Settled, decided-of, decided-split, decided-grow}

-- nothing is decided where the region stays
pub decides-none : (n : ℕ) (r : Region) → decides n r r ≡ false
unfolding decides
decides-none n r = any_none (decided_anew r r) (up_to n) (λ a. go (decided r a))
  where
    go : (b : Bool) → (b && not b) ≡ false
    go true = refl
    go false = refl

pub decides-one : (n : ℕ) (r q : Region) (a : ℕ) → a < n → decided q a ≡ true → decided r a ≡ false → decides n r q ≡ true
unfolding decides
decides-one n r q a l d f =
    any_at (decided_anew r q) (up_to n) a 0 (subst (λ (k : ℕ). a < k) (sym (length-up_to n)) l)
    (ap (decided_anew r q) (get_or-up_to n a 0 l) ∙ and_yes (decided q a) (not (decided r a)) d (ap not f))

-- what is decided in two steps is decided in the one or in the other
pub decides-both : (n : ℕ) (r q t : Region) → Contains q r → Contains t q → decides n r t ≡ (decides n r q || decides n q t)
unfolding decides
decides-both n r q t c d =
    any-either (decided_anew r q) (decided_anew q t) (decided_anew r t)
    (λ a. go (decided r a) (decided q a) (decided t a) (decided-grow r q c a) (decided-grow q t d a)) (up_to n)
  where
    go : (x y z : Bool) → (T x → T y) → (T y → T z) → (z && not x) ≡ ((y && not x) || (z && not y))
    go true true true f g = refl
    go true true false f g = absurd (g tt)
    go true false z f g = absurd (f tt)
    go false true true f g = refl
    go false true false f g = absurd (g tt)
    go false false true f g = refl
    go false false false f g = refl

-- a literal decided that did not hold: its atom was open
pub decides-anew : (n : ℕ) (r q : Region) (c : ℕ) → decide n r c ≡ some q → Sound n r → holds r c ≡ false → decides n r q ≡ true
decides-anew n r q c e s o =
    decides-one n r q (atom c) d.0 (T_true (decided q (atom c)) (decided-of q c there)) (false_of (decided r (atom c)) undecided)
  where
    d : (atom c < n) × (contradicts r c ≡ false) × (q ≡ mark_literal r c)
    d = decide-some n r c q e

    there : T (holds q c)
    there =
        T_of (ap (λ (y : Region). holds y c) d.2 ∙ holds-mark n r c c s d.0 ∙ ap (λ (b : Bool). holds r c || b) (eq-eqb c c refl)
        ∙ or-true (holds r c))

    undecided : decided r (atom c) ≡ true → ⊥
    undecided t = go (decided-split r c (T_of t))
      where
        go : T (holds r c) ⊎ T (holds r (opposite c)) → ⊥
        go (inl u) = true≢false (sym (T_true (holds r c) u) ∙ o)
        go (inr u) = true≢false (sym (T_true (contradicts r c) (fold-con r c u)) ∙ d.1)

-- ---- a Require always decides one: of its literal neither sign held
decided-earns : (n c : ℕ) (s : State) (q : Region) → decide n s.region c ≡ some q
    → earns n s.region (decide_on n c s) ≡ decides n s.region q
unfolding decide_on earns
decided-earns n c s q e =
    ap (λ (o : Option Region). earns n s.region (elim o as (λ k. Turn) [
      | none ↦ conflict s
      | some r ↦ going (with_region r s)
    ])) e

pub require-earns : (n : ℕ) (r : Row) (c x : Literal) (s : State) → Sound n s.region → T (is_row_over n r)
    → deduction s.region r ≡ Require c x → earns n s.region (follow n r (Require c x) s) ≡ true
unfolding follow
require-earns n r c x s so o e = go (says q r c.0 (subst (λ (d : Deduction). Says d r c.0) (sym e) refl))
  where
    q : Region
    q = s.region

    go : Saying q r c.0 → earns n s.region (decide_on n c.0 s) ≡ true
    go (inl p) = absurd (subst IsForce (sym (force-all q r p.0) ∙ e) tt)
    go (inr p) =
        let f = failing-in q r.conditions p.0 (subst (In p.0) (sym p.1.one) (inl refl)) in
        let inside : atom c.0 < n =
        subst (λ (a : ℕ). a < n) (sym (ap atom p.2 ∙ atom-opposite p.0))
        (clean-in n r.conditions (row-clean n r o) p.0 f.0) in
        let free : contradicts q c.0 ≡ false =
        false_of (contradicts q c.0)
        (λ t. f.1 (subst (λ (x : ℕ). T (holds q x)) (ap opposite p.2 ∙ opposite-twice p.0) (unfold-con q c.0 (T_of t)))) in
        let lacks : holds q c.0 ≡ false =
        false_of (holds q c.0) (λ t. p.1.free (fold-con q p.0 (subst (λ (x : ℕ). T (holds q x)) p.2 (T_of t)))) in
        let d = decide-marks n q c.0 inside free in
        decided-earns n c.0 s (mark_literal q c.0) d ∙ decides-anew n q (mark_literal q c.0) c.0 d so lacks

-- ---- a reading that says only what holds already earns none: the region stays, and there is no Conflict
abbrev Idle : Region → Turn → Type 0
Idle r (going s) = s.region ≡ r
Idle r (conflict s) = ⊥
Idle r (halted s) = s.region ≡ r

idle-on : (r : Region) (t : Turn) (k : State → Turn) → Idle r t → ((s : State) → s.region ≡ r → Idle r (k s)) → Idle r (on_going t k)
unfolding on_going
idle-on r (going s) k i f = f s i
idle-on r (conflict s) k i f = i
idle-on r (halted s) k i f = i

idle-earns : (n : ℕ) (r : Region) (t : Turn) → Idle r t → earns n r t ≡ false
unfolding earns
idle-earns n r (going s) i = ap (decides n r) i ∙ decides-none n r
idle-earns n r (conflict s) i = absurd i
idle-earns n r (halted s) i = ap (decides n r) i ∙ decides-none n r

module _ (n : ℕ) (r : Region) (so : Sound n r) where
  decide-idle : (c : ℕ) (s : State) → s.region ≡ r → T (holds r c) → Idle r (decide_on n c s)
  unfolding decide_on
  decide-idle c s e t =
      subst (λ (o : Option Region). Idle r (elim o as (λ k. Turn) [
        | none ↦ conflict s
        | some q ↦ going (with_region q s)
      ])) (sym again) refl
    where
      h : holds r c ≡ true
      h = T_true (holds r c) t

      again : decide n s.region c ≡ some r
      again =
          ap (λ (q : Region). decide n q c) e
          ∙ decide-marks n r c (sound-inside n r c so h) (sound-apart n r c so h)
          ∙ ap some (held-again n r c h)

  publish-idle : (fuel : ℕ) (t : Row) (k : OutputCursor) (s : State) → Asc 0 t.outputs
      → ((c : ℕ) → In c t.outputs → T (holds r c)) → Good t k → s.region ≡ r → Idle r (publish fuel n t k s)
  unfolding publish
  publish-idle zero t k s a f g e = e
  publish-idle (suc fuel) t k s a f g e =
      go (next_output s.region t k s.meter) (next-gives s.region t k s.meter a g) (λ l u h q. publish-idle fuel t l u a f h q)
    where
      go : (x : Published) → Given t x
          → ((l : OutputCursor) (u : State) → Good t l → u.region ≡ r → Idle r (publish fuel n t l u))
          → Idle r (elim x.next as (λ z. Turn) [
            | deducing.stopped ↦ halted (with_meter x.meter s)
            | deducing.end ↦ going (with_meter x.meter s)
            | deducing.output c ↦ on_going (decide_on n c (with_meter x.meter s))
                (publish fuel n t x.cursor)
          ])
      go x y ih = by x.next refl
        where
          u : State
          u = with_meter x.meter s

          by : (z : Next) → x.next ≡ z
              → Idle r (elim z as (λ z. Turn) [
                | deducing.stopped ↦ halted u
                | deducing.end ↦ going u
                | deducing.output c ↦ on_going (decide_on n c u) (publish fuel n t x.cursor)
              ])
          by deducing.stopped q = e
          by deducing.end q = e
          by (deducing.output c) q =
              idle-on r (decide_on n c u) (publish fuel n t x.cursor) (decide-idle c u e (f c (y.out c q)))
              (λ v i. ih x.cursor v y.cursor i)

  follow-idle : (t : Row) (d : Deduction) (s : State) → Asc 0 t.outputs → ((x : ℕ) → Says d t x → T (holds r x)) → s.region ≡ r
      → Idle r (follow n t d s)
  unfolding follow
  follow-idle t Nothing s a f e = e
  follow-idle t Force s a f e = publish-idle (suc (length t.outputs)) t start_cursor s a f (start-good t) e
  follow-idle t (Require c o) s a f e = decide-idle c.0 s e (f c.0 refl)

pub settled-earns : (n : ℕ) (t : Row) (s : State) → Sound n s.region → Asc 0 t.outputs → Settled t s.region
    → earns n s.region (reading n t s) ≡ false
unfolding reading
settled-earns n t s so a f =
    idle-earns n s.region _
    (tick-elim (Idle s.region) (ticks (deduction_ticks s.region t) s.meter) _ _ (λ m. refl)
    (λ m. follow-idle n s.region so t (deduction s.region t) (with_named (deduction s.region t) (with_meter m s)) a f refl))
