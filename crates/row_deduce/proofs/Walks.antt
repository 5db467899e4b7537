-- The walks of a deduction are its answer and its ticks. Assumes nothing.
use mathlib.Core.Path.{◌≡◌, refl, sym, ap, ap₂, ◌∙◌, subst}
use mathlib.Core.Bool.{Bool, true, false, not, ◌&&◌, ◌||◌, true≢false, false≢true, or-true}
use mathlib.Core.List.{List, [], ◌∷◌, ◌++◌, map, append_assoc, append-nil}
use Prim.Native.Nat.{ℕ, suc, ◌+◌, ◌<◌}
use native.Mathlib.Omega.{arith}
use lib.Dec.{leb}
use lib.ListN.{length}
use borrow.Author.Tests.{ne_eqb, le-leb}
use Rattle.std.specs.Prelude.{Option, Some, None, Result, Err}
use Rattle.lists.specs.Counts.{Sorted}
use Rattle.lists.specs.Lists.{any, select, filled, concat, least, ascending}
use Rattle.lists.proofs.Marks.{sorted-select}
use Rattle.lists.proofs.Selects.{select-append, any-select}
use Rattle.lists.proofs.Sorts.{sorted-least}
use Rattle.lists.proofs.Tests.{any_append, ascending-sorted}
use Rattle.words.specs.Literal.{opposite}
use Rattle.words.specs.Region.{Region, holds, contradicts}
use Rattle.meter.specs.declared.Meter.{Meter}
use Rattle.meter.specs.declared.Stopped as error
use Rattle.meter.specs.Tick.{Tick, Ticked, Stopped}
use Rattle.meter.specs.Meter.{tick_of, on_tick, ticks}
use Rattle.meter.proofs.Laws.{ticks-add}
use Rattle.model.specs.declared.Deduction.{Deduction}
use Rattle.model.specs.declared.Deduction.TheVariants.{Nothing, Force, Require}
use Rattle.model.specs.Records.{Row}
use Rattle.model.specs.Rows.{packed}
use Rattle.model.specs.Deduction.{failing, contradicted, contradictions, idle, deduce_from, deduction, chunks, condition_looks}
use Rattle.model.specs.Deduction.{output_looks, looks_on, deduction_ticks}
use Rattle.model.proofs.Packing.{Under, concat-groups}
use Rattle.row_deduce.specs.declared.ConditionState.{ConditionState}
use Rattle.row_deduce.specs.declared.ConditionState.TheVariants.{Idle, Holds, Undecided}
use Rattle.row_deduce.specs.Walks.{literal, Walked, done, halted, walked, once, first_of, state_of, both_of, read_conditions, read_outputs}

-- what is said of conditions that stand so, given the contradicted outputs; whether one alone is undecided
abbrev says : ConditionState → List ℕ → Deduction
says Idle os = Nothing
says Holds os = Force
says (Undecided c) [] = Nothing
says (Undecided c) (o ∷ os) = Require (literal (opposite c)) (literal o)

abbrev is_open : ConditionState → Bool
is_open Idle = false
is_open Holds = false
is_open (Undecided c) = true

-- ---- a function that stops where it calls one that is stopped
pub walked-on : {A : Type 0} {r : Result A error.Stopped} {e : error.Stopped} (m : Meter) {w : Walked A}
    → r ≡ Err e → halted m ≡ w → walked r m ≡ w
walked-on {A} m p q = ap (λ (x : Result A error.Stopped). walked x m) p ∙ q

-- ---- back from what is said once the ticks are made
pub halted-by : {A : Type 0} (a : A) (t : Tick) (k : Meter) → halted k ≡ once a t → t ≡ Stopped k
halted-by a (Ticked n) k e = cc
halted-by a (Stopped n) k e = cc

pub done-by : {A : Type 0} (a b : A) (t : Tick) (k : Meter) → done b k ≡ once a t → (t ≡ Ticked k) × (a ≡ b)
done-by a b (Ticked n) k e = (cc, cc)
done-by a b (Stopped n) k e = (cc, cc)

-- ---- chunks that are joined
module _ (r : Region) where
  pub failing-append : (xs ys : List ℕ) → failing r (xs ++ ys) ≡ failing r xs ++ failing r ys
  unfolding failing
  failing-append xs ys = select-append (λ c. not (holds r c)) xs ys

  pub contradicted-append : (xs ys : List ℕ) → contradicted r (xs ++ ys) ≡ (contradicted r xs || contradicted r ys)
  unfolding contradicted
  contradicted-append xs ys = any_append (contradicts r) xs ys

  contradictions-append : (xs ys : List ℕ) → contradictions r (xs ++ ys) ≡ contradictions r xs ++ contradictions r ys
  unfolding contradictions
  contradictions-append xs ys = select-append (contradicts r) xs ys

  contradicted-filled : (xs : List ℕ) → contradicted r xs ≡ filled (contradictions r xs)
  unfolding contradicted contradictions
  contradicted-filled xs = any-select (contradicts r) xs

  -- of ascending outputs the least contradicted one is the first
  contradictions-least : (xs : List ℕ) → ascending xs ≡ true → (o : ℕ) (os : List ℕ) → contradictions r xs ≡ o ∷ os
      → least (contradictions r xs) ≡ o
  unfolding contradictions
  contradictions-least xs a o os e =
      ap least e ∙ sorted-least o os (subst Sorted e (sorted-select (contradicts r) xs (ascending-sorted xs a)))

  -- ---- nothing follows
  pub idle-two : (c d : ℕ) (cs : List ℕ) → idle r (c ∷ d ∷ cs) ≡ true
  unfolding idle
  idle-two c d cs = ap (λ (b : Bool). b || contradicted r (c ∷ d ∷ cs)) (le-leb 2 (suc (suc (length cs))) (omega arith))

  pub idle-clash : (fs : List ℕ) → contradicted r fs ≡ true → idle r fs ≡ true
  unfolding idle
  idle-clash fs e = ap (λ (b : Bool). leb 2 (length fs) || b) e ∙ or-true (leb 2 (length fs))

  pub idle-none : idle r [] ≡ false
  unfolding idle contradicted any
  idle-none = refl

  pub idle-one : (c : ℕ) → idle r (c ∷ []) ≡ contradicted r (c ∷ [])
  unfolding idle
  idle-one c = refl

  -- nor does it of more
  pub idle-more : (fs gs : List ℕ) → idle r fs ≡ true → idle r (fs ++ gs) ≡ true
  idle-more [] gs e = absurd (false≢true (sym idle-none ∙ e))
  idle-more (c ∷ []) [] e = e
  idle-more (c ∷ []) (d ∷ ds) e = idle-two c d ds
  idle-more (c ∷ d ∷ ds) gs e = idle-two c d (ds ++ gs)

  idle-longer : (c d : ℕ) (cs ds : List ℕ) → idle r (c ∷ (cs ++ (d ∷ ds))) ≡ true
  idle-longer c d [] ds = idle-two c d ds
  idle-longer c d (e ∷ es) ds = idle-two c e (es ++ (d ∷ ds))

  pub state-idle : (fs : List ℕ) → idle r fs ≡ true → state_of r fs ≡ Idle
  unfolding state_of
  state-idle [] e = absurd (false≢true (sym idle-none ∙ e))
  state-idle (c ∷ cs) e = ap (λ (b : Bool). elim b as (λ z. ConditionState) [ true ↦ Idle | false ↦ Undecided c ]) e

  pub state-one : (c : ℕ) → contradicted r (c ∷ []) ≡ false → state_of r (c ∷ []) ≡ Undecided c
  unfolding state_of
  state-one c e = ap (λ (b : Bool). elim b as (λ z. ConditionState) [ true ↦ Idle | false ↦ Undecided c ]) (idle-one c ∙ e)

  idle-state : (fs : List ℕ) → state_of r fs ≡ Idle → idle r fs ≡ true
  unfolding state_of
  idle-state [] e = cc
  idle-state (c ∷ cs) e = go (idle r (c ∷ cs)) e
    where
      go : (b : Bool) → (elim b as (λ z. ConditionState) [ true ↦ Idle | false ↦ Undecided c ]) ≡ Idle → b ≡ true
      go true e = refl
      go false e = cc

  -- ---- how two lists of conditions stand together
  pub state-append : (fs gs : List ℕ) → state_of r (fs ++ gs) ≡ both_of (state_of r fs) (state_of r gs)
  unfolding state_of
  state-append [] gs = refl
  state-append (c ∷ cs) gs = go (idle r (c ∷ cs)) refl gs
    where
      go : (b : Bool) → idle r (c ∷ cs) ≡ b → (gs : List ℕ)
          → state_of r ((c ∷ cs) ++ gs)
          ≡ both_of (elim b as (λ z. ConditionState) [ true ↦ Idle | false ↦ Undecided c ]) (state_of r gs)
      go true e gs = state-idle ((c ∷ cs) ++ gs) (idle-more (c ∷ cs) gs e)
      go false e [] =
          ap (state_of r) (append-nil (c ∷ cs))
          ∙ ap (λ (b : Bool). elim b as (λ z. ConditionState) [ true ↦ Idle | false ↦ Undecided c ]) e
      go false e (d ∷ ds) =
          state-idle ((c ∷ cs) ++ (d ∷ ds)) (idle-longer c d cs ds) ∙ second (idle r (d ∷ ds))
        where
          second : (b : Bool) → Idle ≡ both_of (Undecided c) (elim b as (λ z. ConditionState) [ true ↦ Idle | false ↦ Undecided d ])
          second true = refl
          second false = refl

  -- ---- a turn of the walk over the conditions, by the tick and the look
  module _ (fs k : List ℕ) (ks : List (List ℕ)) (m : Meter) where
    pub looking-stopped : {n : Meter} → Stopped n ≡ tick_of m → halted n ≡ read_conditions r fs (k ∷ ks) m
    unfolding read_conditions
    looking-stopped e = rw (sym e, read_conditions)

    turn : (b : Bool) (n : Meter) → Ticked n ≡ tick_of m → idle r (fs ++ failing r k) ≡ b
        → read_conditions r fs (k ∷ ks) m
        ≡ (elim b as (λ z. Walked ConditionState) [ true ↦ done Idle n | false ↦ read_conditions r (fs ++ failing r k) ks n ])
    unfolding read_conditions
    turn b n e f = rw (sym e, f, read_conditions)

    pub looking-idle : {n : Meter} → Ticked n ≡ tick_of m → state_of r (fs ++ failing r k) ≡ Idle
        → done Idle n ≡ read_conditions r fs (k ∷ ks) m
    looking-idle e f = sym (turn true _ e (idle-state (fs ++ failing r k) f))

    pub looking-on : {n : Meter} → Ticked n ≡ tick_of m → idle r (fs ++ failing r k) ≡ false
        → read_conditions r (fs ++ failing r k) ks n ≡ read_conditions r fs (k ∷ ks) m
    looking-on e f = sym (turn false _ e f)

  pub calm-state : (fs : List ℕ) → (state_of r fs ≡ Idle → ⊥) → idle r fs ≡ false
  calm-state fs f = go (idle r fs) refl
    where
      go : (b : Bool) → idle r fs ≡ b → b ≡ false
      go true e = absurd (f (state-idle fs e))
      go false e = refl

  pub state-calm : (fs : List ℕ) → idle r fs ≡ false → state_of r fs ≡ Idle → ⊥
  state-calm fs f e = false≢true (sym f ∙ idle-state fs e)

  pub looking-end : (fs : List ℕ) (m : Meter) → done (state_of r fs) m ≡ read_conditions r fs [] m
  unfolding read_conditions
  looking-end fs m = refl

  -- ---- a turn of the walk over the outputs
  module _ (k : List ℕ) (ks : List (List ℕ)) (m : Meter) where
    pub clashing-stopped : {n : Meter} → Stopped n ≡ tick_of m → halted n ≡ read_outputs r (k ∷ ks) m
    unfolding read_outputs
    clashing-stopped e = rw (sym e, read_outputs)

    pub clashing-hit : {n : Meter} {o : ℕ} → Ticked n ≡ tick_of m → first_of (contradictions r k) ≡ Some o
        → done (Some o) n ≡ read_outputs r (k ∷ ks) m
    unfolding read_outputs
    clashing-hit {n} {o} e f = go (contradictions r k) refl f
      where
        go : (os : List ℕ) → contradictions r k ≡ os → first_of os ≡ Some o → done (Some o) n ≡ read_outputs r (k ∷ ks) m
        go [] h f = cc
        go (p ∷ ps) h f = rw (sym e, h, read_outputs) (ap (λ (x : Option ℕ). done x n) (sym f))

    pub clashing-on : {n : Meter} → Ticked n ≡ tick_of m → first_of (contradictions r k) ≡ None
        → read_outputs r ks n ≡ read_outputs r (k ∷ ks) m
    unfolding read_outputs
    clashing-on {n} e f = go (contradictions r k) refl f
      where
        go : (os : List ℕ) → contradictions r k ≡ os → first_of os ≡ None → read_outputs r ks n ≡ read_outputs r (k ∷ ks) m
        go [] h f = rw (sym e, h, read_outputs)
        go (p ∷ ps) h f = cc

  pub clashing-end : (m : Meter) → done None m ≡ read_outputs r [] m
  unfolding read_outputs
  clashing-end m = refl

  -- ---- the walks by their ticks
  looking-is : (fs : List ℕ) (ks : List (List ℕ)) (m : Meter)
      → read_conditions r fs ks m ≡ once (state_of r (fs ++ failing r (concat ks))) (ticks (condition_looks r fs ks) m)
  unfolding read_conditions ticks condition_looks concat failing select
  looking-is fs [] m = ap (λ (l : List ℕ). done (state_of r l) m) (sym (append-nil fs))
  looking-is fs (k ∷ ks) m = by_tick (tick_of m) (idle r gs) refl (looking-is gs ks)
    where
      gs : List ℕ
      gs = fs ++ failing r k

      joined : gs ++ failing r (concat ks) ≡ fs ++ failing r (k ++ concat ks)
      joined = append_assoc fs (failing r k) (failing r (concat ks)) ∙ ap (λ (l : List ℕ). fs ++ l) (sym (failing-append k (concat ks)))

      by_tick : (t : Tick) (b : Bool) → idle r gs ≡ b
          → ((n : Meter)
          → read_conditions r gs ks n ≡ once (state_of r (gs ++ failing r (concat ks))) (ticks (condition_looks r gs ks) n))
          → (elim t as (λ z. Walked ConditionState) [
            | Stopped n ↦ halted n
            | Ticked n ↦ elim b as (λ z. Walked ConditionState) [ true ↦ done Idle n | false ↦ read_conditions r gs ks n ]
          ])
          ≡ once (state_of r (fs ++ failing r (k ++ concat ks)))
          (on_tick t (ticks (elim b as (λ z. ℕ) [ true ↦ 0 | false ↦ condition_looks r gs ks ])))
      by_tick (Stopped n) b f ih = refl
      by_tick (Ticked n) true f ih =
          ap (λ (l : ConditionState). done l n)
          (sym (state-idle (gs ++ failing r (concat ks)) (idle-more gs (failing r (concat ks)) f)) ∙ ap (state_of r) joined)
      by_tick (Ticked n) false f ih =
          ih n ∙ ap (λ (l : List ℕ). once (state_of r l) (ticks (condition_looks r gs ks) n)) joined

  clashing-is : (ks : List (List ℕ)) (m : Meter)
      → read_outputs r ks m ≡ once (first_of (contradictions r (concat ks))) (ticks (output_looks r ks) m)
  unfolding read_outputs ticks output_looks concat contradictions select
  clashing-is [] m = refl
  clashing-is (k ∷ ks) m =
      by_tick (tick_of m) (contradictions r k) (contradicted r k) (contradicted-filled k)
      (contradictions-append k (concat ks)) (clashing-is ks)
    where
      later : List ℕ
      later = contradictions r (concat ks)

      by_tick : (t : Tick) (os : List ℕ) (b : Bool) → b ≡ filled os → contradictions r (k ++ concat ks) ≡ os ++ later
          → ((n : Meter) → read_outputs r ks n ≡ once (first_of later) (ticks (output_looks r ks) n))
          → (elim t as (λ z. Walked (Option ℕ)) [
            | Stopped n ↦ halted n
            | Ticked n ↦ elim os as (λ z. Walked (Option ℕ)) [ [] ↦ read_outputs r ks n | o ∷ os ↦ done (Some o) n ]
          ])
          ≡ once (first_of (contradictions r (k ++ concat ks)))
          (on_tick t (ticks (elim b as (λ z. ℕ) [ true ↦ 0 | false ↦ output_looks r ks ])))
      by_tick (Stopped n) os b f j ih = refl
      by_tick (Ticked n) [] true f j ih = absurd (true≢false f)
      by_tick (Ticked n) [] false f j ih = ih n ∙ ap (λ (l : List ℕ). once (first_of l) (ticks (output_looks r ks) n)) (sym j)
      by_tick (Ticked n) (o ∷ os) true f j ih = ap (λ (l : List ℕ). done (first_of l) n) (sym j)
      by_tick (Ticked n) (o ∷ os) false f j ih = absurd (false≢true f)

  -- ---- the deduction by how the conditions stand, and whether outputs are looked at
  says-state : (s : Row) (fs : List ℕ) → ascending s.outputs ≡ true
      → deduce_from r s fs ≡ says (state_of r fs) (contradictions r s.outputs)
  unfolding deduce_from state_of
  says-state s [] a = refl
  says-state s (c ∷ cs) a =
      go (idle r (c ∷ cs)) (contradicted r s.outputs) (contradictions r s.outputs) (contradicted-filled s.outputs)
      (contradictions-least s.outputs a)
    where
      go : (b d : Bool) (os : List ℕ) → d ≡ filled os → ((p : ℕ) (ps : List ℕ) → os ≡ p ∷ ps → least os ≡ p)
          → (elim (not b && d) as (λ z. Deduction) [ true ↦ Require (literal (opposite c)) (literal (least os)) | false ↦ Nothing ])
          ≡ says (elim b as (λ z. ConditionState) [ true ↦ Idle | false ↦ Undecided c ]) os
      go true d os f l = refl
      go false true [] f l = absurd (true≢false f)
      go false true (p ∷ ps) f l = ap (λ (x : ℕ). Require (literal (opposite c)) (literal x)) (l p ps refl)
      go false false [] f l = refl
      go false false (p ∷ ps) f l = absurd (false≢true f)

  looks-state : (fs : List ℕ) → looks_on r fs ≡ is_open (state_of r fs)
  unfolding looks_on state_of
  looks-state [] = refl
  looks-state (c ∷ []) = ap (λ (b : Bool). not b) (sym (idle-one c)) ∙ go (idle r (c ∷ []))
    where
      go : (b : Bool) → not b ≡ is_open (elim b as (λ z. ConditionState) [ true ↦ Idle | false ↦ Undecided c ])
      go true = refl
      go false = refl
  looks-state (c ∷ d ∷ cs) =
      ap (λ (b : Bool). b && not (contradicted r (c ∷ d ∷ cs))) (ne_eqb (suc (suc (length cs))) 1 (λ q. omega arith))
      ∙ sym (ap (λ (b : Bool). is_open (elim b as (λ z. ConditionState) [ true ↦ Idle | false ↦ Undecided c ]))
      (idle-two c d cs))

-- ---- chunks put together are the list
singles-concat : (cs : List ℕ) → concat (map (λ c. c ∷ []) cs) ≡ cs
unfolding concat
singles-concat [] = refl
singles-concat (c ∷ cs) = ap (λ (l : List ℕ). c ∷ l) (singles-concat cs)

pub concat-chunks : (p : Bool) (cs : List ℕ) → concat (chunks p cs) ≡ cs
unfolding chunks
concat-chunks true cs = concat-groups cs
concat-chunks false cs = singles-concat cs

-- ---- a whole deduction, by the way it goes
abbrev concluded : ℕ → Walked (Option ℕ) → Walked Deduction
concluded c (done None m) = done Nothing m
concluded c (done (Some o) m) = done (Require (literal (opposite c)) (literal o)) m
concluded c (halted m) = halted m

module _ (r : Region) (s : Row) (m : Meter) where
  abbrev conditions_of : List (List ℕ)
  conditions_of = chunks (packed s) s.conditions

  abbrev outputs_of : List (List ℕ)
  outputs_of = chunks (packed s) s.outputs

  abbrev fails : List ℕ
  fails = failing r s.conditions

  pub deduced-stopped : {n : Meter} → Stopped n ≡ tick_of m → halted n ≡ once (deduction r s) (ticks (deduction_ticks r s) m)
  unfolding deduction_ticks ticks
  deduced-stopped e = rw (sym e, ticks)

  module _ (n : Meter) (first : Ticked n ≡ tick_of m) (rise : ascending s.outputs ≡ true) where
    after_conditions : Bool → Meter → Tick
    after_conditions b k = ticks (elim b as (λ z. ℕ) [ true ↦ output_looks r outputs_of | false ↦ 0 ]) k

    both : ticks (deduction_ticks r s) m
        ≡ on_tick (ticks (condition_looks r [] conditions_of) n) (after_conditions (looks_on r fails))
    unfolding deduction_ticks ticks after_conditions
    both =
        ap (λ (t : Tick). on_tick t
        (ticks (condition_looks r [] conditions_of
        + (elim (looks_on r fails) as (λ z. ℕ) [ true ↦ output_looks r outputs_of | false ↦ 0 ]))))
        (sym first)
        ∙ ticks-add (condition_looks r [] conditions_of)
        (elim (looks_on r fails) as (λ z. ℕ) [ true ↦ output_looks r outputs_of | false ↦ 0 ]) n

    walk : read_conditions r [] conditions_of n ≡ once (state_of r fails) (ticks (condition_looks r [] conditions_of) n)
    walk =
        looking-is r [] conditions_of n
        ∙ ap (λ (l : List ℕ). once (state_of r (failing r l)) (ticks (condition_looks r [] conditions_of) n))
        (concat-chunks (packed s) s.conditions)

    -- the conditions' ticks were not all made
    pub deduced-halted : {k : Meter} → halted k ≡ read_conditions r [] (chunks (packed s) s.conditions) n
        → halted k ≡ once (deduction r s) (ticks (deduction_ticks r s) m)
    deduced-halted {k} e =
        ap (once (deduction r s))
        (sym (both ∙ ap (λ (t : Tick). on_tick t (after_conditions (looks_on r fails)))
        (halted-by (state_of r fails) (ticks (condition_looks r [] conditions_of) n) k (e ∙ walk))))

    -- they were, and how the conditions stand says whether outputs are looked at
    module _ (l : ConditionState) (k : Meter) (e : done l k ≡ read_conditions r [] conditions_of n) where
      seen : (ticks (condition_looks r [] conditions_of) n ≡ Ticked k) × (state_of r fails ≡ l)
      seen = done-by (state_of r fails) l (ticks (condition_looks r [] conditions_of) n) k (e ∙ walk)

      rest : ticks (deduction_ticks r s) m ≡ after_conditions (is_open l) k
      rest = both ∙ ap₂ (λ (t : Tick) (b : Bool). on_tick t (after_conditions b)) seen.0 (looks-state r fails ∙ ap is_open seen.1)

      said : deduction r s ≡ says l (contradictions r s.outputs)
      unfolding deduction
      said = says-state r s fails rise ∙ ap (λ (x : ConditionState). says x (contradictions r s.outputs)) seen.1

    pub deduced-idle : {k : Meter} → done Idle k ≡ read_conditions r [] (chunks (packed s) s.conditions) n
        → done Nothing k ≡ once (deduction r s) (ticks (deduction_ticks r s) m)
    unfolding ticks after_conditions
    deduced-idle {k} e = sym (ap₂ (λ (d : Deduction) (t : Tick). once d t) (said Idle k e) (rest Idle k e))

    pub deduced-force : {k : Meter} → done Holds k ≡ read_conditions r [] (chunks (packed s) s.conditions) n
        → done Force k ≡ once (deduction r s) (ticks (deduction_ticks r s) m)
    unfolding ticks after_conditions
    deduced-force {k} e = sym (ap₂ (λ (d : Deduction) (t : Tick). once d t) (said Holds k e) (rest Holds k e))

    -- one is undecided
    module _ (c : ℕ) (k : Meter) (e : done (Undecided c) k ≡ read_conditions r [] conditions_of n) where
      clashes : read_outputs r outputs_of k ≡ once (first_of (contradictions r s.outputs)) (ticks (deduction_ticks r s) m)
      unfolding after_conditions
      clashes =
          clashing-is r outputs_of k
          ∙ ap₂ (λ (l : List ℕ) (t : Tick). once (first_of (contradictions r l)) t) (concat-chunks (packed s) s.outputs)
          (sym (rest (Undecided c) k e))

      ending : (os : List ℕ) (t : Tick) → concluded c (once (first_of os) t) ≡ once (says (Undecided c) os) t
      ending [] (Ticked i) = refl
      ending (o ∷ os) (Ticked i) = refl
      ending [] (Stopped i) = refl
      ending (o ∷ os) (Stopped i) = refl

      pub deduced-open : (x : Walked (Option ℕ)) → x ≡ read_outputs r (chunks (packed s) s.outputs) k
          → concluded c x ≡ once (deduction r s) (ticks (deduction_ticks r s) m)
      deduced-open x q =
          ap (concluded c) (q ∙ clashes)
          ∙ ending (contradictions r s.outputs) (ticks (deduction_ticks r s) m)
          ∙ ap (λ (d : Deduction). once d (ticks (deduction_ticks r s) m)) (sym (said (Undecided c) k e))

-- ---- an undecided condition is one of the row's
select-under : (f : ℕ → Bool) (t : ℕ) (xs : List ℕ) → Under t xs → Under t (select f xs)
unfolding select
select-under f t [] u = tt
select-under f t (x ∷ xs) u = go (f x) (select-under f t xs u.1)
  where
    go : (b : Bool) → Under t (select f xs) → Under t (elim b as (λ z. List ℕ) [ true ↦ x ∷ select f xs | false ↦ select f xs ])
    go true h = (u.0, h)
    go false h = h

module _ (r : Region) where
  state-under : (t c : ℕ) (fs : List ℕ) → Under t fs → state_of r fs ≡ Undecided c → c < t
  unfolding state_of
  state-under t c [] u e = cc
  state-under t c (d ∷ ds) u e = go (idle r (d ∷ ds)) e
    where
      go : (b : Bool) → (elim b as (λ z. ConditionState) [ true ↦ Idle | false ↦ Undecided d ]) ≡ Undecided c → c < t
      go true q = cc
      go false q = (let z : d ≡ c = cc in let h = u.0 in omega arith)

  pub undecided-under : (t : ℕ) (s : Row) (n : Meter) (c : ℕ) (k : Meter) → Under t s.conditions
      → done (Undecided c) k ≡ read_conditions r [] (chunks (packed s) s.conditions) n → c < t
  unfolding failing
  undecided-under t s n c k u e =
      state-under t c (failing r s.conditions) (select-under (λ z. not (holds r z)) t s.conditions u)
      (done-by (state_of r (failing r s.conditions)) (Undecided c)
      (ticks (condition_looks r [] (chunks (packed s) s.conditions)) n) k
      (e ∙ looking-is r [] (chunks (packed s) s.conditions) n
      ∙ ap (λ (l : List ℕ). once (state_of r (failing r l))
      (ticks (condition_looks r [] (chunks (packed s) s.conditions)) n)) (concat-chunks (packed s) s.conditions))).1

  first-under : (t o : ℕ) (os : List ℕ) → Under t os → first_of os ≡ Some o → o < t
  first-under t o [] u e = cc
  first-under t o (p ∷ ps) u e = (let z : p ≡ o = cc in let h = u.0 in omega arith)

  -- ---- and a contradicted output one of its outputs
  pub contradicted-under : (t : ℕ) (s : Row) (n : Meter) (o : ℕ) (k : Meter) → Under t s.outputs
      → done (Some o) k ≡ read_outputs r (chunks (packed s) s.outputs) n → o < t
  unfolding contradictions
  contradicted-under t s n o k u e =
      first-under t o (contradictions r s.outputs) (select-under (contradicts r) t s.outputs u)
      (done-by (first_of (contradictions r s.outputs)) (Some o)
      (ticks (output_looks r (chunks (packed s) s.outputs)) n) k
      (e ∙ clashing-is r (chunks (packed s) s.outputs) n
      ∙ ap (λ (l : List ℕ). once (first_of (contradictions r l)) (ticks (output_looks r (chunks (packed s) s.outputs)) n))
      (concat-chunks (packed s) s.outputs))).1
