-- A turn of the walk over the conditions, or over the outputs, by what a chunk says. Assumes nothing.
use mathlib.Core.Path.{◌≡◌, refl, sym, ap, ap₂, ◌∙◌}
use mathlib.Core.Bool.{true, false}
use mathlib.Core.List.{List, [], ◌∷◌, ◌++◌}
use Prim.Native.Nat.{ℕ, suc, ◌+◌, ◌-◌, ◌*◌, ◌≤◌, ◌<◌}
use native.Mathlib.Numerals.{add-one}
use native.Mathlib.Omega.{arith}
use lib.ListN.{get_or}
use Rattle.std.specs.Prelude.{Some, None}
use Rattle.words.specs.Region.{Region}
use Rattle.meter.specs.declared.Meter.{Meter}
use Rattle.meter.specs.Tick.{Ticked, Stopped}
use Rattle.meter.specs.Meter.{tick_of}
use Rattle.model.specs.Records.{group_length}
use Rattle.model.specs.Slots.{codes_of}
use Rattle.model.specs.Deduction.{failing, contradictions, idle}
use Rattle.slots.specs.declared.Side.{Side}
use Rattle.row_deduce.specs.declared.ConditionState.{ConditionState}
use Rattle.row_deduce.specs.declared.ConditionState.TheVariants.{Idle, Holds, Undecided}
use Rattle.row_deduce.specs.Chunks.{chunk_at, chunks_from, chunks_of}
use Rattle.row_deduce.specs.Walks.{done, halted, state_of, both_of, first_of, read_conditions, read_outputs}
use Rattle.row_deduce.proofs.Walks.{idle-none, state-append, calm-state, state-calm, looking-stopped, looking-idle, looking-on, looking-end}
use Rattle.row_deduce.proofs.Walks.{clashing-stopped, clashing-hit, clashing-on, clashing-end}

-- ---- the chunks from g on
module _ (ws : List ℕ) (s : Side) (n g : ℕ) where
  pub chunks-step : g < n → chunks_from ws s (n - g) g ≡ chunk_at ws s g ∷ chunks_from ws s (n - (g + 1)) (g + 1)
  unfolding chunks_from
  chunks-step h =
      let e : n - g ≡ suc (n - (g + 1)) = omega arith in
      ap (λ (k : ℕ). chunks_from ws s k g) e ∙ ap (λ (k : ℕ). chunk_at ws s g ∷ chunks_from ws s (n - (g + 1)) k) (sym (add-one g))

  pub chunks-end : n ≤ g → chunks_from ws s (n - g) g ≡ []
  unfolding chunks_from
  chunks-end h = let e : n - g ≡ 0 = omega arith in ap (λ (k : ℕ). chunks_from ws s k g) e

module _ (ws : List ℕ) (s : Side) (g : ℕ) where
  pub chunk-group : s.packed ≡ true
      → chunk_at ws s g ≡ codes_of (get_or ws (s.base + group_length * g) 0) (get_or ws (s.base + group_length * g + 1) 0)
      (get_or ws (s.base + group_length * g + 2) 0)
  unfolding chunk_at
  chunk-group e = rw e

  pub chunk-code : s.packed ≡ false → chunk_at ws s g ≡ get_or ws (s.base + g) 0 ∷ []
  unfolding chunk_at
  chunk-code e = rw e

-- ---- the walk over the conditions of a side, before chunk g: from here on it is the walk from the start
pub record Walking (r : Region) (ws : List ℕ) (s : Side) (start : Meter) (state : ConditionState) (g : ℕ) (m : Meter) : Type 0 where
  pub fails : List ℕ
  pub is : state ≡ state_of r fails
  pub calm : idle r fails ≡ false
  pub same : read_conditions r fails (chunks_from ws s (s.count - g) g) m ≡ read_conditions r [] (chunks_of ws s) start

pub walk_start : (r : Region) (ws : List ℕ) (s : Side) (m : Meter) → Walking r ws s m Holds 0 m
unfolding state_of
walk_start r ws s m =
    let e : s.count - 0 ≡ s.count = omega arith in record {
      fails = [];
      is = refl;
      calm = idle-none r;
      same = ap (λ (n : ℕ). read_conditions r [] (chunks_from ws s n 0) m) e;
    }

module _ (r : Region) (ws : List ℕ) (s : Side) (start : Meter) (state : ConditionState) (g : ℕ) (m : Meter)
    (w : Walking r ws s start state g m) where
  pub walk_end : s.count ≤ g → done state m ≡ read_conditions r [] (chunks_of ws s) start
  walk_end h =
      ap (λ (l : ConditionState). done l m) w.is ∙ looking-end r w.fails m
      ∙ ap (λ (l : List (List ℕ)). read_conditions r w.fails l m) (sym (chunks-end ws s s.count g h)) ∙ w.same

  module _ (more : g < s.count) where
    abbrev left : List (List ℕ)
    left = chunks_from ws s (s.count - (g + 1)) (g + 1)

    next : read_conditions r w.fails (chunk_at ws s g ∷ chunks_from ws s (s.count - (g + 1)) (g + 1)) m
        ≡ read_conditions r [] (chunks_of ws s) start
    next = ap (λ (l : List (List ℕ)). read_conditions r w.fails l m) (sym (chunks-step ws s s.count g more)) ∙ w.same

    pub turn_stopped : {n : Meter} → Stopped n ≡ tick_of m → halted n ≡ read_conditions r [] (chunks_of ws s) start
    turn_stopped e = looking-stopped r w.fails (chunk_at ws s g) left m e ∙ next

    -- how the conditions stand after the chunk, of which it is said how it stands
    module _ {n : Meter} (e : Ticked n ≡ tick_of m) (said : ConditionState)
        (by : said ≡ state_of r (failing r (chunk_at ws s g))) where
      abbrev fails : List ℕ
      fails = w.fails ++ failing r (chunk_at ws s g)

      after : both_of state said ≡ state_of r (w.fails ++ failing r (chunk_at ws s g))
      after = ap₂ both_of w.is by ∙ sym (state-append r w.fails (failing r (chunk_at ws s g)))

      turn-idle : both_of state said ≡ Idle → done Idle n ≡ read_conditions r [] (chunks_of ws s) start
      turn-idle f = looking-idle r w.fails (chunk_at ws s g) left m e (sym after ∙ f) ∙ next

      turn_on : (now : ConditionState) → both_of state said ≡ now → (now ≡ Idle → ⊥) → Walking r ws s start now (g + 1) n
      turn_on now f i =
          let calm = calm-state r fails (λ q. i (sym f ∙ after ∙ q)) in record {
            fails = fails;
            is = sym f ∙ after;
            calm = calm;
            same = looking-on r w.fails (chunk_at ws s g) left m e calm ∙ next;
          }

    module _ {n : Meter} (e : Ticked n ≡ tick_of m) where
      pub chunk-idle : Idle ≡ state_of r (failing r (chunk_at ws s g)) → done Idle n ≡ read_conditions r [] (chunks_of ws s) start
      chunk-idle f = turn-idle e Idle f (both-idle state)
        where
          both-idle : (t : ConditionState) → both_of t Idle ≡ Idle
          both-idle Idle = refl
          both-idle Holds = refl
          both-idle (Undecided c) = refl

      -- a second one that is undecided
      pub chunk-second : (c : ℕ) → Undecided c ≡ state_of r (failing r (chunk_at ws s g)) → (state ≡ Holds → ⊥)
          → done Idle n ≡ read_conditions r [] (chunks_of ws s) start
      chunk-second c f i = turn-idle e (Undecided c) f (second state i)
        where
          second : (t : ConditionState) → (t ≡ Holds → ⊥) → both_of t (Undecided c) ≡ Idle
          second Idle j = refl
          second Holds j = absurd (j refl)
          second (Undecided d) j = refl

      pub chunk-holds : Holds ≡ state_of r (failing r (chunk_at ws s g)) → Walking r ws s start state (g + 1) n
      chunk-holds f = turn_on e Holds f state (as-it-was state) (λ q. state-calm r w.fails w.calm (sym w.is ∙ q))
        where
          as-it-was : (t : ConditionState) → both_of t Holds ≡ t
          as-it-was Idle = refl
          as-it-was Holds = refl
          as-it-was (Undecided c) = refl

      pub chunk-opens : (c : ℕ) → Undecided c ≡ state_of r (failing r (chunk_at ws s g)) → state ≡ Holds
          → Walking r ws s start (Undecided c) (g + 1) n
      chunk-opens c f i = turn_on e (Undecided c) f (Undecided c) (ap (λ (t : ConditionState). both_of t (Undecided c)) i) (λ q. cc)

-- ---- the walk over the outputs of a side, before chunk g
abbrev pub Passing : Region → List ℕ → Side → Meter → ℕ → Meter → Type 0
Passing r ws s start g m = read_outputs r (chunks_from ws s (s.count - g) g) m ≡ read_outputs r (chunks_of ws s) start

pub pass-start : (r : Region) (ws : List ℕ) (s : Side) (m : Meter) → Passing r ws s m 0 m
pass-start r ws s m =
    let e : s.count - 0 ≡ s.count = omega arith in
    ap (λ (n : ℕ). read_outputs r (chunks_from ws s n 0) m) e

module _ (r : Region) (ws : List ℕ) (s : Side) (start : Meter) (g : ℕ) (m : Meter) (w : Passing r ws s start g m) where
  pub pass-end : s.count ≤ g → done None m ≡ read_outputs r (chunks_of ws s) start
  pass-end h = clashing-end r m ∙ ap (λ (l : List (List ℕ)). read_outputs r l m) (sym (chunks-end ws s s.count g h)) ∙ w

  module _ (more : g < s.count) where
    abbrev pass-left : List (List ℕ)
    pass-left = chunks_from ws s (s.count - (g + 1)) (g + 1)

    pass-next : read_outputs r (chunk_at ws s g ∷ chunks_from ws s (s.count - (g + 1)) (g + 1)) m ≡ read_outputs r (chunks_of ws s) start
    pass-next = ap (λ (l : List (List ℕ)). read_outputs r l m) (sym (chunks-step ws s s.count g more)) ∙ w

    pub pass-stopped : {n : Meter} → Stopped n ≡ tick_of m → halted n ≡ read_outputs r (chunks_of ws s) start
    pass-stopped e = clashing-stopped r (chunk_at ws s g) pass-left m e ∙ pass-next

    pub pass-hit : {n : Meter} {o : ℕ} → Ticked n ≡ tick_of m → first_of (contradictions r (chunk_at ws s g)) ≡ Some o
        → done (Some o) n ≡ read_outputs r (chunks_of ws s) start
    pass-hit e f = clashing-hit r (chunk_at ws s g) pass-left m e f ∙ pass-next

    pub pass_on : {n : Meter} → Ticked n ≡ tick_of m → first_of (contradictions r (chunk_at ws s g)) ≡ None
        → Passing r ws s start (g + 1) n
    pass_on e f = clashing-on r (chunk_at ws s g) pass-left m e f ∙ pass-next
