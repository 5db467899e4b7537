-- 01, module 4: "Ticks: 1, then one a literal or group looked at." The walks of a deduction, each tick before its look. Assumes nothing.
use Rattle.std.specs.Prelude.{true, false, List, [], ◌∷◌, ◌++◌, ℕ, Result, Ok, Err}
use Rattle.std.specs.Prelude.{Option, Some, None}
use Rattle.words.specs.Region.{Region}
use Rattle.meter.specs.declared.Meter.{Meter}
use Rattle.meter.specs.declared.Stopped as error
use Rattle.meter.specs.Tick.{Tick, Ticked, Stopped}
use Rattle.meter.specs.Meter.{tick_of}
use Rattle.model.specs.declared.Literal.{Literal}
use Rattle.model.specs.Deduction.{failing, contradictions, idle}
use Rattle.row_deduce.specs.declared.ConditionState.{ConditionState}
use Rattle.row_deduce.specs.declared.ConditionState.TheVariants.{Idle, Holds, Undecided}

-- the literal of a code
abbrev pub literal : ℕ → Literal
literal c = record { 0 = c }

-- how a walk ends: with what it says, or stopped at a tick that was not made, and the meter as it then stands
pub data Walked (A : Type 0) : Type 0 where
  done : A → Meter → Walked A
  halted : Meter → Walked A

-- by a function's result and the meter that it leaves
abbrev pub walked : {A : Type 0} → Result A error.Stopped → Meter → Walked A
walked (Ok a) m = done a m
walked (Err e) m = halted m

-- what is said once the ticks are made
abbrev pub once : {A : Type 0} → A → Tick → Walked A
once a (Ticked m) = done a m
once a (Stopped m) = halted m

-- the first of what was found
abbrev pub first_of : List ℕ → Option ℕ
first_of [] = None
first_of (c ∷ cs) = Some c

-- how conditions stand by those of them that fail
unfoldable pub state_of : Region → List ℕ → ConditionState
state_of r [] = Holds
state_of r (c ∷ cs) = elim (idle r (c ∷ cs)) [ true ↦ Idle | false ↦ Undecided c ]

-- how two lists of conditions stand together
abbrev pub both_of : ConditionState → ConditionState → ConditionState
both_of Idle t = Idle
both_of Holds t = t
both_of (Undecided c) Holds = Undecided c
both_of (Undecided c) Idle = Idle
both_of (Undecided c) (Undecided d) = Idle

-- the conditions from here on, by chunks; fs: what failed so far
unfoldable pub read_conditions : Region → List ℕ → List (List ℕ) → Meter → Walked ConditionState
read_conditions r fs [] m = done (state_of r fs) m
read_conditions r fs (k ∷ ks) m =
    let gs : List ℕ = fs ++ failing r k in
    elim (tick_of m) [
      | Stopped n ↦ halted n
      | Ticked n ↦ elim (idle r gs) [ true ↦ done Idle n | false ↦ read_conditions r gs ks n ]
    ]

-- the outputs from here on, by chunks, up to the first that is contradicted
unfoldable pub read_outputs : Region → List (List ℕ) → Meter → Walked (Option ℕ)
read_outputs r [] m = done None m
read_outputs r (k ∷ ks) m =
    elim (tick_of m) [
      | Stopped n ↦ halted n
      | Ticked n ↦ elim (contradictions r k) [ [] ↦ read_outputs r ks n | o ∷ os ↦ done (Some o) n ]
    ]
