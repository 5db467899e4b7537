-- 01, Meter: steps that are taken one by one, each after a tick, and what they leave where the meter stops them. Assumes nothing.
use Rattle.std.specs.Prelude.{List, [], ◌∷◌}
use Rattle.meter.specs.declared.Meter.{Meter}
use Rattle.meter.specs.Tick.{Tick, Ticked, Stopped}
use Rattle.meter.specs.Meter.{tick_of}

-- how a walk ended, and what it left
pub record Walk (S : Type 0) : Type 0 where
  pub end : Tick
  pub state : S

abbrev pub walked : {S : Type 0} → Tick → S → Walk S
walked t s = record { end = t; state = s }

-- go on where the meter allows it
abbrev pub onward : {S : Type 0} → Tick → S → (S → Meter → Walk S) → Walk S
onward (Ticked m) s k = k s m
onward (Stopped m) s k = walked (Stopped m) s

module _ {A S : Type 0} (step : A → S → S) where
  -- the steps alone
  unfoldable pub steps : List A → S → S
  steps [] s = s
  steps (x ∷ xs) s = steps xs (step x s)

  -- a tick before each
  unfoldable pub walk : List A → S → Meter → Walk S
  walk [] s m = walked (Ticked m) s
  walk (x ∷ xs) s m = onward (tick_of m) s (λ t. walk xs (step x t))
