-- A function that does not go on, and what it leaves. Assumes nothing.
use mathlib.Core.Path.{◌≡◌, refl, ap, ◌∙◌}
use Rattle.std.specs.Prelude.{Result, Ok, Err}
use Rattle.model.specs.Closing.{State, Turn, going, on_going}
use Rattle.close_publish.specs.Turns.{halted_as, ended_as}
use Rattle.close_publish.specs.declared.Halt.{Halt}
use Rattle.close_publish.specs.declared.Halt.TheVariants.{Conflict, Stopped}

-- nothing comes after it
pub halted-stays : (e : Halt) (s : State) (k : State → Turn) → halted_as e s ≡ on_going (halted_as e s) k
unfolding on_going
halted-stays Conflict s k = refl
halted-stays Stopped s k = refl

-- it stops where one that it calls does
pub ended-on : {A : Type 0} {r : Result A Halt} {e : Halt} (s : State) {t : Turn} → r ≡ Err e → halted_as e s ≡ t → ended_as r s ≡ t
ended-on {A} s p q = ap (λ (x : Result A Halt). ended_as x s) p ∙ q

-- a function that goes on, and one that does not
pub ended-goes : {A : Type 0} (e : Result A Halt) (a : A) (s : State) → e ≡ Ok a → ended_as e s ≡ going s
ended-goes {A} e a s q = ap (λ (x : Result A Halt). ended_as x s) q

pub ended-stays : {A : Type 0} (e : Result A Halt) (s : State) (k : State → Turn) → ((a : A) → e ≡ Ok a → ⊥)
    → ended_as e s ≡ on_going (ended_as e s) k
ended-stays (Ok a) s k t = absurd (t a refl)
ended-stays (Err e) s k t = halted-stays e s k
