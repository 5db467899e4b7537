-- Decide, by the ways that it ends. Assumes nothing.
use mathlib.Core.Path.{◌≡◌, refl, ap, ◌∙◌}
use mathlib.Core.Bool.{Bool, true, false}
use mathlib.Core.List.{List}
use mathlib.Core.Option.{Option, none, some}
use Prim.Native.Nat.{ℕ}
use Rattle.words.specs.Literal.{code}
use Rattle.words.specs.Region.{Region, is_region, Decision, decision, decision_with, decision_on, region}
use Rattle.words.specs.Region as words
use Rattle.std.specs.Prelude.{Ok, Err}
use Rattle.model.specs.declared.Refusal.TheVariants as refuse
use Rattle.model.specs.Refusals.{refusal}
use Rattle.model.specs.Answers.{decide_reply}
use Rattle.model.specs.Operations.{DecideEnd, decide}
use Rattle.operations.specs.Ends.{decide_end}

module _ (n : ℕ) (held cut : List ℕ) (a : ℕ) (value : Bool) where
  pub decide-refused : is_region n (region held cut) ≡ false →
      decide_end (record { answer = Err refuse.Region; ticks = 0 }) held cut ≡ decide n held cut a value
  unfolding decide refusal
  decide-refused e = rw (e, decide, refusal)

  ended : Decision → DecideEnd
  ended d = record { answer = decide_reply d.answer; region = d.after; ticks = 0 }

  by-decision : (x : Option Region) →
      ended (decision (region held cut) x)
      ≡ (elim x as (λ k. DecideEnd) [
        | none ↦ record { answer = decide_reply false; region = region held cut; ticks = 0 }
        | some r ↦ record { answer = decide_reply true; region = r; ticks = 0 }
      ])
  unfolding ended
  by-decision none = refl
  by-decision (some r) = refl

  pub decide-done : (b : Bool) (held' cut' : List ℕ) → is_region n (region held cut) ≡ true →
      decision_with b held' cut' ≡ decision_on n held cut (code a value)
      → decide_end (record { answer = Ok b; ticks = 0 }) held' cut' ≡ decide n held cut a value
  unfolding decide refusal ended
  decide-done b held' cut' e d = rw (e, decide, refusal) (ap ended d ∙ by-decision (words.decide n (region held cut) (code a value)))
