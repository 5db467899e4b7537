-- So many calls, each with the state that the one before left. Assumes nothing.
use Rattle.std.specs.Prelude.{◌≡◌, ℕ, zero, suc}
use Rattle.std.specs.Fn.{Shared}
use denote.Ref.{MutBor}

module _ {F S R : Type 0} (g : Shared F (MutBor S × Unit {0}) (R × (MutBor S × Unit {0}))) (f : F) where
  -- a call at a state may give r and leave another
  pub record Calls (x : S) (r : R) (y : S) : Type 0 where
    pub shown : MutBor S
    pub shows : shown.now ≡ x
    pub left : MutBor S
    pub met : g.post f (shown, tt) (r, (left, tt))
    pub leaves : left.now ≡ y

  -- so many calls after the first
  unfoldable pub Repeats : ℕ → S → R → S → Type 0
  Repeats zero x r y = Calls x r y
  Repeats (suc n) x r y = (q : R) × (z : S) × Calls x q z × Repeats n z r y
