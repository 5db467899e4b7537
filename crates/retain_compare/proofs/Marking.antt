-- The marks after one position: at the position, at any other, and how many words there are. Assumes nothing.
use mathlib.Core.Path.{◌≡◌, refl, sym, ap, ◌∙◌}
use mathlib.Core.Bool.{Bool, true, false, ◌||◌, or-false}
use mathlib.Core.List.{List}
use Prim.Native.Nat.{ℕ, ◌/◌, ◌<◌}
use lib.ListN.{length}
use borrow.Author.Tests.{eq-eqb, ne_eqb}
use Rattle.words.specs.Region.{has}
use Rattle.words.proofs.Regions.{length-mark, has-mark}
use Rattle.model.specs.Records.{Row}
use Rattle.model.specs.Rows.{subsumes}
use Rattle.retain_compare.specs.Turns.{marked_if, swept_marks}

pub marked-length : (b : Bool) (marks : List ℕ) (i : ℕ) → length (marked_if b marks i) ≡ length marks
marked-length true marks i = length-mark marks i
marked-length false marks i = refl

module _ (marks : List ℕ) (i : ℕ) (h : i / 64 < length marks) where
  pub marked-here : (b : Bool) → has (marked_if b marks i) i ≡ (has marks i || b)
  marked-here true = has-mark marks i i h ∙ ap (λ (b : Bool). has marks i || b) (eq-eqb i i refl)
  marked-here false = sym (or-false (has marks i))

  pub marked_other : (b : Bool) (j : ℕ) → (j ≡ i → ⊥) → has (marked_if b marks i) j ≡ has marks j
  marked_other true j n = has-mark marks i j h ∙ ap (λ (b : Bool). has marks j || b) (ne_eqb j i n) ∙ or-false (has marks j)
  marked_other false j n = refl

-- the second pass
pub swept-length : (b : Bool) (marks : List ℕ) (i : ℕ) (p s : Row) → length (swept_marks b marks i p s) ≡ length marks
swept-length true marks i p s = refl
swept-length false marks i p s = marked-length (subsumes p s) marks i

module _ (p s : Row) (marks : List ℕ) (i : ℕ) (h : i / 64 < length marks) where
  pub swept-here : (b : Bool) → has marks i ≡ b → has (swept_marks b marks i p s) i ≡ (b || subsumes p s)
  swept-here true e = e
  swept-here false e = marked-here marks i h (subsumes p s) ∙ ap (λ (b : Bool). b || subsumes p s) e

  pub swept-other : (b : Bool) (j : ℕ) → (j ≡ i → ⊥) → has (swept_marks b marks i p s) j ≡ has marks j
  swept-other true j n = refl
  swept-other false j n = marked_other marks i h (subsumes p s) j n
