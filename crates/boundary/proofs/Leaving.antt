-- The two ways out of a call: refused, and nothing is written; or the words of the operation's end. Assumes nothing.
use mathlib.Core.Path.{◌≡◌, refl, sym, ap, ◌∙◌}
use mathlib.Core.List.{List}
use mathlib.Core.Option.{Option, none, some}
use Prim.Native.Nat.{ℕ, zero, suc}
use Rattle.wire.specs.Replies.{Left, left}
use Rattle.boundary.specs.Calls.{unless_refused, leaves}

refused : (old new : List (List ℕ)) (n : ℕ) → (n ≡ 0 → ⊥) → left n old ≡ unless_refused old n new
refused old new zero f = absurd (f refl)
refused old new (suc n) f = refl

-- the code's end e is the definition's end d; n is what the code took for the number
module _ {E : Type 0} (view : E → Left) (old : List (List ℕ)) (e d : E) (q : e ≡ d) (n : ℕ) (told : n ≡ (view e).result) where
  number : n ≡ (view d).result
  number = told ∙ ap (λ (x : E). (view x).result) q

  pub refused-way : (ws : List (List ℕ)) → (n ≡ 0 → ⊥) → (((view d).result ≡ 0 → ⊥) → ws ≡ old) → left n ws ≡ leaves old (view d)
  refused-way ws f kept =
      ap (left n) (kept (λ z. f (number ∙ z)))
      ∙ refused old (view d).words n f
      ∙ ap (λ (k : ℕ). unless_refused old k (view d).words) number

  pub done-way : (ws : List (List ℕ)) → n ≡ 0 → ws ≡ (view e).words → left 0 ws ≡ leaves old (view d)
  done-way ws z new =
      ap (left 0) (new ∙ ap (λ (x : E). (view x).words) q)
      ∙ ap (λ (k : ℕ). unless_refused old k (view d).words) (sym z ∙ number)

-- an end that a refusal decides: only a refused one has a number, and it keeps what was lent
pub keeps : {E : Type 0} (result : E → ℕ) (lends : E → List (List ℕ)) (old : List (List ℕ)) (o : Option ℕ) (f : ℕ → E) (g : E)
    → ((n : ℕ) → lends (f n) ≡ old) → result g ≡ 0 →
    (result (elim o [ some n ↦ f n | none ↦ g ]) ≡ 0 → ⊥) → lends (elim o [ some n ↦ f n | none ↦ g ]) ≡ old
keeps result lends old none f g k z y = absurd (y z)
keeps result lends old (some n) f g k z y = k n

-- no refusal, either way
pub neither : {E A : Type 0} (result : E → ℕ) (o : Option A) (f : A → E) (g : E) → ((a : A) → result (f a) ≡ 0) → result g ≡ 0
    → result (elim o [ some a ↦ f a | none ↦ g ]) ≡ 0
neither result none f g k z = z
neither result (some a) f g k z = k a
