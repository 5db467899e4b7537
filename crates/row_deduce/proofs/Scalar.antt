-- A literal of a scalar side in a region: how it stands as a condition, and whether it is contradicted as an output. Assumes nothing.
use mathlib.Core.Path.{◌≡◌, sym, ap, ◌∙◌}
use mathlib.Core.Bool.{Bool, true, false, not, or-false}
use mathlib.Core.List.{List, [], ◌∷◌}
use Prim.Native.Nat.{ℕ, ◌+◌}
use lib.ListN.{get_or}
use Rattle.std.specs.Prelude.{Some, None}
use Rattle.lists.specs.Lists.{any, select}
use Rattle.words.specs.Region.{Region, holds, contradicts}
use Rattle.model.specs.Deduction.{failing, contradicted, contradictions}
use Rattle.slots.specs.declared.Side.{Side}
use Rattle.row_deduce.specs.declared.ConditionState.TheVariants.{Idle, Holds, Undecided}
use Rattle.row_deduce.specs.Chunks.{chunk_at}
use Rattle.row_deduce.specs.Walks.{state_of, first_of}
use Rattle.row_deduce.proofs.Walks.{idle-clash, state-idle, state-one}
use Rattle.row_deduce.proofs.Turns.{chunk-code}

module _ (r : Region) (c : ℕ) where
  pub one_holds : holds r c ≡ true → failing r (c ∷ []) ≡ []
  unfolding failing select
  one_holds e = ap (λ (b : Bool). elim (not b) as (λ z. List ℕ) [ true ↦ c ∷ [] | false ↦ [] ]) e

  pub one-fails : holds r c ≡ false → failing r (c ∷ []) ≡ c ∷ []
  unfolding failing select
  one-fails e = ap (λ (b : Bool). elim (not b) as (λ z. List ℕ) [ true ↦ c ∷ [] | false ↦ [] ]) e

  pub one-clash : contradicted r (c ∷ []) ≡ contradicts r c
  unfolding contradicted any
  one-clash = or-false (contradicts r c)

  pub one-contradicted : contradicts r c ≡ true → contradictions r (c ∷ []) ≡ c ∷ []
  unfolding contradictions select
  one-contradicted e = ap (λ (b : Bool). elim b as (λ z. List ℕ) [ true ↦ c ∷ [] | false ↦ [] ]) e

  pub one-clear : contradicts r c ≡ false → contradictions r (c ∷ []) ≡ []
  unfolding contradictions select
  one-clear e = ap (λ (b : Bool). elim b as (λ z. List ℕ) [ true ↦ c ∷ [] | false ↦ [] ]) e

  pub code-holds : holds r c ≡ true → Holds ≡ state_of r (failing r (c ∷ []))
  unfolding state_of
  code-holds e = sym (ap (state_of r) (one_holds e))

  pub code-idle : holds r c ≡ false → contradicts r c ≡ true → Idle ≡ state_of r (failing r (c ∷ []))
  code-idle e f = sym (ap (state_of r) (one-fails e) ∙ state-idle r (c ∷ []) (idle-clash r (c ∷ []) (one-clash ∙ f)))

  pub code-open : holds r c ≡ false → contradicts r c ≡ false → Undecided c ≡ state_of r (failing r (c ∷ []))
  code-open e f = sym (ap (state_of r) (one-fails e) ∙ state-one r c (one-clash ∙ f))

  pub code-contradicted : contradicts r c ≡ true → Some c ≡ first_of (contradictions r (c ∷ []))
  unfolding contradictions select
  code-contradicted e = sym (ap (λ (b : Bool). first_of (elim b as (λ z. List ℕ) [ true ↦ c ∷ [] | false ↦ [] ])) e)

  pub code-clear : contradicts r c ≡ false → None ≡ first_of (contradictions r (c ∷ []))
  unfolding contradictions select
  code-clear e = sym (ap (λ (b : Bool). first_of (elim b as (λ z. List ℕ) [ true ↦ c ∷ [] | false ↦ [] ])) e)

-- the chunk is one code
module _ (r : Region) (ws : List ℕ) (s : Side) (g : ℕ) (p : s.packed ≡ false) where
  pub code-hit : contradicts r (get_or ws (s.base + g) 0) ≡ true → contradictions r (chunk_at ws s g) ≡ get_or ws (s.base + g) 0 ∷ []
  code-hit e = ap (contradictions r) (chunk-code ws s g p) ∙ one-contradicted r (get_or ws (s.base + g) 0) e

  pub code-miss : contradicts r (get_or ws (s.base + g) 0) ≡ false → contradictions r (chunk_at ws s g) ≡ []
  code-miss e = ap (contradictions r) (chunk-code ws s g p) ∙ one-clear r (get_or ws (s.base + g) 0) e
