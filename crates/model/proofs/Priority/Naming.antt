-- 02, Six: "Require carries the least contradicted output code". What a Require names is an output of the row that the region contradicts,
-- and no other such output is less. Assumes nothing.
use mathlib.Core.Path.{◌≡◌, refl, sym, ap, ◌∙◌, subst}
use mathlib.Core.Logic.{inl, inr}
use mathlib.Core.Bool.{Bool, true, false, not, ◌&&◌, true≢false}
use mathlib.Core.List.{List, [], ◌∷◌}
use Prim.Native.Nat.{ℕ, ◌≤◌, min}
use native.Mathlib.Omega.{arith}
use native.Mathlib.Decide.{dec_le}
use lib.Dec.{T}
use Rattle.lists.specs.Lists.{select, filled, least}
use Rattle.lists.proofs.Selects.{any-select}
use Rattle.words.specs.Region.{Region, contradicts}
use Rattle.model.specs.declared.Literal.{Literal}
use Rattle.model.specs.declared.Deduction.{Deduction}
use Rattle.model.specs.declared.Deduction.TheVariants.{Nothing, Force, Require}
use Rattle.model.specs.Records.{Row}
use Rattle.model.specs.Deduction.{failing, contradicted, contradictions, idle, requiring, deduce_from, deduction}
use Rattle.model.specs.Priority.{In}
use Rattle.model.proofs.Priority.Searching.{in-select, select_in}

-- ---- the least of a list
least-in : (x : ℕ) (xs : List ℕ) → In (least (x ∷ xs)) (x ∷ xs)
unfolding least
least-in x [] = inl refl
least-in x (y ∷ ys) = go (dec_le x (least (y ∷ ys))) (least-in y ys)
  where
    go : Dec (x ≤ least (y ∷ ys)) → In (least (y ∷ ys)) (y ∷ ys) → In (min x (least (y ∷ ys))) (x ∷ y ∷ ys)
    go (yes l) i = inl (omega arith)
    go (no l) i = inr (subst (λ (v : ℕ). In v (y ∷ ys)) (omega arith) i)

least-le : (xs : List ℕ) (v : ℕ) → In v xs → least xs ≤ v
unfolding least
least-le [] v i = absurd i
least-le (x ∷ []) v (inl e) = omega arith
least-le (x ∷ []) v (inr i) = absurd i
least-le (x ∷ y ∷ ys) v (inl e) = omega arith
least-le (x ∷ y ∷ ys) v (inr i) = let h = least-le (y ∷ ys) v i in omega arith

-- ---- what a deduction names
pub record Names (r : Region) (s : Row) (o : ℕ) : Type 0 where
  pub output : In o s.outputs
  pub against : T (contradicts r o)
  pub least : (x : ℕ) → In x s.outputs → T (contradicts r x) → o ≤ x

abbrev NamedBy : Region → Row → Deduction → Type 0
NamedBy r s Nothing = Unit {0}
NamedBy r s Force = Unit {0}
NamedBy r s (Require c o) = Names r s o.0

least-named : (r : Region) (s : Row) → contradicted r s.outputs ≡ true → Names r s (least (contradictions r s.outputs))
unfolding contradicted contradictions
least-named r s e = go (select (contradicts r) s.outputs) refl
  where
    go : (os : List ℕ) → select (contradicts r) s.outputs ≡ os → Names r s (least (select (contradicts r) s.outputs))
    go [] q = absurd (true≢false (sym e ∙ any-select (contradicts r) s.outputs ∙ ap filled q))
    go (p ∷ ps) q =
        let i = select_in (contradicts r) s.outputs _ (subst (λ (l : List ℕ). In (least l) l) (sym q) (least-in p ps)) in
        record {
          output = i.0;
          against = i.1;
          least = λ x j t. least-le (select (contradicts r) s.outputs) x (in-select (contradicts r) s.outputs x j t);
        }

named-from : (r : Region) (s : Row) (fs : List ℕ) → NamedBy r s (deduce_from r s fs)
unfolding deduce_from
named-from r s [] = tt
named-from r s (c ∷ cs) = go (not (idle r (c ∷ cs))) (contradicted r s.outputs) refl
  where
    go : (a b : Bool) → contradicted r s.outputs ≡ b
        → NamedBy r s (elim (a && b) as (λ k. Deduction) [ true ↦ requiring r s c | false ↦ Nothing ])
    go true true e = least-named r s e
    go true false e = tt
    go false b e = tt

pub require-names : (r : Region) (s : Row) (c o : Literal) → deduction r s ≡ Require c o → Names r s o.0
unfolding deduction
require-names r s c o e = subst (NamedBy r s) e (named-from r s (failing r s.conditions))
