-- A row settled on a region stays settled where none of its atoms is decided; an obeyed row is settled. Assumes nothing.
use mathlib.Core.Path.{◌≡◌, refl, sym, ap, ap₂, ◌∙◌, subst}
use mathlib.Core.Logic.{◌⊎◌, inl, inr}
use mathlib.Core.Bool.{Bool, true, false, not}
use mathlib.Core.List.{List, [], ◌∷◌}
use Prim.Native.Nat.{ℕ, ◌*◌}
use lib.Dec.{T}
use Rattle.lists.specs.Lists.{select}
use Rattle.lists.proofs.Bools.{bool-ext, T_true, T_of}
use Rattle.words.specs.Literal.{atom, is_present, opposite}
use Rattle.words.specs.Region.{Region, has, holds, contradicts, decided}
pub use Rattle.words.proofs.Deciding.{holds-present, holds-absent}
use Rattle.words.proofs.Regions.{Sound}
use Rattle.words.proofs.Literals.{atom-even, atom-opposite}
use Rattle.model.specs.declared.Deduction.{Deduction}
use Rattle.model.specs.declared.Deduction.TheVariants.{Nothing, Force}
use Rattle.model.specs.Records.{Row}
use Rattle.model.specs.Deduction.{failing, deduction}
use Rattle.model.specs.Priority.{In, Contains, Says}
use Rattle.model.proofs.Priority.Conditions.{opposite-present, opposite-absent}
use Rattle.model.proofs.Priority.Closed.{Saying, says, failing-in, failing-has, contradicted-in, in-contradicted, unfold-con}
use Rattle.model.proofs.Priority.Closed.{force-all, require-one}
use Rattle.model.proofs.Priority.Inside.{no_both, fold-con, force-holds}

-- the row forces or requires no literal that the region lacks
abbrev pub Settled : Row → Region → Type 0
Settled s r = (x : ℕ) → Says (deduction r s) s x → T (holds r x)

-- no atom of the row was decided from r to q
abbrev pub Quiet : Row → Region → Region → Type 0
Quiet s r q = (x : ℕ) → In x s.conditions ⊎ In x s.outputs → T (decided q (atom x)) → T (decided r (atom x))

-- ---- an atom is decided exactly if one of its literals holds
pub decided-of : (r : Region) (x : ℕ) → T (holds r x) → T (decided r (atom x))
unfolding holds decided
decided-of r x t = go (is_present x) (has r.held (atom x)) (has r.cut (atom x)) t
  where
    go : (p h c : Bool) → T (elim p as (λ k. Bool) [ true ↦ h | false ↦ c ]) → T (elim h as (λ k. Bool) [ true ↦ true | false ↦ c ])
    go true true c t = tt
    go true false c t = absurd t
    go false true c t = tt
    go false false c t = t

pub decided-split : (r : Region) (x : ℕ) → T (decided r (atom x)) → T (holds r x) ⊎ T (holds r (opposite x))
unfolding decided
decided-split r x t = go (is_present x) refl (has r.held (atom x)) refl t
  where
    go : (p : Bool) → is_present x ≡ p → (h : Bool) → has r.held (atom x) ≡ h
        → T (elim h as (λ k. Bool) [ true ↦ true | false ↦ has r.cut (atom x) ]) → T (holds r x) ⊎ T (holds r (opposite x))
    go true e true q u = inl (T_of (holds-present r x e ∙ q))
    go true e false q u =
        let o = opposite-present x e in
        inr (T_of (holds-absent r (opposite x) o.0 ∙ ap (has r.cut) o.1 ∙ T_true (has r.cut (atom x)) u))
    go false e true q u = let o = opposite-absent x e in inr (T_of (holds-present r (opposite x) o.0 ∙ ap (has r.held) o.1 ∙ q))
    go false e false q u = inl (T_of (holds-absent r x e ∙ T_true (has r.cut (atom x)) u))

pub decided-grow : (r q : Region) → Contains q r → (a : ℕ) → T (decided r a) → T (decided q a)
decided-grow r q c a t =
    subst (λ (y : ℕ). T (decided q y)) (atom-even a)
    (go (decided-split r (2 * a) (subst (λ (y : ℕ). T (decided r y)) (sym (atom-even a)) t)))
  where
    go : T (holds r (2 * a)) ⊎ T (holds r (opposite (2 * a))) → T (decided q (atom (2 * a)))
    go (inl u) = decided-of q (2 * a) (c (2 * a) u)
    go (inr u) = subst (λ (y : ℕ). T (decided q y)) (atom-opposite (2 * a)) (decided-of q (opposite (2 * a)) (c (opposite (2 * a)) u))

-- an atom decided no later: the literal held before
pub held-before : (n : ℕ) (r q : Region) → Sound n q → Contains q r → (x : ℕ) → (T (decided q (atom x)) → T (decided r (atom x)))
    → T (holds q x) → T (holds r x)
held-before n r q s c x f t = go (decided-split r x (f (decided-of q x t)))
  where
    go : T (holds r x) ⊎ T (holds r (opposite x)) → T (holds r x)
    go (inl u) = u
    go (inr u) = absurd (no_both n q s x t (c (opposite x) u))

failing-local : (r q : Region) → Contains q r → (cs : List ℕ) → ((x : ℕ) → In x cs → T (holds q x) → T (holds r x))
    → failing r cs ≡ failing q cs
unfolding failing select
failing-local r q c [] f = refl
failing-local r q c (x ∷ xs) f =
    ap₂ (λ (b : Bool) (l : List ℕ). elim (not b) as (λ k. List ℕ) [ true ↦ x ∷ l | false ↦ l ])
    (bool-ext (holds r x) (holds q x) (c x) (f x (inl refl))) (failing-local r q c xs (λ y i. f y (inr i)))

-- ---- a deduction reads only the row's own atoms
pub settled-grow : (n : ℕ) (s : Row) (r q : Region) → Sound n q → Contains q r → Quiet s r q → Settled s r → Settled s q
settled-grow n s r q so c k h x d = go (says q s x d)
  where
    before : (y : ℕ) → In y s.conditions ⊎ In y s.outputs → T (holds q y) → T (holds r y)
    before y i t = held-before n r q so c y (k y i) t

    before' : (y : ℕ) → In y s.conditions ⊎ In y s.outputs → T (holds q (opposite y)) → T (holds r (opposite y))
    before' y i t =
        held-before n r q so c (opposite y)
        (λ u. subst (λ (z : ℕ). T (decided r z)) (sym (atom-opposite y)) (k y i (subst (λ (z : ℕ). T (decided q z)) (atom-opposite y) u))) t

    go : Saying q s x → T (holds q x)
    go (inl p) = c x (h x (subst (λ (e : Deduction). Says e s x) (sym (force-all r s (λ y i. before y (inl i) (p.0 y i)))) p.1))
    go (inr p) =
        let w = contradicted-in q s.outputs p.1.clash in
        subst (λ (y : ℕ). T (holds q y)) (sym p.2)
        (c (opposite p.0)
        (h (opposite p.0) (subst (λ (e : Deduction). Says e s (opposite p.0)) (sym (require-one r s p.0 (record {
          one = failing-local r q c s.conditions (λ y i t. before y (inl i) t) ∙ p.1.one;
          free = λ t. p.1.free (fold-con q p.0 (c (opposite p.0) (unfold-con r p.0 t)));
          clash = in-contradicted r s.outputs w.0 w.1
              (fold-con r w.0 (before' w.0 (inr w.1) (unfold-con q w.0 w.2)));
        }))) refl)))

pub quiet-later : (s : Row) (r u q : Region) → Contains u r → Quiet s r q → Quiet s u q
quiet-later s r u q c k x i t = decided-grow r u c (atom x) (k x i t)

-- ---- a row that was obeyed is settled
pub settled-forced : (s : Row) (r q : Region) → deduction r s ≡ Force → Contains q r → ((x : ℕ) → In x s.outputs → T (holds q x))
    → Settled s q
settled-forced s r q e c f x d = f x (subst (λ (k : Deduction). Says k s x) (force-all q s (λ y i. c y (force-holds r s e y i))) d)

pub settled-nothing : (s : Row) (r : Region) → deduction r s ≡ Nothing → Settled s r
settled-nothing s r e x d = absurd (subst (λ (k : Deduction). Says k s x) e d)

pub settled-required : (n : ℕ) (s : Row) (r q : Region) (l : ℕ) → Saying r s l → (deduction r s ≡ Force → ⊥) → Sound n q → Contains q r
    → T (holds q l) → Settled s q
settled-required n s r q l (inl p) f so c t = absurd (f (force-all r s p.0))
settled-required n s r q l (inr p) f so c t = λ x d. absurd (go (says q s x d))
  where
    o : ℕ
    o = p.0

    u : T (holds q (opposite o))
    u = subst (λ (y : ℕ). T (holds q y)) p.2 t

    o-in : In o s.conditions
    o-in = (failing-in r s.conditions o (subst (In o) (sym p.1.one) (inl refl))).0

    go : {x : ℕ} → Saying q s x → ⊥
    go (inl z) = no_both n q so o (z.0 o o-in) u
    go (inr z) = pick (subst (In o) z.1.one (failing-has q s.conditions o o-in (λ v. no_both n q so o v u)))
      where
        pick : In o (z.0 ∷ []) → ⊥
        pick (inl e) = z.1.free (subst (λ (y : ℕ). T (contradicts q y)) e (fold-con q o u))
        pick (inr i) = i
