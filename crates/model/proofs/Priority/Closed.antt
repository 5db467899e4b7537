-- A region closed for rows is closed for the rows that they cover. Assumes nothing.
use mathlib.Core.Path.{◌≡◌, refl, sym, ap, ap₂, ◌∙◌, subst}
use mathlib.Core.Logic.{◌⊎◌, inl, inr}
use mathlib.Core.Bool.{Bool, true, false, not, ◌&&◌, ◌||◌}
use mathlib.Core.List.{List, [], ◌∷◌}
use Prim.Native.Nat.{ℕ, ◌≤◌, zero-le, suc-le-suc}
use native.Mathlib.Decide.{ℕ_discrete}
use native.Mathlib.Omega.{arith}
use lib.ListN.{length}
use lib.Dec.{T, leb, T_not, leb→le, le→leb}
use Rattle.lists.specs.Lists.{any, select}
use Rattle.lists.proofs.Bools.{T_true, or_l, or_r}
use Rattle.words.specs.Literal.{atom, opposite}
use Rattle.words.specs.Region.{Region, holds, contradicts}
use Rattle.model.specs.declared.Deduction.{Deduction}
use Rattle.model.specs.declared.Deduction.TheVariants.{Nothing, Force}
use Rattle.model.specs.Records.{Row}
use Rattle.model.specs.Deduction.{failing, contradicted, idle, requiring, deduce_from, deduction}
use Rattle.model.specs.Priority.{In, Gives, Covers, Says, ClosedFor}
use Rattle.model.proofs.Cover.{or_split}
use Rattle.model.proofs.Priority.Steps.{Over}
use Rattle.model.proofs.Priority.Conditions.{Clean, row-clean}

-- ---- what fails, and what is contradicted
pub failing-in : (r : Region) (cs : List ℕ) (x : ℕ) → In x (failing r cs) → In x cs × (T (holds r x) → ⊥)
unfolding failing select
failing-in r [] x m = absurd m
failing-in r (c ∷ cs) x m = go (holds r c) refl m (failing-in r cs x)
  where
    go : (b : Bool) → holds r c ≡ b
        → In x (elim (not b) as (λ k. List ℕ) [ true ↦ c ∷ select (λ y. not (holds r y)) cs | false ↦ select (λ y. not (holds r y)) cs ])
        → (In x (select (λ y. not (holds r y)) cs) → In x cs × (T (holds r x) → ⊥)) → In x (c ∷ cs) × (T (holds r x) → ⊥)
    go true e i f = let h = f i in (inr h.0, h.1)
    go false e (inl q) f = (inl q, λ t. subst T (ap (holds r) q ∙ e) t)
    go false e (inr i) f = let h = f i in (inr h.0, h.1)

pub failing-has : (r : Region) (cs : List ℕ) (x : ℕ) → In x cs → (T (holds r x) → ⊥) → In x (failing r cs)
unfolding failing select
failing-has r [] x m n = absurd m
failing-has r (c ∷ cs) x m n = go (holds r c) refl m (failing-has r cs x)
  where
    go : (b : Bool) → holds r c ≡ b → In x (c ∷ cs) → (In x cs → (T (holds r x) → ⊥) → In x (select (λ y. not (holds r y)) cs))
        → In x (elim (not b) as (λ k. List ℕ) [ true ↦ c ∷ select (λ y. not (holds r y)) cs | false ↦ select (λ y. not (holds r y)) cs ])
    go true e (inl q) f = absurd (n (subst T (sym (ap (holds r) q ∙ e)) tt))
    go true e (inr i) f = f i n
    go false e (inl q) f = inl q
    go false e (inr i) f = inr (f i n)

any-in : (f : ℕ → Bool) (xs : List ℕ) → T (any f xs) → (x : ℕ) × In x xs × T (f x)
unfolding any
any-in f [] t = absurd t
any-in f (x ∷ xs) t = go (or_split (f x) (any f xs) t) (any-in f xs)
  where
    go : T (f x) ⊎ T (any f xs) → (T (any f xs) → (y : ℕ) × In y xs × T (f y)) → (y : ℕ) × In y (x ∷ xs) × T (f y)
    go (inl u) g = (x, inl refl, u)
    go (inr u) g = let z = g u in (z.0, inr z.1, z.2)

in-any : (f : ℕ → Bool) (xs : List ℕ) (x : ℕ) → In x xs → T (f x) → T (any f xs)
unfolding any
in-any f [] x m t = absurd m
in-any f (y ∷ ys) x (inl e) t = or_l (f y) (any f ys) (subst (λ (z : ℕ). T (f z)) e t)
in-any f (y ∷ ys) x (inr m) t = or_r (f y) (any f ys) (in-any f ys x m t)

pub contradicted-in : (r : Region) (xs : List ℕ) → T (contradicted r xs) → (x : ℕ) × In x xs × T (contradicts r x)
unfolding contradicted
contradicted-in r xs t = any-in (contradicts r) xs t

pub in-contradicted : (r : Region) (xs : List ℕ) (x : ℕ) → In x xs → T (contradicts r x) → T (contradicted r xs)
unfolding contradicted
in-contradicted r xs x m t = in-any (contradicts r) xs x m t

pub unfold-con : (r : Region) (o : ℕ) → T (contradicts r o) → T (holds r (opposite o))
unfolding contradicts
unfold-con r o t = t

-- ---- the deduction by what fails
pub record Requires (r : Region) (s : Row) (c : ℕ) : Type 0 where
  pub one : failing r s.conditions ≡ c ∷ []
  pub free : T (contradicts r c) → ⊥
  pub clash : T (contradicted r s.outputs)

pub from-none : (r : Region) (s : Row) → deduce_from r s [] ≡ Force
unfolding deduce_from
from-none r s = refl

pub force-all : (r : Region) (s : Row) → ((c : ℕ) → In c s.conditions → T (holds r c)) → deduction r s ≡ Force
unfolding deduction
force-all r s f = go (failing r s.conditions) (failing-in r s.conditions)
  where
    go : (fs : List ℕ) → ((x : ℕ) → In x fs → In x s.conditions × (T (holds r x) → ⊥)) → deduce_from r s fs ≡ Force
    go [] g = from-none r s
    go (c ∷ cs) g = let h = g c (inl refl) in absurd (h.1 (f c h.0))

T_false : (b : Bool) → (T b → ⊥) → b ≡ false
T_false true f = absurd (f tt)
T_false false f = refl

pub require-one : (r : Region) (s : Row) (c : ℕ) → Requires r s c → deduction r s ≡ requiring r s c
unfolding deduction deduce_from idle
require-one r s c q =
    ap (deduce_from r s) q.one
    ∙ ap (λ (b : Bool). elim (not b && contradicted r s.outputs) as (λ k. Deduction) [ true ↦ requiring r s c | false ↦ Nothing ])
    (no-idle q.free)
    ∙ ap (λ (b : Bool). elim b as (λ k. Deduction) [ true ↦ requiring r s c | false ↦ Nothing ])
    (T_true (contradicted r s.outputs) q.clash)
  where
    no-idle : (T (contradicts r c) → ⊥) → (leb 2 (length (c ∷ [])) || contradicted r (c ∷ [])) ≡ false
    no-idle f =
        T_false (leb 2 (length (c ∷ [])) || contradicted r (c ∷ []))
        (λ t. only (or_split (leb 2 (length (c ∷ []))) (contradicted r (c ∷ [])) t))
      where
        only : T (leb 2 (length (c ∷ []))) ⊎ T (contradicted r (c ∷ [])) → ⊥
        only (inl t) = let h = leb→le 2 (length (c ∷ [])) t in bad h
          where
            bad : 2 ≤ 1 → ⊥
            bad h = omega arith
        only (inr t) = alone (contradicted-in r (c ∷ []) t)
          where
            alone : (x : ℕ) × In x (c ∷ []) × T (contradicts r x) → ⊥
            alone z = pick z.1
              where
                pick : In z.0 (c ∷ []) → ⊥
                pick (inl e) = f (subst (λ (y : ℕ). T (contradicts r y)) e z.2)
                pick (inr m) = absurd m

-- ---- what a deduction says
abbrev pub Saying : Region → Row → ℕ → Type 0
Saying r s x = (((c : ℕ) → In c s.conditions → T (holds r c)) × In x s.outputs) ⊎ ((c : ℕ) × Requires r s c × (x ≡ opposite c))

not-idle : (r : Region) (c : ℕ) (cs : List ℕ) → T (not (idle r (c ∷ cs))) → (cs ≡ []) × (T (contradicts r c) → ⊥)
unfolding idle
not-idle r c [] t = (
  refl,
  λ u. T_not (leb 2 (length (c ∷ [])) || contradicted r (c ∷ [])) t
      (or_r (leb 2 (length (c ∷ []))) (contradicted r (c ∷ [])) (in-contradicted r (c ∷ []) c (inl refl) u)),
)
not-idle r c (d ∷ ds) t =
    absurd (T_not (leb 2 (length (c ∷ d ∷ ds)) || contradicted r (c ∷ d ∷ ds)) t
    (or_l (leb 2 (length (c ∷ d ∷ ds))) (contradicted r (c ∷ d ∷ ds)) (le→leb 2 (length (c ∷ d ∷ ds)) (suc-le-suc (suc-le-suc zero-le)))))

says-from : (r : Region) (s : Row) (x : ℕ) (fs : List ℕ) → failing r s.conditions ≡ fs → Says (deduce_from r s fs) s x → Saying r s x
unfolding deduce_from
says-from r s x [] e m = inl (λ c i. holding c i (holds r c) refl, m)
  where
    holding : (c : ℕ) → In c s.conditions → (b : Bool) → holds r c ≡ b → T (holds r c)
    holding c i true q = subst T (sym q) tt
    holding c i false q = absurd (subst (In c) e (failing-has r s.conditions c i (λ t. subst T q t)))
says-from r s x (c ∷ cs) e m = go (not (idle r (c ∷ cs))) (contradicted r s.outputs) refl refl m
  where
    go : (a b : Bool) → not (idle r (c ∷ cs)) ≡ a → contradicted r s.outputs ≡ b
        → Says (elim (a && b) as (λ k. Deduction) [ true ↦ requiring r s c | false ↦ Nothing ]) s x → Saying r s x
    go true true p q n =
        let h = not-idle r c cs (subst T (sym p) tt) in
        inr (c, record { one = e ∙ ap (λ (l : List ℕ). c ∷ l) h.0; free = h.1; clash = subst T (sym q) tt }, n)
    go true false p q n = absurd n
    go false b p q n = absurd n

pub says : (r : Region) (s : Row) (x : ℕ) → Says (deduction r s) s x → Saying r s x
unfolding deduction
says r s x m = says-from r s x (failing r s.conditions) refl m

-- ---- the only failing condition of a clean list
pub single : (n f : ℕ) (r : Region) (cs : List ℕ) → Clean n cs → ((x : ℕ) → In x cs → (T (holds r x) → ⊥) → x ≡ f) → In f cs
    → (T (holds r f) → ⊥) → failing r cs ≡ f ∷ []
unfolding failing select
single n f r [] k u m h = absurd m
single n f r (c ∷ cs) k u m h = go (holds r c) refl (single n f r cs k.2 (λ x i. u x (inr i)))
  where
    none_left : c ≡ f → (xs : List ℕ) → ((x : ℕ) → In x xs → In x cs) → select (λ y. not (holds r y)) xs ≡ []
    none_left e [] g = refl
    none_left e (x ∷ xs) g = step (holds r x) refl (none_left e xs (λ y i. g y (inr i)))
      where
        step : (b : Bool) → holds r x ≡ b → select (λ y. not (holds r y)) xs ≡ []
            → ◌≡◌ {A = List ℕ} (elim (not b) as (λ z. List ℕ) [
              | true ↦ x ∷ select (λ y. not (holds r y)) xs
              | false ↦ select (λ y. not (holds r y)) xs
            ]) []
        step true q i = i
        step false q i = absurd (k.1 x (g x (inl refl)) (ap atom (u x (inr (g x (inl refl))) (λ t. subst T q t) ∙ sym e)))

    go : (b : Bool) → holds r c ≡ b → (In f cs → (T (holds r f) → ⊥) → select (λ y. not (holds r y)) cs ≡ f ∷ [])
        → ◌≡◌ {A = List ℕ} (elim (not b) as (λ z. List ℕ) [
          | true ↦ c ∷ select (λ y. not (holds r y)) cs
          | false ↦ select (λ y. not (holds r y)) cs
        ]) (f ∷ [])
    go true q ih = ih (rest m) h
      where
        rest : In f (c ∷ cs) → In f cs
        rest (inl e) = absurd (h (subst T (sym (ap (holds r) e ∙ q)) tt))
        rest (inr i) = i
    go false q ih =
        let e : c ≡ f = u c (inl refl) (λ t. subst T q t) in
        ap₂ (λ (y : ℕ) (ys : List ℕ). y ∷ ys) e (none_left e cs (λ x i. i))

-- ---- closed for the cover, closed for the covered
pub in-or-not : (f : ℕ) (cs : List ℕ) → In f cs ⊎ (In f cs → ⊥)
in-or-not f [] = inr (λ m. m)
in-or-not f (c ∷ cs) = go (ℕ_discrete f c) (in-or-not f cs)
  where
    go : Dec (f ≡ c) → In f cs ⊎ (In f cs → ⊥) → In f (c ∷ cs) ⊎ (In f (c ∷ cs) → ⊥)
    go (yes e) x = inl (inl e)
    go (no d) (inl i) = inl (inr i)
    go (no d) (inr n) = inr out
      where
        out : In f (c ∷ cs) → ⊥
        out (inl e) = d e
        out (inr i) = n i

pub closed-covered : (n : ℕ) (us vs : List Row) → Over n us → Covers us vs → (r : Region)
    → ((x : ℕ) → T (holds r x) → T (holds r (opposite x)) → ⊥) → ClosedFor us r → ClosedFor vs r
closed-covered n us vs ov cv r apart cl s m x d = go (says r s x d)
  where
    -- a row of us whose conditions all hold forces its outputs
    forced : (g : Row) → In g us → ((c : ℕ) → In c g.conditions → T (holds r c)) → (o : ℕ) → In o g.outputs → T (holds r o)
    forced g i h o j = cl g i o (subst (λ (e : Deduction). Says e g o) (sym (force-all r g h)) j)

    go : Saying r s x → T (holds r x)
    go (inl p) = let g = cv.at s m x p.1 in forced g.by g.is_row (λ c i. p.0 c (g.within c i)) x g.gives
    go (inr p) =
        let f : ℕ = p.0 in
        let q = p.1 in
        let w = contradicted-in r s.outputs q.clash in
        let g = cv.at s m w.0 w.1 in
        subst (λ (y : ℕ). T (holds r y)) (sym p.2) (require f q w.0 w.2 g (in-or-not f g.by.conditions))
      where
        fails-only : (f : ℕ) → Requires r s f → (x : ℕ) → In x s.conditions → (T (holds r x) → ⊥) → x ≡ f
        fails-only f q x i h = pick (subst (In x) q.one (failing-has r s.conditions x i h))
          where
            pick : In x (f ∷ []) → x ≡ f
            pick (inl e) = e
            pick (inr j) = absurd j

        held-or : (f : ℕ) → Requires r s f → (c : ℕ) → In c s.conditions → (c ≡ f → ⊥) → (b : Bool) → holds r c ≡ b → T (holds r c)
        held-or f q c i ne true e = subst T (sym e) tt
        held-or f q c i ne false e = absurd (ne (fails-only f q c i (λ t. subst T e t)))

        require : (f : ℕ) → Requires r s f → (o : ℕ) → T (contradicts r o) → (g : Gives us s.conditions o)
            → In f g.by.conditions ⊎ (In f g.by.conditions → ⊥) → T (holds r (opposite f))
        require f q o k g (inl i) =
            cl g.by g.is_row (opposite f)
            (subst (λ (e : Deduction). Says e g.by (opposite f)) (sym (require-one r g.by f (record {
              one = single n f r g.by.conditions (row-clean n g.by (ov g.by g.is_row))
                  (λ x j h. fails-only f q x (g.within x j) h) i
                  (failing-in r s.conditions f (subst (In f) (sym q.one) (inl refl))).1;
              free = q.free;
              clash = in-contradicted r g.by.outputs o g.gives k;
            }))) refl)
        require f q o k g (inr no') =
            absurd (apart o
            (forced g.by g.is_row
            (λ c i. held-or f q c (g.within c i) (λ e. no' (subst (λ (y : ℕ). In y g.by.conditions) e i)) (holds r c) refl) o
            g.gives) (unfold-con r o k))
