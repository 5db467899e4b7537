-- The union of two lists and the row grown by it: its members, its order, its bounds. Assumes nothing.
use mathlib.Core.Path.{◌≡◌, refl, sym, ◌∙◌, ap, subst}
use mathlib.Core.Logic.{◌⊎◌, inl, inr}
use mathlib.Core.Bool.{true, ◌&&◌, not, false≢true}
use mathlib.Core.List.{List, [], ◌∷◌}
use Prim.Native.Nat.{ℕ, suc, ◌*◌, ◌≤◌, ◌<◌, compare, Ordering}
use native.Mathlib.Nat.{le_trans}
use native.Mathlib.Omega.{arith}
use lib.Dec.{T, leb, ltb, is_le, compare_is_eq, eqb→eq, leb→le, nleb→lt}
use lib.ListN.{length}
use borrow.Author.Tests.{eq-eqb, lt-ltb, ltb-true, leb-true}
use Rattle.lists.specs.Lists.{all, below, same, ascending}
use Rattle.lists.proofs.Bools.{and_both, and_yes, T_of}
use Rattle.model.specs.Records.{Row, is_row, max_outputs}
use Rattle.model.specs.Union.{into, union, may_join, joins, grown}
use Rattle.model.specs.Priority.{In}
use Rattle.model.proofs.Cover.{and_right}
use Rattle.model.proofs.Packing.{Asc}
use Rattle.model.proofs.Slots.{ascending-asc}
use Rattle.model.proofs.Rows.{row-parts, parts-row, asc-ascending}

-- ---- the members of the union are those of the two
abbrev Out : List ℕ → List ℕ → List ℕ → Type 0
Out a b u = (x : ℕ) → In x u → In x a ⊎ In x b

out-cons : {A B C : Type 0} → A ⊎ B → (C ⊎ A) ⊎ B
out-cons (inl m) = inl (inr m)
out-cons (inr m) = inr m

out-skip : {A B C : Type 0} → A ⊎ B → A ⊎ (C ⊎ B)
out-skip (inl m) = inl m
out-skip (inr m) = inr (inr m)

into-out-step :
    (a b : ℕ) (as' bs : List ℕ) (rest : List ℕ → List ℕ) (o : Ordering)
    → ((k : List ℕ) → Out as' k (rest k))
    → Out (a ∷ as') bs (into a rest bs)
    → Out (a ∷ as') (b ∷ bs) (elim o [ Ordering.lt ↦ a ∷ rest (b ∷ bs) | Ordering.eq ↦ a ∷ rest bs | Ordering.gt ↦ b ∷ into a rest bs ])
into-out-step a b as' bs rest Ordering.lt f g x (inl e) = inl (inl e)
into-out-step a b as' bs rest Ordering.lt f g x (inr m) = out-cons (f (b ∷ bs) x m)
into-out-step a b as' bs rest Ordering.eq f g x (inl e) = inl (inl e)
into-out-step a b as' bs rest Ordering.eq f g x (inr m) = out-skip (out-cons (f bs x m))
into-out-step a b as' bs rest Ordering.gt f g x (inl e) = inr (inl e)
into-out-step a b as' bs rest Ordering.gt f g x (inr m) = out-skip (g x m)

into-out : (a : ℕ) (as' : List ℕ) (rest : List ℕ → List ℕ) → ((k : List ℕ) → Out as' k (rest k)) → (bs : List ℕ)
    → Out (a ∷ as') bs (into a rest bs)
unfolding into
into-out a as' rest f [] x (inl e) = inl (inl e)
into-out a as' rest f [] x (inr m) = out-cons (f [] x m)
into-out a as' rest f (b ∷ bs) x m = into-out-step a b as' bs rest (compare a b) f (into-out a as' rest f bs) x m

pub union-out : (a b : List ℕ) → Out a b (union a b)
unfolding union
union-out [] b x m = inr m
union-out (a ∷ as') b x m = into-out a as' (λ k. union as' k) (union-out as') b x m

-- ---- the union of ascending lists ascends
pub cmp-eq : (m n : ℕ) → compare m n ≡ Ordering.eq → m ≡ n
cmp-eq m n e = eqb→eq m n (subst (λ (o : Ordering). T (compare_is_eq o)) (sym e) tt)

cmp-lt : (a b : ℕ) → compare a b ≡ Ordering.lt → a < b
cmp-lt a b e =
    let l : a ≤ b = leb→le a b (subst (λ (o : Ordering). T (is_le o)) (sym e) tt) in
    let n : (a ≡ b → ⊥) = λ q. false≢true (sym (ap compare_is_eq e) ∙ eq-eqb a b q) in
    lt_of a b l n
  where
    lt_of : (a b : ℕ) → a ≤ b → (a ≡ b → ⊥) → a < b
    lt_of a b l n = omega arith

cmp-gt : (a b : ℕ) → compare a b ≡ Ordering.gt → b < a
cmp-gt a b e = nleb→lt a b (subst (λ (o : Ordering). T (not (is_le o))) (sym e) tt)

into-asc-step : (k a b : ℕ) (rest : List ℕ → List ℕ) (bs : List ℕ) (o : Ordering) → compare a b ≡ o
    → ((cs : List ℕ) → Asc (suc a) cs → Asc (suc a) (rest cs)) → k ≤ a → Asc k (b ∷ bs)
    → ((j : ℕ) → j ≤ a → Asc j bs → Asc j (into a rest bs))
    → Asc k (elim o [ Ordering.lt ↦ a ∷ rest (b ∷ bs) | Ordering.eq ↦ a ∷ rest bs | Ordering.gt ↦ b ∷ into a rest bs ])
into-asc-step k a b rest bs Ordering.lt e f h g i = (h, f (b ∷ bs) (cmp-lt a b e, g.1))
into-asc-step k a b rest bs Ordering.eq e f h g i = (h, f bs (subst (λ (x : ℕ). Asc (suc x) bs) (sym (cmp-eq a b e)) g.1))
into-asc-step k a b rest bs Ordering.gt e f h g i = (g.0, i (suc b) (cmp-gt a b e) g.1)

into-asc : (a : ℕ) (rest : List ℕ → List ℕ) → ((cs : List ℕ) → Asc (suc a) cs → Asc (suc a) (rest cs)) → (bs : List ℕ) (k : ℕ) → k ≤ a
    → Asc k bs → Asc k (into a rest bs)
unfolding into
into-asc a rest f [] k h g = (h, f [] tt)
into-asc a rest f (b ∷ bs) k h g = into-asc-step k a b rest bs (compare a b) refl f h g (λ j. into-asc a rest f bs j)

pub union-asc : (a b : List ℕ) (k : ℕ) → Asc k a → Asc k b → Asc k (union a b)
unfolding union
union-asc [] b k g h = h
union-asc (a ∷ as') b k g h = into-asc a (union as') (λ cs i. union-asc as' cs (suc a) g.1 i) b k g.0 h

-- ---- the union of lists below n is below n
below_in : (n : ℕ) (xs : List ℕ) → below n xs ≡ true → (x : ℕ) → In x xs → x < n
unfolding below all
below_in n (y ∷ ys) e x (inl q) = subst (λ (z : ℕ). z < n) (sym q) (ltb-true y n (and_both (ltb y n) _ e).0)
below_in n (y ∷ ys) e x (inr m) = below_in n ys (and_both (ltb y n) _ e).1 x m
below_in n [] e x m = absurd m

in-below : (n : ℕ) (xs : List ℕ) → ((x : ℕ) → In x xs → x < n) → below n xs ≡ true
unfolding below all
in-below n [] f = refl
in-below n (y ∷ ys) f = and_yes (ltb y n) _ (lt-ltb y n (f y (inl refl))) (in-below n ys (λ x m. f x (inr m)))

below-union : (n : ℕ) (xs ys : List ℕ) → below n xs ≡ true → below n ys ≡ true → below n (union xs ys) ≡ true
below-union n xs ys e f = in-below n (union xs ys) (λ x m. go x (union-out xs ys x m))
  where
    go : (x : ℕ) → In x xs ⊎ In x ys → x < n
    go x (inl m) = below_in n xs e x m
    go x (inr m) = below_in n ys f x m

-- ---- a grown row
pub grown-conditions : (r p : Row) → (grown r p).conditions ≡ p.conditions
unfolding grown
grown-conditions r p = refl

pub grown-below : (n : ℕ) (r p : Row) → below n r.outputs ≡ true → below n p.outputs ≡ true → below n (grown r p).outputs ≡ true
unfolding grown
grown-below n r p e f = below-union n r.outputs p.outputs e f

-- a joined union is within the maximum
pub joins-few : (most : ℕ) (r p : Row) → joins most r p ≡ true → length (grown r p).outputs ≤ most
unfolding joins
joins-few most r p e =
    leb-true (length (grown r p).outputs) most
    (and_both (same r.conditions p.conditions) (leb (length (grown r p).outputs) most)
    (and_both (may_join most r p) (same r.conditions p.conditions && leb (length (grown r p).outputs) most) e).1).1

pub grown-row : (n m : ℕ) (r p : Row) → m ≤ max_outputs → T (joins m r p) → is_row n r ≡ true → is_row n p ≡ true → is_row n (grown r p) ≡ true
unfolding joins grown
grown-row n m r p l t e f =
    let a = row-parts n r e in
    let b = row-parts n p f in
    parts-row n (grown r p) (record {
      few = b.few;
      many =
          le_trans (leb→le (length (union r.outputs p.outputs)) m
          (and_right (same r.conditions p.conditions) (leb (length (union r.outputs p.outputs)) m)
          (and_right (may_join m r p) _ t)))
          l;
      conditions_under = b.conditions_under;
      outputs_under = below-union (2 * n) r.outputs p.outputs a.outputs_under b.outputs_under;
      conditions_rise = b.conditions_rise;
      outputs_rise = asc-ascending 0 (union r.outputs p.outputs)
          (union-asc r.outputs p.outputs 0 (ascending-asc r.outputs (T_of {x = ascending r.outputs} a.outputs_rise))
          (ascending-asc p.outputs (T_of {x = ascending p.outputs} b.outputs_rise)));
    })
