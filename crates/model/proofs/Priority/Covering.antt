-- Covering lists of rows; the tests are sound; what the first pass of a retention keeps. Assumes nothing.
use mathlib.Core.Path.{◌≡◌, refl, sym, ◌∙◌, ap, subst}
use mathlib.Core.Logic.{◌⊎◌, inl, inr}
use mathlib.Core.Bool.{Bool, true, false, ◌&&◌}
use mathlib.Core.List.{List, [], ◌∷◌, map}
use Prim.Native.Nat.{ℕ, compare, Ordering}
use lib.Dec.{T, eqb, leb, eqb→eq}
use lib.ListN.{length}
use Rattle.lists.specs.Lists.{same}
use Rattle.model.specs.Records.{Row, Entry}
use Rattle.model.specs.Rows.{includes, lengths_fit, subsumes}
use Rattle.model.specs.Union.{into, union, may_join, joins, grown}
use Rattle.model.specs.Retention.{Examined, Pass, found, passed, noted, first_pass}
use Rattle.model.specs.Priority.{In, Gives, Covers}
use Rattle.model.proofs.Cover.{and_left, and_right}
use Rattle.model.proofs.Union.{union-out, cmp-eq}

-- the rows of entries
abbrev pub rows_e : List Entry → List Row
rows_e es = map (λ e. e.row) es

abbrev pub Sub : List ℕ → List ℕ → Type 0
Sub a b = (x : ℕ) → In x a → In x b

-- r has no condition beyond s's, and all its outputs
pub record Dom (r s : Row) : Type 0 where
  pub less : Sub r.conditions s.conditions
  pub more : Sub s.outputs r.outputs

abbrev pub Cov : List Row → Row → Type 0
Cov A s = (o : ℕ) → In o s.outputs → Gives A s.conditions o

-- A covers B
pub covers-refl : (A : List Row) → Covers A A
covers-refl A = record { at = λ s m o h. record { by = s; is_row = m; gives = h; within = λ x i. i } }

pub widen : {A B : List Row} {c : List ℕ} {o : ℕ} → Covers B A → Gives A c o → Gives B c o
widen cov g =
    let k = cov.at g.by g.is_row _ g.gives in
    record { by = k.by; is_row = k.is_row; gives = k.gives; within = λ x i. g.within x (k.within x i) }

pub covers-trans : {A B C : List Row} → Covers A B → Covers B C → Covers A C
covers-trans ab bc = record { at = λ s m o h. widen ab (bc.at s m o h) }

pub dom-cov : {A : List Row} {r s : Row} → In r A → Dom r s → Cov A s
dom-cov {A} {r} {s} m d o h = record { by = r; is_row = m; gives = d.more o h; within = d.less }

-- a list that holds another covers it
pub covers-sub : {A B : List Row} → ((r : Row) → In r B → In r A) → Covers A B
covers-sub f = record { at = λ s m o h. record { by = s; is_row = f s m; gives = h; within = λ x i. i } }

pub covers-cons : {A B : List Row} {t : Row} → Cov A t → Covers A B → Covers A (t ∷ B)
covers-cons {A} {B} {t} c cs = record { at = go }
  where
    go : (s : Row) → In s (t ∷ B) → Cov A s
    go s (inl e) = subst (λ (x : Row). Cov A x) (sym e) c
    go s (inr m) = cs.at s m

pub gives_more : {A : List Row} {t : Row} {c : List ℕ} {o : ℕ} → Gives A c o → Gives (t ∷ A) c o
gives_more g = record { by = g.by; is_row = inr g.is_row; gives = g.gives; within = g.within }

-- ── the tests are sound
incl-step :
    (c w : ℕ) (cs ws : List ℕ) (o : Ordering)
    → compare c w ≡ o
    → (T (includes cs (w ∷ ws)) → Sub (w ∷ ws) cs)
    → (T (includes cs ws) → Sub ws cs)
    → T (elim o [ Ordering.lt ↦ includes cs (w ∷ ws) | Ordering.eq ↦ includes cs ws | Ordering.gt ↦ false ])
    → Sub (w ∷ ws) (c ∷ cs)
incl-step c w cs ws Ordering.lt e f g t x m = inr (f t x m)
incl-step c w cs ws Ordering.eq e f g t x (inl p) = inl (p ∙ sym (cmp-eq c w e))
incl-step c w cs ws Ordering.eq e f g t x (inr m) = inr (g t x m)
incl-step c w cs ws Ordering.gt e f g t x m = absurd t

pub incl-sound : (cs ws : List ℕ) → T (includes cs ws) → Sub ws cs
unfolding includes
incl-sound [] [] t x m = m
incl-sound [] (w ∷ ws) t x m = absurd t
incl-sound (c ∷ cs) [] t x m = absurd m
incl-sound (c ∷ cs) (w ∷ ws) t x m =
    incl-step c w cs ws (compare c w) refl (incl-sound cs (w ∷ ws)) (incl-sound cs ws) t x m

pub subs-sound : (r s : Row) → T (subsumes r s) → Dom r s
unfolding subsumes
subs-sound r s t =
    let u = and_right (lengths_fit r s) (includes s.conditions r.conditions && includes r.outputs s.outputs) t in
    record {
      less = incl-sound s.conditions r.conditions
          (and_left (includes s.conditions r.conditions) (includes r.outputs s.outputs) u);
      more = incl-sound r.outputs s.outputs
          (and_right (includes s.conditions r.conditions) (includes r.outputs s.outputs) u);
    }

same_step : (a b : ℕ) (as' bs : List ℕ) (c : Bool) → (T c → a ≡ b) → (T (same as' bs) → as' ≡ bs)
    → T (elim c [ true ↦ same as' bs | false ↦ false ]) → (◌≡◌ {A = List ℕ} (a ∷ as') (b ∷ bs))
same_step a b as' bs true f g t = let p = f tt in let q = g t in cc
same_step a b as' bs false f g t = absurd t

pub same-sound : (a b : List ℕ) → T (same a b) → a ≡ b
unfolding same
same-sound [] [] t = refl
same-sound [] (b ∷ bs) t = absurd t
same-sound (a ∷ as') [] t = absurd t
same-sound (a ∷ as') (b ∷ bs) t = same_step a b as' bs (eqb a b) (eqb→eq a b) (same-sound as' bs) t

pub join-sound : (m : ℕ) (r p : Row) → T (joins m r p) → r.conditions ≡ p.conditions
unfolding joins
join-sound m r p t =
    same-sound r.conditions p.conditions
    (and_left (same r.conditions p.conditions) (leb (length (grown r p).outputs) m)
    (and_right (may_join m r p) (same r.conditions p.conditions && leb (length (grown r p).outputs) m) t))

-- ── the union has the members of both
into-has-step :
    (a b : ℕ) (as' bs : List ℕ) (rest : List ℕ → List ℕ) (o : Ordering) → compare a b ≡ o
    → ((k : List ℕ) → Sub as' (rest k)) → ((k : List ℕ) → Sub k (rest k))
    → Sub (a ∷ as') (into a rest bs) → Sub bs (into a rest bs)
    → (x : ℕ) → In x (a ∷ as') ⊎ In x (b ∷ bs)
    → In x (elim o [ Ordering.lt ↦ a ∷ rest (b ∷ bs) | Ordering.eq ↦ a ∷ rest bs | Ordering.gt ↦ b ∷ into a rest bs ])
into-has-step a b as' bs rest Ordering.lt e f g h k x (inl (inl q)) = inl q
into-has-step a b as' bs rest Ordering.lt e f g h k x (inl (inr m)) = inr (f (b ∷ bs) x m)
into-has-step a b as' bs rest Ordering.lt e f g h k x (inr m) = inr (g (b ∷ bs) x m)
into-has-step a b as' bs rest Ordering.eq e f g h k x (inl (inl q)) = inl q
into-has-step a b as' bs rest Ordering.eq e f g h k x (inl (inr m)) = inr (f bs x m)
into-has-step a b as' bs rest Ordering.eq e f g h k x (inr (inl q)) = inl (q ∙ sym (cmp-eq a b e))
into-has-step a b as' bs rest Ordering.eq e f g h k x (inr (inr m)) = inr (g bs x m)
into-has-step a b as' bs rest Ordering.gt e f g h k x (inl m) = inr (h x m)
into-has-step a b as' bs rest Ordering.gt e f g h k x (inr (inl q)) = inl q
into-has-step a b as' bs rest Ordering.gt e f g h k x (inr (inr m)) = inr (k x m)

into-has :
    (a : ℕ) (as' : List ℕ) (rest : List ℕ → List ℕ)
    → ((k : List ℕ) → Sub as' (rest k)) → ((k : List ℕ) → Sub k (rest k))
    → (bs : List ℕ) (x : ℕ) → In x (a ∷ as') ⊎ In x bs → In x (into a rest bs)
unfolding into
into-has a as' rest f g [] x (inl (inl q)) = inl q
into-has a as' rest f g [] x (inl (inr m)) = inr (f [] x m)
into-has a as' rest f g [] x (inr m) = absurd m
into-has a as' rest f g (b ∷ bs) x m =
    into-has-step a b as' bs rest (compare a b) refl f g
    (λ y i. into-has a as' rest f g bs y (inl i)) (λ y i. into-has a as' rest f g bs y (inr i)) x m

pub union-has : (a b : List ℕ) (x : ℕ) → In x a ⊎ In x b → In x (union a b)
unfolding union
union-has [] b x (inl m) = absurd m
union-has [] b x (inr m) = m
union-has (a ∷ as') b x m =
    into-has a as' (λ k. union as' k) (λ k y i. union-has as' k y (inl i)) (λ k y i. union-has as' k y (inr i)) b x m

-- ── the first pass
abbrev pub rows_m : List Examined → List Row
rows_m ks = map (λ k. k.entry.row) ks

abbrev pub GoneOk : Row → List Examined → Type 0
GoneOk p [] = Unit {0}
GoneOk p (k ∷ ks) = (T k.replaced → Dom p k.entry.row) × GoneOk p ks

pub record Grown (p : Row) (es : List Entry) (ks : List Examined) (q : Row) : Type 0 where
  pub conditions : q.conditions ≡ p.conditions
  pub outputs : Sub p.outputs q.outputs
  pub from : Cov (p ∷ rows_e es) q
  pub rows : rows_m ks ≡ rows_e es
  pub gone : GoneOk q ks

abbrev pub PassOk : Row → List Entry → Pass → Type 0
PassOk p es (found n) = Cov (rows_e es) p
PassOk p es (passed ks q) = Grown p es ks q

-- what holds of the grown proposal holds of the proposal
grow-cov : {A : List Row} (e p : Row) → Cov A (grown e p) → Cov A p
unfolding grown
grow-cov e p c o m = c o (union-has e.outputs p.outputs o (inr m))

grow-from : (A : List Row) (e p : Row) → e.conditions ≡ p.conditions → Cov (p ∷ e ∷ A) (grown e p)
unfolding grown
grow-from A e p q o m = go (union-out e.outputs p.outputs o m)
  where
    go : In o e.outputs ⊎ In o p.outputs → Gives (p ∷ e ∷ A) p.conditions o
    go (inl i) = record { by = e; is_row = inr (inl refl); gives = i; within = λ x h. subst (λ (c : List ℕ). In x c) q h }
    go (inr i) = record { by = p; is_row = inl refl; gives = i; within = λ x h. h }

swap-in : {A : List Row} {p : Row} (e : Row) → Covers (p ∷ e ∷ A) (p ∷ A)
swap-in {A} {p} e = covers-sub go
  where
    go : (r : Row) → In r (p ∷ A) → In r (p ∷ e ∷ A)
    go r (inl q) = inl q
    go r (inr m) = inr (inr m)

mark-joined : (e : Entry) (p : Row) (es : List Entry) (x : Pass) → e.row.conditions ≡ p.conditions → PassOk (grown e.row p) es x
    → PassOk p (e ∷ es) (noted true e x)
unfolding noted grown
mark-joined e p es (found n) q c = λ o m. gives_more (grow-cov e.row p c o m)
mark-joined e p es (passed ks g) q h = record {
  conditions = h.conditions;
  outputs = λ x m. h.outputs x (union-has e.row.outputs p.outputs x (inr m));
  from = λ o m. widen (covers-cons (grow-from (rows_e es) e.row p q) (covers-sub (λ r i. inr (inr i)))) (h.from o m);
  rows = ap (λ (l : List Row). e.row ∷ l) h.rows;
  gone = (
    λ t. record {
      less = λ x m. subst (λ (c : List ℕ). In x c) (h.conditions ∙ sym q) m;
      more = λ x m. h.outputs x (union-has e.row.outputs p.outputs x (inl m));
    },
    h.gone,
  );
}

mark-passed : (e : Entry) (p : Row) (es : List Entry) (x : Pass) → PassOk p es x → PassOk p (e ∷ es) (noted false e x)
unfolding noted
mark-passed e p es (found n) c = λ o m. gives_more (c o m)
mark-passed e p es (passed ks g) h = record {
  conditions = h.conditions;
  outputs = h.outputs;
  from = λ o m. widen (swap-in e.row) (h.from o m);
  rows = ap (λ (l : List Row). e.row ∷ l) h.rows;
  gone = (λ t. absurd t, h.gone);
}

pass_step :
    (m : ℕ) (p : Row) (e : Entry) (es : List Entry) (b c : Bool)
    → (T b → Dom e.row p) → (T c → e.row.conditions ≡ p.conditions)
    → PassOk (grown e.row p) es (first_pass m (grown e.row p) es) → PassOk p es (first_pass m p es)
    → PassOk p (e ∷ es) (elim b [
      | true ↦ found 0
      | false ↦ elim c [ true ↦ noted true e (first_pass m (grown e.row p) es) | false ↦ noted false e (first_pass m p es) ]
    ])
pass_step m p e es true c f g h k = dom-cov (inl refl) (f tt)
pass_step m p e es false true f g h k = mark-joined e p es (first_pass m (grown e.row p) es) (g tt) h
pass_step m p e es false false f g h k = mark-passed e p es (first_pass m p es) k

pub pass-ok : (m : ℕ) (p : Row) (es : List Entry) → PassOk p es (first_pass m p es)
unfolding first_pass
pass-ok m p [] = record {
  conditions = refl;
  outputs = λ x i. i;
  from = λ o i. record { by = p; is_row = inl refl; gives = i; within = λ x h. h };
  rows = refl;
  gone = tt;
}
pass-ok m p (e ∷ es) =
    pass_step m p e es (subsumes e.row p) (joins m e.row p) (subs-sound e.row p) (join-sound m e.row p)
    (pass-ok m (grown e.row p) es) (pass-ok m p es)
