-- The region of a row's conditions has exactly those literals; so forcing alike on all regions is mutual cover. Assumes nothing.
use mathlib.Core.Path.{◌≡◌, sym, ap, ◌∙◌, subst}
use mathlib.Core.Logic.{◌⊎◌, inl, inr, ◌↔◌, ◌≢◌}
use mathlib.Core.Bool.{Bool, true, false, not, ◌&&◌, ◌||◌, false≢true}
use mathlib.Core.List.{List, [], ◌∷◌, map}
use Prim.Native.Nat.{ℕ, zero, suc, ◌*◌, ◌≤◌, ◌<◌}
use native.Mathlib.Omega.{arith}
use lib.ListN.{replicate, length-replicate}
use lib.Dec.{T, eqb, ltb, eqb→eq, ltb→lt, lit<}
use borrow.Author.Tests.{eq-eqb}
use Rattle.lists.specs.Lists.{all, below, ascending}
use Rattle.lists.proofs.Bools.{false_of, T_true, T_of, or_l, or_r}
use Rattle.words.specs.Literal.{atom, is_present, opposite}
use Rattle.words.specs.Region.{atoms_ok, has, Region, holds, contradicts, mark_literal, words_for, is_region}
use Rattle.words.proofs.Literals.{atom-opposite, present-opposite}
use Rattle.words.proofs.Regions.{Words, Set, Sound, region-test, has-zero}
use Rattle.words.proofs.Deciding.{sound-mark, holds-mark as holds-marked}
use Rattle.model.specs.Records.{Row, is_row_over}
use Rattle.model.specs.Priority.{In, Forces, ForceAlike, Gives, Covers}
use Rattle.model.proofs.Cover.{and_left, and_right, or_split, covers-forces}
use Rattle.model.proofs.Packing.{Asc}
use Rattle.model.proofs.Slots.{ascending-asc}
use Rattle.model.proofs.Priority.Retaining.{Alike}
use Rattle.model.proofs.Priority.Steps.{Over}

-- ---- the empty region
blank : ℕ → Region
blank n = record { held = replicate (words_for n) 0; cut = replicate (words_for n) 0 }

zero-words : (k : ℕ) → Words (replicate k 0)
zero-words zero i = lit< tt
zero-words (suc k) zero = lit< tt
zero-words (suc k) (suc i) = zero-words k i

zero-set : (n : ℕ) → Set n (replicate (words_for n) 0)
zero-set n = record {
  long = length-replicate (words_for n) 0;
  words = zero-words (words_for n);
  inside = λ a e. absurd (false≢true (sym (has-zero (words_for n) a) ∙ e));
}

blank-sound : (n : ℕ) → Sound n (blank n)
unfolding blank
blank-sound n = record { held = zero-set n; cut = zero-set n; apart = λ a e f. false≢true (sym (has-zero (words_for n) a) ∙ e) }

blank-holds : (n c : ℕ) → T (holds (blank n) c) → ⊥
unfolding blank holds
blank-holds n c t = go (is_present c) t
  where
    go : (b : Bool) → T (elim b [ true ↦ has (replicate (words_for n) 0) (atom c) | false ↦ has (replicate (words_for n) 0) (atom c) ]) → ⊥
    go true u = false≢true (sym (has-zero (words_for n) (atom c)) ∙ T_true _ u)
    go false u = false≢true (sym (has-zero (words_for n) (atom c)) ∙ T_true _ u)

-- ---- a literal marked
pub half_lt : (n c : ℕ) → c < 2 * n → atom c < n
unfolding atom
half_lt n c h = omega arith

pub opposite-present : (c : ℕ) → is_present c ≡ true → (is_present (opposite c) ≡ false) × (atom (opposite c) ≡ atom c)
opposite-present c p = (present-opposite c ∙ ap not p, atom-opposite c)

pub opposite-absent : (c : ℕ) → is_present c ≡ false → (is_present (opposite c) ≡ true) × (atom (opposite c) ≡ atom c)
opposite-absent c p = (present-opposite c ∙ ap not p, atom-opposite c)

pub mark-sound : (n : ℕ) (r : Region) (c : ℕ) → Sound n r → c < 2 * n → (T (holds r (opposite c)) → ⊥) → Sound n (mark_literal r c)
unfolding contradicts
mark-sound n r c s h free = sound-mark n r c s (half_lt n c h) (false_of (contradicts r c) (λ e. free (T_of e)))

pub holds-mark : (n : ℕ) (r : Region) (c d : ℕ) → Sound n r → c < 2 * n → holds (mark_literal r c) d ≡ (holds r d || eqb d c)
holds-mark n r c d s h = holds-marked n r c d s (half_lt n c h)

-- ---- the region of a list of literals
pub region_of : ℕ → List ℕ → Region
region_of n [] = blank n
region_of n (c ∷ cs) = mark_literal (region_of n cs) c

-- codes below 2 n, of different atoms
abbrev pub Clean : ℕ → List ℕ → Type 0
Clean n [] = Unit {0}
Clean n (c ∷ cs) = (c < 2 * n) × ((x : ℕ) → In x cs → atom x ≢ atom c) × Clean n cs

pub record Of (n : ℕ) (cs : List ℕ) (r : Region) : Type 0 where
  pub sound : Sound n r
  pub only : (x : ℕ) → T (holds r x) → In x cs
  pub each : (x : ℕ) → In x cs → T (holds r x)

pub region-of : (n : ℕ) (cs : List ℕ) → Clean n cs → Of n cs (region_of n cs)
unfolding region_of
region-of n [] h = record { sound = blank-sound n; only = λ x t. absurd (blank-holds n x t); each = λ x m. absurd m }
region-of n (c ∷ cs) h = next (region-of n cs h.2)
  where
    next : Of n cs (region_of n cs) → Of n (c ∷ cs) (mark_literal (region_of n cs) c)
    next g = record {
      sound = mark-sound n (region_of n cs) c g.sound h.0 (λ t. h.1 (opposite c) (g.only (opposite c) t) (atom-opposite c));
      only = λ x t. up x (or_split (holds (region_of n cs) x) (eqb x c) (subst T (holds-mark n (region_of n cs) c x g.sound h.0) t));
      each = λ x m. subst T (sym (holds-mark n (region_of n cs) c x g.sound h.0)) (down x m);
    }
      where
        up : (x : ℕ) → T (holds (region_of n cs) x) ⊎ T (eqb x c) → In x (c ∷ cs)
        up x (inl t) = inr (g.only x t)
        up x (inr t) = inl (eqb→eq x c t)

        down : (x : ℕ) → In x (c ∷ cs) → T (holds (region_of n cs) x || eqb x c)
        down x (inl e) = or_r (holds (region_of n cs) x) (eqb x c) (T_of (eq-eqb x c e))
        down x (inr m) = or_l (holds (region_of n cs) x) (eqb x c) (g.each x m)

-- ---- the conditions of a row over n atoms
atoms-above : (k : ℕ) (cs : List ℕ) → Asc k (map atom cs) → (x : ℕ) → In x cs → k ≤ atom x
atoms-above k [] a x m = absurd m
atoms-above k (c ∷ cs) a x (inl e) = subst (λ (y : ℕ). k ≤ atom y) (sym e) a.0
atoms-above k (c ∷ cs) a x (inr m) = let h = atoms-above (suc (atom c)) cs a.1 x m in let g = a.0 in omega arith

clean_of : (n k : ℕ) (cs : List ℕ) → T (below (2 * n) cs) → Asc k (map atom cs) → Clean n cs
unfolding below all
clean_of n k [] t a = tt
clean_of n k (c ∷ cs) t a = (
  ltb→lt c (2 * n) (and_left (ltb c (2 * n)) _ t),
  λ x m e. let h = atoms-above (suc (atom c)) cs a.1 x m in no_way (atom x) (atom c) e h,
  clean_of n (suc (atom c)) cs (and_right (ltb c (2 * n)) _ t) a.1,
)
  where
    no_way : (a b : ℕ) → a ≡ b → suc b ≤ a → ⊥
    no_way a b e h = omega arith

pub clean-in : (n : ℕ) (cs : List ℕ) → Clean n cs → (x : ℕ) → In x cs → atom x < n
clean-in n [] k x i = absurd i
clean-in n (c ∷ cs) k x (inl e) = subst (λ (y : ℕ). atom y < n) (sym e) (half_lt n c k.0)
clean-in n (c ∷ cs) k x (inr i) = clean-in n cs k.2 x i

pub row-clean : (n : ℕ) (r : Row) → T (is_row_over n r) → Clean n r.conditions
unfolding is_row_over
row-clean n r t =
    clean_of n 0 r.conditions (and_left (below (2 * n) r.conditions) (below (2 * n) r.outputs)
    (and_left (below (2 * n) r.conditions && below (2 * n) r.outputs) _ t))
    (ascending-asc (map atom r.conditions)
    (and_left (ascending (map atom r.conditions)) (ascending r.outputs)
    (and_right (below (2 * n) r.conditions && below (2 * n) r.outputs) _ t)))

-- ---- forcing and covering
forces-covers : (n : ℕ) (us vs : List Row) → T (atoms_ok n) → Over n vs
    → ((r : Region) → T (is_region n r) → (o : ℕ) → Forces vs r o → Forces us r o) → Covers us vs
forces-covers n us vs t c f = record { at = at }
  where
    at : (s : Row) → In s vs → (o : ℕ) → In o s.outputs → Gives us s.conditions o
    at s m o h =
        let d = region-of n s.conditions (row-clean n s (c s m)) in
        let g = f (region_of n s.conditions) (region-test n (region_of n s.conditions) t d.sound) o
        (record { by = s; is_row = m; gives = h; holding = d.each }) in
        record { by = g.by; is_row = g.is_row; gives = g.gives; within = λ x i. d.only x (g.holding x i) }

-- two lists of rows force the same on every region exactly if each covers the other
pub force-iff : (n : ℕ) (us vs : List Row) → T (atoms_ok n) → Over n us → Over n vs → ForceAlike n us vs ↔ Alike us vs
force-iff n us vs t cu cv = (
  λ f. record { there = forces-covers n us vs t cv (λ r g o. (f r g o).1); back = forces-covers n vs us t cu (λ r g o. (f r g o).0) },
  λ k r g o. (covers-forces vs us k.back r o, covers-forces us vs k.there r o),
)
