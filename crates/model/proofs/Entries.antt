-- Entries: the victim among them, the Founded ones counted, their hits halved, one more hit, and rows that are all over n atoms.
-- Assumes nothing.
use mathlib.Core.Path.{◌≡◌, refl, sym, ap, ap₂, ◌∙◌, subst}
use mathlib.Core.Bool.{Bool, true, false, ◌&&◌, not}
use mathlib.Core.List.{List, [], ◌∷◌, ◌++◌, map, append_assoc, append-nil}
use mathlib.Core.Option.{Option, none, some, none-ne-some, some-injective}
use Prim.Native.Nat.{ℕ, zero, suc, ◌+◌, ◌-◌, ◌≤◌, ◌<◌}
use native.Mathlib.Omega.{arith}
use lib.Dec.{T, leb, leb→le, le→leb}
use lib.ListN.{length, get_or, length-append}
use borrow.Author.Tests.{le-leb, lt-leb}
use Rattle.lists.specs.Lists.{all, adjust}
use Rattle.lists.proofs.Bools.{bool-ext}
use Rattle.model.specs.declared.LearningLimits.{LearningLimits}
use Rattle.model.specs.declared.Source.{Source}
use Rattle.model.specs.declared.Source.TheVariants.{Founded, Tip}
use Rattle.model.specs.Records.{Entry, is_row, is_tip, source_in, founded_rows, with_hits, hit_entry}
use Rattle.model.specs.Retention.{before, protects, evictable, lesser, least_from, victim_among, victim, halved}
use Rattle.model.specs.Priority.{FloorProtects}
use Rattle.model.proofs.Cover.{and_left, and_right}
use Rattle.model.proofs.Slots.{AllValid, valid-of}

-- ---- the victim is one of the entries that may be evicted
abbrev Among : Bool → List Entry → ℕ → Option (ℕ × Entry) → Type 0
Among guarded all i none = Unit {0}
Among guarded all i (some k) = (k.0 < i) × (get_or (map (evictable guarded) all) k.0 false ≡ true)

-- the entry after `done` is at position length done
at_next : (f : Entry → Bool) (done : List Entry) (e : Entry) (es : List Entry)
    → get_or (map f (done ++ (e ∷ es))) (length done) false ≡ f e
at_next f [] e es = refl
at_next f (d ∷ done) e es = at_next f done e es

lesser-among : (guarded : Bool) (done : List Entry) (e : Entry) (es : List Entry) (k : Option (ℕ × Entry))
    → evictable guarded e ≡ true → Among guarded (done ++ (e ∷ es)) (length done) k
    → Among guarded (done ++ (e ∷ es)) (suc (length done)) (lesser k (length done) e)
unfolding lesser
lesser-among guarded done e es none t h = (omega arith, at_next (evictable guarded) done e es ∙ t)
lesser-among guarded done e es (some k) t h = go (before e k.1)
  where
    go : (b : Bool) → Among guarded (done ++ (e ∷ es)) (suc (length done))
        (elim b as (λ c. Option (ℕ × Entry)) [ true ↦ some (length done, e) | false ↦ some k ])
    go true = (omega arith, at_next (evictable guarded) done e es ∙ t)
    go false = (let x = h.0 in omega arith, h.1)

among-more : (guarded : Bool) (all : List Entry) (i : ℕ) (k : Option (ℕ × Entry)) → Among guarded all i k → Among guarded all (suc i) k
among-more guarded all i none h = tt
among-more guarded all i (some k) h = (let x = h.0 in omega arith, h.1)

least-among : (guarded : Bool) (done es : List Entry) (k : Option (ℕ × Entry)) → Among guarded (done ++ es) (length done) k
    → Among guarded (done ++ es) (length (done ++ es)) (least_from guarded k (length done) es)
unfolding least_from
least-among guarded done [] k h = subst (λ (xs : List Entry). Among guarded xs (length xs) k) (sym (append-nil done))
    (subst (λ (xs : List Entry). Among guarded xs (length done) k) (append-nil done) h)
least-among guarded done (e ∷ es) k h =
    subst (λ (xs : List Entry). Among guarded xs (length xs) (least_from guarded next (suc (length done)) es)) moved
    (subst (λ (n : ℕ). Among guarded ((done ++ (e ∷ [])) ++ es) (length ((done ++ (e ∷ [])) ++ es)) (least_from guarded next n es)) long
    (least-among guarded (done ++ (e ∷ [])) es next
    (subst (λ (n : ℕ). Among guarded ((done ++ (e ∷ [])) ++ es) n next) (sym long)
    (subst (λ (xs : List Entry). Among guarded xs (suc (length done)) next) (sym moved) (go (evictable guarded e) refl)))))
  where
    next : Option (ℕ × Entry)
    next = elim (evictable guarded e) [ true ↦ lesser k (length done) e | false ↦ k ]

    moved : (done ++ (e ∷ [])) ++ es ≡ done ++ (e ∷ es)
    moved = append_assoc done (e ∷ []) es

    long : length (done ++ (e ∷ [])) ≡ suc (length done)
    long = let x = length-append done (e ∷ []) in omega arith

    go : (b : Bool) → evictable guarded e ≡ b
        → Among guarded (done ++ (e ∷ es)) (suc (length done))
        (elim b as (λ c. Option (ℕ × Entry)) [ true ↦ lesser k (length done) e | false ↦ k ])
    go true t = lesser-among guarded done e es k t h
    go false t = among-more guarded (done ++ (e ∷ es)) (length done) k h

-- its place, and that it may be evicted
pub victim-among : (guarded : Bool) (es : List Entry) (v : ℕ) → victim_among guarded es ≡ some v
    → (v < length es) × (get_or (map (evictable guarded) es) v false ≡ true)
unfolding victim_among
victim-among guarded es v q = go (least_from guarded none 0 es) (least-among guarded [] es none tt) q
  where
    go : (k : Option (ℕ × Entry)) → Among guarded es (length es) k
        → (elim k as (λ c. Option ℕ) [ none ↦ none | some x ↦ some x.0 ]) ≡ some v
        → (v < length es) × (get_or (map (evictable guarded) es) v false ≡ true)
    go none h e = absurd (none-ne-some v e)
    go (some k) h e =
        subst (λ (n : ℕ). (n < length es) × (get_or (map (evictable guarded) es) n false ≡ true)) (some-injective k.0 v e) h

pub victim-held : (l : LearningLimits) (es : List Entry) (v : ℕ) → victim l es ≡ some v → v < length es
unfolding victim
victim-held l es v e = (victim-among (protects l es) es v e).0

-- 02, Eight: while the floor guards the Founded rows the victim is a Tip
guarded-tip : (e : Entry) → evictable true e ≡ is_tip e.source
unfolding evictable
guarded-tip e = refl

guarded-tips : (es : List Entry) → map (evictable true) es ≡ map (λ e. is_tip e.source) es
guarded-tips [] = refl
guarded-tips (e ∷ es) = ap₂ (λ (b : Bool) (bs : List Bool). b ∷ bs) (guarded-tip e) (guarded-tips es)

pub floor-protects : FloorProtects
unfolding victim protects
floor-protects l es v h e =
    ap (λ (bs : List Bool). get_or bs v false) (sym (guarded-tips es))
    ∙ (victim-among true es v
    (ap (λ (b : Bool). victim_among b es) (sym (le-leb (founded_rows es) l.founded_floor h)) ∙ e)).1

-- ---- the Founded rows: no more than there are, and as many after a change that leaves the sources
pub founded-few : (es : List Entry) → founded_rows es ≤ length es
unfolding founded_rows
founded-few [] = omega arith
founded-few (e ∷ es) = go (is_tip e.source) (founded-few es)
  where
    go : (b : Bool) → founded_rows es ≤ length es
        → (elim b as (λ c. ℕ) [ true ↦ founded_rows es | false ↦ suc (founded_rows es) ]) ≤ suc (length es)
    go true h = omega arith
    go false h = omega arith

-- all of them: no Tip is there
pub founded-all : (es : List Entry) → all (λ e. not (is_tip e.source)) es ≡ leb (length es) (founded_rows es)
unfolding all founded_rows
founded-all [] = refl
founded-all (e ∷ es) = go e.source (founded-all es) (founded-few es)
  where
    go : (s : Source) → all (λ x. not (is_tip x.source)) es ≡ leb (length es) (founded_rows es) → founded_rows es ≤ length es
        → (not (is_tip s) && all (λ x. not (is_tip x.source)) es)
        ≡ leb (suc (length es)) (elim (is_tip s) as (λ c. ℕ) [ true ↦ founded_rows es | false ↦ suc (founded_rows es) ])
    go Founded h few =
        h ∙ bool-ext (leb (length es) (founded_rows es)) (leb (suc (length es)) (suc (founded_rows es)))
        (λ t. le→leb (suc (length es)) (suc (founded_rows es)) (let l = leb→le (length es) (founded_rows es) t in omega arith))
        (λ t. le→leb (length es) (founded_rows es) (let l = leb→le (suc (length es)) (suc (founded_rows es)) t in omega arith))
    go Tip h few = sym (lt-leb (suc (length es)) (founded_rows es) (omega arith))

-- one for a Founded row
abbrev pub founded_one : Source → ℕ
founded_one Founded = 1
founded_one Tip = 0

pub founded-word : (w : ℕ) → w ≤ 1 → founded_one (source_in w) ≡ 1 - w
founded-word zero h = refl
founded-word (suc zero) h = refl
founded-word (suc (suc w)) h = absurd (omega arith)

pub founded-cons : (e : Entry) (es : List Entry) → founded_rows (e ∷ es) ≡ founded_one e.source + founded_rows es
unfolding founded_rows
founded-cons e es = go e.source
  where
    go : (s : Source) → (elim (is_tip s) as (λ c. ℕ) [ true ↦ founded_rows es | false ↦ suc (founded_rows es) ])
        ≡ founded_one s + founded_rows es
    go Founded = omega arith
    go Tip = omega arith

module _ (f : Entry → Entry) (source : (e : Entry) → (f e).source ≡ e.source) where
  founded-same : (e : Entry) (n k : ℕ) → n ≡ k
      → ◌≡◌ {A = ℕ} (elim (is_tip (f e).source) [ true ↦ n | false ↦ suc n ]) (elim (is_tip e.source) [ true ↦ k | false ↦ suc k ])
  founded-same e n k h = ap₂ (λ (s : Source) (m : ℕ). elim (is_tip s) as (λ c. ℕ) [ true ↦ m | false ↦ suc m ]) (source e) h

  pub founded-map : (es : List Entry) → founded_rows (map f es) ≡ founded_rows es
  unfolding founded_rows
  founded-map [] = refl
  founded-map (e ∷ es) = founded-same e (founded_rows (map f es)) (founded_rows es) (founded-map es)

  pub founded-adjust : (p : ℕ) (es : List Entry) → founded_rows (adjust f p es) ≡ founded_rows es
  unfolding founded_rows adjust
  founded-adjust p [] = refl
  founded-adjust zero (e ∷ es) = founded-same e (founded_rows es) (founded_rows es) refl
  founded-adjust (suc p) (e ∷ es) = ap (λ (m : ℕ). elim (is_tip e.source) as (λ c. ℕ) [ true ↦ m | false ↦ suc m ]) (founded-adjust p es)

pub founded-halved : (es : List Entry) → founded_rows (halved es) ≡ founded_rows es
unfolding halved with_hits
founded-halved es = founded-map _ (λ e. refl) es

pub founded-hit : (p : ℕ) (es : List Entry) → founded_rows (adjust hit_entry p es) ≡ founded_rows es
unfolding hit_entry
founded-hit p es = founded-adjust _ (λ e. refl) p es

pub halved-length : (es : List Entry) → length (halved es) ≡ length es
unfolding halved
halved-length [] = refl
halved-length (e ∷ es) = ap suc (halved-length es)

pub hit-row : (e : Entry) → (hit_entry e).row ≡ e.row
unfolding hit_entry
hit-row e = refl

pub all_valid : (n : ℕ) (es : List Entry) → T (all (λ e. is_row n e.row) es) → AllValid es
unfolding all
all_valid n [] t = tt
all_valid n (e ∷ es) t = (
  valid-of n e.row (and_left (is_row n e.row) (all (λ e. is_row n e.row) es) t),
  all_valid n es (and_right (is_row n e.row) (all (λ e. is_row n e.row) es) t),
)
