-- What a rebuilding writes: the steps of a filling are stores from one place on. Assumes nothing.
use mathlib.Core.Path.{◌≡◌, refl, sym, ap, ◌∙◌}
use mathlib.Core.Logic.{◌⊎◌, inl, inr}
use mathlib.Core.List.{List, [], ◌∷◌, map}
use Prim.Native.Nat.{ℕ, suc, ◌+◌, ◌-◌, ◌*◌, ◌/◌, ◌^◌, ◌≤◌, ◌<◌}
use native.Mathlib.Numerals.{add-one}
use native.Mathlib.Omega.{arith}
use lib.ListN.{length, set}
use lib.Pow.{pow_mono}
use lib.Seq.{sets}
use borrow.Author.Tests.{eq-eqb, ne_eqb, eqb-true}
use Rattle.std.specs.Option.{option_eq}
use mathlib.Core.Bool.{true, false, false≢true}
use lib.Dec.{eqb}
use Rattle.lists.specs.Lists.{distinct}
use Rattle.lists.specs.Counts.{Each}
use Rattle.lists.proofs.Counts.{same_or, each-head, each_tail, each_map}
use Rattle.lists.proofs.Sorts.{distinct-one, distinct-same, distinct-other}
use Rattle.words.specs.Bit.{max_word}
use Rattle.words.specs.Literal.{atoms_wide, codes_wide, atom}
use Rattle.std.specs.Prelude.{Result, Err, Option, Some, None}
use Rattle.meter.specs.declared.Meter.{Meter}
use Rattle.meter.specs.declared.Stopped as meter
use Rattle.meter.specs.Tick.{Tick, Ticked, Stopped}
use Rattle.meter.specs.Meter.{tick_of}
use Rattle.model.specs.Records.{max_rows}
use Rattle.model.specs.Postings.{posting}
use Rattle.postings.specs.Steps.{Walk, onward, steps, walk}
use Rattle.postings.specs.Filling.{Filled, FilledBy, put, filled_to, later, side_postings, left_postings}
use Rattle.postings.proofs.Walking.{walk_step}

-- ---- neighbours
pub later-none : (a : ℕ) → later a [] ≡ []
unfolding later
later-none a = refl

pub later_same : (a x : ℕ) (xs : List ℕ) → x ≡ a → later a (x ∷ xs) ≡ later a xs
unfolding later
later_same a x xs e = rw (eq-eqb x a e, later)

pub later-other : (a x : ℕ) (xs : List ℕ) → (x ≡ a → ⊥) → later a (x ∷ xs) ≡ x ∷ later x xs
unfolding later
later-other a x xs n = rw (ne_eqb x a n, later)

pub distinct-later : (x : ℕ) (xs : List ℕ) → distinct (x ∷ xs) ≡ x ∷ later x xs
distinct-later x [] = distinct-one x ∙ ap (λ (r : List ℕ). x ∷ r) (sym (later-none x))
distinct-later x (y ∷ ys) = go (same_or x y) (distinct-later y ys)
  where
    go : (x ≡ y) ⊎ (x ≡ y → ⊥) → distinct (y ∷ ys) ≡ y ∷ later y ys → distinct (x ∷ y ∷ ys) ≡ x ∷ later x (y ∷ ys)
    go (inl e) ih =
        distinct-same x y ys e ∙ ih ∙ rw e (ap (λ (r : List ℕ). y ∷ r) (sym (later_same y y ys refl)))
    go (inr n) ih =
        distinct-other x y ys n ∙ ap (λ (r : List ℕ). x ∷ r) (ih ∙ sym (later-other x y ys (λ e. n (sym e))))

-- where a is none of them
pub later-all : (a : ℕ) (xs : List ℕ) → Each (λ v. v < a) xs → later a xs ≡ distinct xs
unfolding distinct
later-all a [] h = later-none a
later-all a (x ∷ xs) h =
    later-other a x xs (λ e. omega (arith, each-head (λ v. v < a) x xs h)) ∙ sym (distinct-later x xs)

pub later-short : (a : ℕ) (xs : List ℕ) → length (later a xs) ≤ length xs
later-short a [] = omega (arith, ap length (later-none a))
later-short a (x ∷ xs) = go (same_or x a) (later-short a xs) (later-short x xs)
  where
    go : (x ≡ a) ⊎ (x ≡ a → ⊥) → length (later a xs) ≤ length xs → length (later x xs) ≤ length xs
        → length (later a (x ∷ xs)) ≤ suc (length xs)
    go (inl e) h k = omega (arith, ap length (later_same a x xs e))
    go (inr n) h k = omega (arith, ap length (later-other a x xs n))

-- ---- the postings left of a side
-- the atom met last; before the first, what no atom is
abbrev pub last_met : Option ℕ → ℕ
last_met None = max_word
last_met (Some a) = a

pub met-same : (o : Option ℕ) (a : ℕ) → option_eq eqb o (Some a) ≡ true → a ≡ last_met o
met-same None a e = let z : ◌≡◌ {A = ℕ} 0 1 = cc in absurd (omega arith)
met-same (Some b) a e = sym (eqb-true b a e)

pub met-other : (o : Option ℕ) (a : ℕ) → a < max_word → option_eq eqb o (Some a) ≡ false → a ≡ last_met o → ⊥
met-other None a l e q = omega arith
met-other (Some b) a l e q = false≢true (sym e ∙ eq-eqb b a (sym q))

module _ (p : ℕ) where
  -- `none` is past the atoms that have codes of w bits
  pub left-start : (w none : ℕ) (cs : List ℕ) → Each (λ c. c < codes_wide w) cs → atoms_wide w ≤ none
      → left_postings p none cs ≡ side_postings p cs
  unfolding left_postings side_postings atom
  left-start w none cs h l =
      let e : codes_wide w ≡ 2 * atoms_wide w = refl in
      ap (map (posting p)) (later-all none (map atom cs) (each_map (λ a. a < none) atom cs (λ c k. omega (arith, h c k, e, l))))

  pub left-none : (a : ℕ) → left_postings p a [] ≡ []
  unfolding left_postings
  left-none a = ap (map (posting p)) (later-none a)

  pub left-skip : (a c : ℕ) (cs : List ℕ) → c / 2 ≡ a → left_postings p a (c ∷ cs) ≡ left_postings p a cs
  unfolding left_postings atom
  left-skip a c cs e = ap (map (posting p)) (later_same a (c / 2) (map atom cs) e)

  left_post : (a c : ℕ) (cs : List ℕ) → (c / 2 ≡ a → ⊥) →
      left_postings p a (c ∷ cs) ≡ (c / 2 * max_rows + p) ∷ left_postings p (c / 2) cs
  unfolding left_postings atom posting
  left_post a c cs n = ap (map (posting p)) (later-other a (c / 2) (map atom cs) n)

  -- a posting, by its tick
  pub left_step : (a c : ℕ) (cs : List ℕ) (s : Filled) (m : Meter) {r : Tick} → (c / 2 ≡ a → ⊥) → r ≡ tick_of m →
      walk put (left_postings p a (c ∷ cs)) s m ≡ onward r s (λ t. walk put (left_postings p (c / 2) cs) (put (c / 2 * max_rows + p) t))
  left_step a c cs s m n e =
      ap (λ (l : List ℕ). walk put l s m) (left_post a c cs n) ∙ walk_step put (c / 2 * max_rows + p) (left_postings p (c / 2) cs) s m e

-- the posting of a code of w bits fits a word, as long as there are few enough bits
pub posting-fits : (w : ℕ) → w ≤ 53 → (c p : ℕ) → c < codes_wide w → p < max_rows → c / 2 * max_rows + p < 2 ^ 64
posting-fits w l c p h k =
    let e : codes_wide w ≡ 2 * atoms_wide w = refl in
    let m : atoms_wide w ≤ 2 ^ 52 = pow_mono {i = w - 1} {j = 52} (omega arith) in
    let a : c / 2 < 2 ^ 52 = omega (arith, h, e, m) in
    omega (arith, a, k)

-- codes of w bits, with room for a posting of each from a place on
pub record Room (w : ℕ) (cs : List ℕ) (at n : ℕ) : Type 0 where
  pub low : Each (λ c. c < codes_wide w) cs
  pub room : at + length cs ≤ n

pub room-head : {w c : ℕ} {cs : List ℕ} {at n : ℕ} → Room w (c ∷ cs) at n → (c < codes_wide w) × (at < n)
room-head {w} {c} {cs} r = (each-head (λ k. k < codes_wide w) c cs r.low, omega (arith, r.room))

pub room-skip : {w c : ℕ} {cs : List ℕ} {at n : ℕ} → Room w (c ∷ cs) at n → Room w cs at n
room-skip {w} {c} {cs} r = record { low = each_tail (λ k. k < codes_wide w) c cs r.low; room = omega (arith, r.room) }

pub room-post : {w c : ℕ} {cs : List ℕ} {at n : ℕ} → Room w (c ∷ cs) at n → Room w cs (at + 1) n
room-post {w} {c} {cs} r = record { low = each_tail (λ k. k < codes_wide w) c cs r.low; room = omega (arith, r.room) }

-- ---- the stores
pub put_all : (xs : List ℕ) (n : ℕ) (ws : List ℕ) → steps put xs (filled_to n ws) ≡ filled_to (n + length xs) (sets ws n xs)
unfolding steps
put_all [] n ws = let e : n + 0 ≡ n = omega arith in rw e refl
put_all (x ∷ xs) n ws =
    let e : n + 1 + length xs ≡ n + suc (length xs) = omega arith in
    put_all xs (n + 1) (set ws n x)
    ∙ ap (λ (k : ℕ). filled_to (n + 1 + length xs) (sets (set ws n x) k xs)) (add-one n)
    ∙ ap (λ (k : ℕ). filled_to k (sets (set ws n x) (suc n) xs)) e

-- however a filling ends, it wrote no more than it was to
pub fill-next : (xs : List ℕ) (n : ℕ) (ws : List ℕ) (m : Meter) → (walk put xs (filled_to n ws) m).state.next ≤ n + length xs
unfolding walk
fill-next [] n ws m = omega arith
fill-next (x ∷ xs) n ws m = go (tick_of m) (fill-next xs (n + 1) (set ws n x))
  where
    go : (r : Tick) → ((k : Meter) → (walk put xs (filled_to (n + 1) (set ws n x)) k).state.next ≤ n + 1 + length xs)
        → (onward r (filled_to n ws) (λ t. walk put xs (put x t))).state.next ≤ n + suc (length xs)
    go (Ticked k) h = omega (arith, h k)
    go (Stopped k) h = omega arith

-- ---- how a filling ended
pub filled-ended : {r : Result ℕ meter.Stopped} {e : meter.Stopped} (w : Walk Filled) (m : Meter) (ws : List ℕ)
    → r ≡ Err e → Stopped m ≡ w.end → FilledBy r m ws w
filled-ended w m ws h q = rw h q
