-- The steps of a search: one by one, their number, and the marks that they leave. Assumes nothing.
use mathlib.Core.Path.{◌≡◌, refl, sym, ap, ◌∙◌}
use mathlib.Core.List.{List, [], ◌∷◌, ◌++◌, map}
use mathlib.Core.Option.{Option, none, some}
use Prim.Native.Nat.{ℕ, suc, ◌+◌, ◌*◌, ◌/◌, ◌%◌, ◌≤◌, ◌<◌}
use native.Mathlib.Numerals.{add-one}
use native.Mathlib.Omega.{arith}
use lib.ListN.{length, get_or, drop, set, length-append, length-map, drop_of_length-le}
use lib.Seq.{drop-cons}
use Rattle.lists.specs.Lists.{concat, sum}
use Rattle.lists.specs.Counts.{Sorted, Each}
use Rattle.lists.specs.Marks.{lower_bound, mark_all}
use Rattle.lists.proofs.Counts.{each_at}
use Rattle.lists.proofs.Marks.{mark-append}
use Rattle.words.specs.Literal.{atoms_wide}
use Rattle.meter.specs.declared.Meter.{Meter}
use Rattle.meter.specs.Tick.{Tick}
use Rattle.meter.specs.Meter.{tick_of}
use Rattle.model.specs.Records.{max_rows}
use Rattle.model.specs.Postings.{posted_at, search_ticks}
use Rattle.postings.specs.Steps.{Walk, onward, steps, walk}
use Rattle.postings.specs.Searching.{marks, looks, look, looks_all}
use Rattle.postings.proofs.Walking.{walk_step, walk-append}
use Rattle.postings.proofs.Cuts.{cut, cut-long, cut-at}
use Rattle.postings.proofs.Finding.{posted-beyond, posted-from, posted-here, posted-past, posted-end}

-- ---- one atom: a turn of the loop over its postings
module _ (a : ℕ) (ps : List ℕ) where
  pub marks-beyond : (w : ℕ) → Each (λ x. x < atoms_wide w * max_rows) ps → atoms_wide w ≤ a → marks ps a ≡ []
  unfolding marks
  marks-beyond w h l = ap (map some) (posted-beyond a ps w h l)

  pub marks-from : Sorted ps → marks (drop (lower_bound (a * max_rows) ps) ps) a ≡ marks ps a
  unfolding marks
  marks-from s = ap (map some) (posted-from a ps s)

  pub marks-past : (i : ℕ) → Sorted ps → lower_bound (a * max_rows) ps ≤ i → i < length ps → (get_or ps i 0 / max_rows ≡ a → ⊥)
      → marks (drop i ps) a ≡ []
  unfolding marks
  marks-past i s h l n = ap (map some) (posted-past a ps i s h l n)

  pub marks-end : (i : ℕ) → length ps ≤ i → marks (drop i ps) a ≡ []
  unfolding marks
  marks-end i l = ap (map some) (posted-end a ps i l)

  -- a posting, by its tick
  pub marks-step : (i : ℕ) (ms : List ℕ) (m : Meter) {r : Tick} → i < length ps → get_or ps i 0 / max_rows ≡ a → r ≡ tick_of m →
      walk look (marks (drop i ps) a) ms m ≡ onward r ms (λ t. walk look (marks (drop (i + 1) ps) a) (set t (get_or ps i 0 % max_rows) 1))
  unfolding marks
  marks-step i ms m l e q =
      ap (λ (xs : List (Option ℕ)). walk look xs ms m) (ap (map some) (posted-here a ps i l e))
      ∙ walk_step look (some (get_or ps i 0 % max_rows)) (map some (posted_at (drop (i + 1) ps) a)) ms m q

  -- the atom itself, by its tick
  pub looks-step : (ms : List ℕ) (m : Meter) {r : Tick} → r ≡ tick_of m → walk look (looks ps a) ms m ≡ onward r ms (walk look (marks ps a))
  unfolding looks
  looks-step ms m q = walk_step look none (marks ps a) ms m q

-- ---- a turn of the loop over the postings from a place on, and its end
module _ (a from : ℕ) (ps : List ℕ) where
  pub marks-turn : (k : ℕ) (ms : List ℕ) (m : Meter) {r : Tick} → k < length (cut from ps) → get_or (cut from ps) k 0 / max_rows ≡ a
      → r ≡ tick_of m → walk look (marks (drop (from + k) ps) a) ms m
      ≡ onward r ms (λ t. walk look (marks (drop (from + (k + 1)) ps) a) (set t (get_or (cut from ps) k 0 % max_rows) 1))
  marks-turn k ms m {r} l e q =
      let x = cut-at from ps k 0 l in
      let i : from + k < length ps = omega (arith, cut-long from ps) in
      let n : from + k + 1 ≡ from + (k + 1) = omega arith in
      rw (x, ← n) (marks-step a ps (from + k) ms m i (rw x at e) q)

  pub marks-other : (k : ℕ) → Sorted ps → from ≡ lower_bound (a * max_rows) ps → k < length (cut from ps)
      → (get_or (cut from ps) k 0 / max_rows ≡ a → ⊥) → marks (drop (from + k) ps) a ≡ []
  marks-other k s f l n =
      let x = cut-at from ps k 0 l in
      marks-past a ps (from + k) s (omega arith) (omega (arith, cut-long from ps)) (rw x at n)

  pub marks-over : (k : ℕ) → k ≡ length (cut from ps) → marks (drop (from + k) ps) a ≡ []
  marks-over k e = marks-end a ps (from + k) (omega (arith, cut-long from ps))

  pub marks-placed : (n k : ℕ) → Each (λ x. x % max_rows < n) ps → k < length (cut from ps) → get_or (cut from ps) k 0 % max_rows < n
  marks-placed n k h l =
      rw (cut-at from ps k 0 l) (each_at (λ x. x % max_rows < n) ps (from + k) h (omega (arith, cut-long from ps)))

-- ---- all atoms
pub looks-none : (ps : List ℕ) → looks_all ps [] ≡ []
unfolding looks_all concat
looks-none ps = refl

looks-more : (ps : List ℕ) (a : ℕ) (atoms : List ℕ) → looks_all ps (a ∷ atoms) ≡ looks ps a ++ looks_all ps atoms
unfolding looks_all concat
looks-more ps a atoms = refl

-- a turn of a loop over the atoms
pub looks-drop : (ps atoms : List ℕ) (i : ℕ) → i < length atoms →
    looks_all ps (drop i atoms) ≡ looks ps (get_or atoms i 0) ++ looks_all ps (drop (i + 1) atoms)
looks-drop ps atoms i l =
    ap (looks_all ps) (drop-cons atoms i 0 l) ∙ looks-more ps (get_or atoms i 0) (drop (suc i) atoms)
    ∙ ap (λ (k : ℕ). looks ps (get_or atoms i 0) ++ looks_all ps (drop k atoms)) (sym (add-one i))

pub looks-turn : (ps atoms : List ℕ) (i : ℕ) (ms : List ℕ) (m : Meter) {r : Walk (List ℕ)} → i < length atoms
    → r ≡ walk look (looks ps (get_or atoms i 0)) ms m
    → walk look (looks_all ps (drop i atoms)) ms m ≡ onward r.end r.state (walk look (looks_all ps (drop (i + 1) atoms)))
looks-turn ps atoms i ms m l e =
    rw (looks-drop ps atoms i l) (walk-append look (looks ps (get_or atoms i 0)) (looks_all ps (drop (i + 1) atoms)) ms m e)

pub looks-over : (ps atoms : List ℕ) (i : ℕ) → i ≡ length atoms → looks_all ps (drop i atoms) ≡ []
looks-over ps atoms i e = rw (drop_of_length-le atoms {i = i} (omega arith)) (looks-none ps)

pub looks-ticks : (ps atoms : List ℕ) → length (looks_all ps atoms) ≡ search_ticks ps atoms
unfolding looks_all looks marks concat search_ticks sum
looks-ticks ps [] = refl
looks-ticks ps (a ∷ atoms) =
    omega (
      arith,
      length-append (looks ps a) (looks_all ps atoms),
      length-map {A = ℕ} {B = Option ℕ} (posted_at ps a) some,
      looks-ticks ps atoms,
    )

steps-append : {A S : Type 0} (step : A → S → S) (xs ys : List A) (s : S) → steps step (xs ++ ys) s ≡ steps step ys (steps step xs s)
unfolding steps
steps-append step [] ys s = refl
steps-append step (x ∷ xs) ys s = steps-append step xs ys (step x s)

look-marks : (ps ms : List ℕ) → steps look (map some ps) ms ≡ mark_all ms ps
unfolding steps mark_all
look-marks [] ms = refl
look-marks (p ∷ ps) ms = look-marks ps (set ms p 1)

pub looks-marks : (ps atoms ms : List ℕ) → steps look (looks_all ps atoms) ms ≡ mark_all ms (concat (map (posted_at ps) atoms))
unfolding steps looks marks looks_all concat mark_all
looks-marks ps [] ms = refl
looks-marks ps (a ∷ atoms) ms =
    steps-append look (map some (posted_at ps a)) (looks_all ps atoms) ms
    ∙ ap (steps look (looks_all ps atoms)) (look-marks (posted_at ps a) ms)
    ∙ looks-marks ps atoms (mark_all ms (posted_at ps a))
    ∙ sym (mark-append ms (posted_at ps a) (concat (map (posted_at ps) atoms)))
