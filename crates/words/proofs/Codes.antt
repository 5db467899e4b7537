-- Codes without their low bits: their runs, and the walk that tests their order. Assumes nothing.
use mathlib.Core.Path.{◌≡◌, refl, sym, ◌∙◌, ap, ap₂}
use mathlib.Core.Bool.{Bool, true, false, ◌&&◌}
use mathlib.Core.List.{List, [], ◌∷◌, map}
use Prim.Native.Nat.{ℕ, zero, suc, ◌+◌, ◌-◌, ◌*◌, ◌/◌, ◌^◌, ◌≤◌, ◌<◌}
use native.Mathlib.Nat.{div-one, div-mul-le_self}
use native.Mathlib.Decide.{dec_lt}
use native.Mathlib.Numerals.{add-one}
use native.Mathlib.Omega.{arith}
use lib.Dec.{ltb}
use lib.ListN.{length, get_or, drop, drop_of_length-le, length-map}
use lib.Seq.{drop-cons}
use lib.Pow.{pow_pos}
use borrow.Author.Tests.{lt-ltb, le-ltb, ltb-true, ltb-false}
use Rattle.std.specs.List.{IsAllAdjacentAnswer}
use Rattle.std.proofs.lemmas.Nat.{le-div}
use Rattle.lists.specs.Lists.{all, above, ascending, below, distinct}
use Rattle.lists.proofs.Bools.{and-false, and_both}
use Rattle.lists.proofs.Sorts.{distinct-one, distinct-same, distinct-other, distinct-short}
use Rattle.words.specs.Codes.{shifted, runs, climbs}
use Rattle.words.specs.Literal.{atom}

-- ---- runs of equal neighbours
pub runs_none : (bits : ℕ) → runs bits [] ≡ 0
unfolding shifted distinct
runs_none bits = refl

pub runs-one : (bits c : ℕ) → runs bits (c ∷ []) ≡ 1
unfolding shifted
runs-one bits c = ap length (distinct-one (c / 2 ^ bits))

pub runs_same : (bits c d : ℕ) (ds : List ℕ) → c / 2 ^ bits ≡ d / 2 ^ bits → runs bits (c ∷ d ∷ ds) ≡ runs bits (d ∷ ds)
unfolding shifted
runs_same bits c d ds e = ap length (distinct-same (c / 2 ^ bits) (d / 2 ^ bits) (shifted bits ds) e)

pub runs_other : (bits c d : ℕ) (ds : List ℕ) → (c / 2 ^ bits ≡ d / 2 ^ bits → ⊥) → runs bits (c ∷ d ∷ ds) ≡ suc (runs bits (d ∷ ds))
unfolding shifted
runs_other bits c d ds f = ap length (distinct-other (c / 2 ^ bits) (d / 2 ^ bits) (shifted bits ds) f)

module _ (bits : ℕ) (cs : List ℕ) (i : ℕ) (some : 1 ≤ i) where
  two : i < length cs → drop (i - 1) cs ≡ get_or cs (i - 1) 0 ∷ get_or cs i 0 ∷ drop (i + 1) cs
  two l =
      let e : suc (i - 1) ≡ i = omega arith in
      drop-cons cs (i - 1) 0 (omega arith) ∙ ap (λ (k : ℕ). get_or cs (i - 1) 0 ∷ drop k cs) e
      ∙ ap (λ (l : List ℕ). get_or cs (i - 1) 0 ∷ l) (drop-cons cs i 0 l ∙ ap (λ (k : ℕ). get_or cs i 0 ∷ drop k cs) (sym (add-one i)))

  rest_of : i < length cs → drop (i + 1 - 1) cs ≡ get_or cs i 0 ∷ drop (i + 1) cs
  rest_of l =
      let e : i + 1 - 1 ≡ i = omega arith in
      ap (λ (k : ℕ). drop k cs) e ∙ drop-cons cs i 0 l ∙ ap (λ (k : ℕ). get_or cs i 0 ∷ drop k cs) (sym (add-one i))

  pub runs-kept : i < length cs → get_or cs i 0 / 2 ^ bits ≡ get_or cs (i - 1) 0 / 2 ^ bits
      → runs bits (drop (i - 1) cs) ≡ runs bits (drop (i + 1 - 1) cs)
  runs-kept l e =
      ap (runs bits) (two l) ∙ runs_same bits (get_or cs (i - 1) 0) (get_or cs i 0) (drop (i + 1) cs) (sym e)
      ∙ sym (ap (runs bits) (rest_of l))

  pub runs-more : i < length cs → (get_or cs i 0 / 2 ^ bits ≡ get_or cs (i - 1) 0 / 2 ^ bits → ⊥)
      → runs bits (drop (i - 1) cs) ≡ suc (runs bits (drop (i + 1 - 1) cs))
  runs-more l f =
      ap (runs bits) (two l) ∙ runs_other bits (get_or cs (i - 1) 0) (get_or cs i 0) (drop (i + 1) cs) (λ q. f (sym q))
      ∙ sym (ap (λ (l : List ℕ). suc (runs bits l)) (rest_of l))

  pub runs-end : length cs ≡ i → runs bits (drop (i - 1) cs) ≡ 1
  runs-end e =
      let s : suc (i - 1) ≡ i = omega arith in
      let l : length cs ≤ i = omega arith in
      ap (runs bits) (drop-cons cs (i - 1) 0 (omega arith) ∙ ap (λ (k : ℕ). get_or cs (i - 1) 0 ∷ drop k cs) s
      ∙ ap (λ (l : List ℕ). get_or cs (i - 1) 0 ∷ l) (drop_of_length-le cs l)) ∙ runs-one bits (get_or cs (i - 1) 0)

pub runs-le : (bits : ℕ) (cs : List ℕ) → runs bits cs ≤ length cs
unfolding shifted
runs-le bits cs = omega (arith, distinct-short (shifted bits cs), length-map cs (λ c. c / 2 ^ bits))

-- ---- the order
ascending-more : (x y : ℕ) (ys : List ℕ) → x < y → ascending (x ∷ y ∷ ys) ≡ ascending (y ∷ ys)
unfolding ascending above
ascending-more x y ys h = ap (λ (b : Bool). elim b as (λ k. Bool) [ true ↦ above y ys | false ↦ false ]) (lt-ltb x y h)

ascending-less : (x y : ℕ) (ys : List ℕ) → y ≤ x → ascending (x ∷ y ∷ ys) ≡ false
unfolding ascending above
ascending-less x y ys h = ap (λ (b : Bool). elim b as (λ k. Bool) [ true ↦ above y ys | false ↦ false ]) (le-ltb x y h)

module _ (bits : ℕ) where
  -- each code's key is below the next one's
  abbrev pub Climbing : List ℕ → Type 0
  Climbing cs = (k : ℕ) → suc k < length cs → get_or cs k 0 / 2 ^ bits < get_or cs (suc k) 0 / 2 ^ bits

  key-less : (c d : ℕ) → c / 2 ^ bits < d / 2 ^ bits → c < d
  key-less c d h =
      elim (dec_lt c d) [
        | yes l ↦ l
        | no f ↦
            let e : d / 2 ^ bits ≤ c / 2 ^ bits =
            le-div (d / 2 ^ bits) c (2 ^ bits) (pow_pos bits) (omega (arith, div-mul-le_self d (2 ^ bits))) in
            absurd (omega arith)
      ]

  ascending-yes : (cs : List ℕ) → Climbing cs → ascending (shifted bits cs) ≡ true
  unfolding ascending above shifted
  ascending-yes [] f = refl
  ascending-yes (c ∷ []) f = refl
  ascending-yes (c ∷ d ∷ ds) f =
      ascending-more (c / 2 ^ bits) (d / 2 ^ bits) (shifted bits ds) (f 0 (omega arith))
      ∙ ascending-yes (d ∷ ds) (λ k h. f (suc k) (omega arith))

  ascending-no : (cs : List ℕ) (k : ℕ) → suc k < length cs → get_or cs (suc k) 0 / 2 ^ bits ≤ get_or cs k 0 / 2 ^ bits →
      ascending (shifted bits cs) ≡ false
  unfolding shifted
  ascending-no [] k l h = absurd (omega arith)
  ascending-no (c ∷ []) k l h = absurd (omega arith)
  ascending-no (c ∷ d ∷ ds) zero l h = ascending-less (c / 2 ^ bits) (d / 2 ^ bits) (shifted bits ds) h
  ascending-no (c ∷ d ∷ ds) (suc k) l h =
      elim (dec_lt (c / 2 ^ bits) (d / 2 ^ bits)) [
        | yes m ↦
            ascending-more (c / 2 ^ bits) (d / 2 ^ bits) (shifted bits ds) m ∙ ascending-no (d ∷ ds) k (omega arith) h
        | no f ↦ ascending-less (c / 2 ^ bits) (d / 2 ^ bits) (shifted bits ds) (omega arith)
      ]

  last-cons : (c d : ℕ) (ds : List ℕ) → get_or (c ∷ d ∷ ds) (length (c ∷ d ∷ ds) - 1) 0 ≡ get_or (d ∷ ds) (length (d ∷ ds) - 1) 0
  last-cons c d ds =
      let e : length (c ∷ d ∷ ds) - 1 ≡ suc (length (d ∷ ds) - 1) = omega arith in
      ap (λ (k : ℕ). get_or (c ∷ d ∷ ds) k 0) e

  module _ (n : ℕ) where
    -- where they ascend, the last is the greatest
    below-yes : (cs : List ℕ) → Climbing cs → (0 < length cs → get_or cs (length cs - 1) 0 / 2 < n) → below (2 * n) cs ≡ true
    unfolding below all
    below-yes [] f l = refl
    below-yes (c ∷ []) f l = let h : c / 2 < n = l (omega arith) in rw (lt-ltb c (2 * n) (omega arith))
    below-yes (c ∷ d ∷ ds) f l =
        let r : below (2 * n) (d ∷ ds) ≡ true =
        below-yes (d ∷ ds) (λ k h. f (suc k) (omega arith)) (λ h. omega (arith, l (omega arith), last-cons c d ds)) in
        let h : d < 2 * n = ltb-true d (2 * n) (and_both (ltb d (2 * n)) _ r).0 in
        let g : c < d = key-less c d (f 0 (omega arith)) in
        rw (lt-ltb c (2 * n) (omega arith)) r

    below-no : (cs : List ℕ) → 0 < length cs → n ≤ get_or cs (length cs - 1) 0 / 2 → below (2 * n) cs ≡ false
    unfolding below all
    below-no [] h l = absurd (omega arith)
    below-no (c ∷ []) h l = rw (le-ltb c (2 * n) (omega arith))
    below-no (c ∷ d ∷ ds) h l =
        ap (λ (b : Bool). ltb c (2 * n) && b) (below-no (d ∷ ds) (omega arith) (omega (arith, last-cons c d ds)))
        ∙ and-false (ltb c (2 * n))

    pub climbs-high : (cs : List ℕ) → 0 < length cs → n ≤ get_or cs (length cs - 1) 0 / 2 → false ≡ climbs n bits cs
    unfolding climbs
    climbs-high cs h l = sym (ap (λ (b : Bool). b && ascending (shifted bits cs)) (below-no cs h l))

    pub climbs-low : (cs : List ℕ) → (0 < length cs → get_or cs (length cs - 1) 0 / 2 < n) → (r : Bool) →
        IsAllAdjacentAnswer (λ x y b. b ≡ ltb (x / 2 ^ bits) (y / 2 ^ bits)) cs r → r ≡ climbs n bits cs
    unfolding climbs
    climbs-low cs l true f = sym (rw (below-yes cs g l, ascending-yes cs g))
      where
        g : Climbing cs
        g k h = ltb-true _ _ (sym (rw (← add-one k) (f k 0 (omega arith))))
    climbs-low cs l false (k, h, f) =
        let e : suc k < length cs = omega arith in
        let o : get_or cs (suc k) 0 / 2 ^ bits ≤ get_or cs k 0 / 2 ^ bits = ltb-false _ _ (sym (rw (← add-one k) (f 0))) in
        sym (ap (λ (b : Bool). below (2 * n) cs && b) (ascending-no cs k e o) ∙ and-false (below (2 * n) cs))

-- ---- what the walk says of conditions and of outputs
pub climbs-conditions : (n : ℕ) (cs : List ℕ) → climbs n 1 cs ≡ (below (2 * n) cs && ascending (map atom cs))
unfolding climbs shifted atom
climbs-conditions n cs = refl

ones : (cs : List ℕ) → map (λ c. c / 1) cs ≡ cs
ones [] = refl
ones (c ∷ cs) = ap₂ (λ (x : ℕ) (l : List ℕ). x ∷ l) (div-one c) (ones cs)

pub climbs-outputs : (n : ℕ) (cs : List ℕ) → climbs n 0 cs ≡ (below (2 * n) cs && ascending cs)
unfolding climbs shifted
climbs-outputs n cs = ap (λ (l : List ℕ). below (2 * n) cs && ascending l) (ones cs)
