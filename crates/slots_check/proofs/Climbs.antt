-- Codes in order, from the last one on: what they are with one more in front. Assumes nothing.
use mathlib.Core.Path.{◌≡◌, refl, sym, ap, ap₂, ◌∙◌}
use mathlib.Core.Bool.{Bool, true, false, ◌&&◌, true≢false}
use mathlib.Core.List.{List, [], ◌∷◌}
use mathlib.Core.Logic.{◌⊎◌, inl, inr}
use Prim.Native.Nat.{ℕ, zero, suc, ◌-◌, ◌*◌, ◌/◌, ◌^◌, ◌≤◌, ◌<◌}
use native.Mathlib.Nat.{div-lt_iff_lt-mul, div-mul-le_self}
use native.Mathlib.Omega.{arith}
use lib.Dec.{ltb}
use lib.ListN.{length, get_or, drop, drop_of_length-le}
use lib.Pow.{pow_pos}
use lib.Seq.{drop-cons}
use borrow.Author.Tests.{lt-ltb, le-ltb, ltb-true}
use Rattle.std.specs.Prelude.{Some, None, slice_get}
use Rattle.std.proofs.lemmas.Option.{get_or_from_slice_get, slice_get-get_or}
use Rattle.lists.specs.Lists.{all, above, ascending, below}
use Rattle.lists.proofs.Bools.{and_both, and_yes, and-false}
use Rattle.lists.proofs.Counts.{lt-or-ge}
use Rattle.lists.proofs.Tests.{above-yes, above-no}
use Rattle.words.specs.Codes.{shifted, climbs, runs}
use Rattle.words.proofs.Codes.{runs_none, runs-one, runs_same, runs_other}
use Rattle.slots_check.specs.Check.{side_groups}

-- without its low bits less, less at all
less-whole : (bits x y : ℕ) → x / 2 ^ bits < y / 2 ^ bits → x < y
less-whole bits x y h =
    let p = (div-lt_iff_lt-mul {k = 2 ^ bits} {x = x} {y = y / 2 ^ bits} (pow_pos bits)).0 h in
    let q = div-mul-le_self y (2 ^ bits) in
    omega arith

-- the last code, if there is one
pub last-there : (cs : List ℕ) (y : ℕ) → slice_get cs (length cs - 1) ≡ Some y → (0 < length cs) × (get_or cs (length cs - 1) 0 ≡ y)
last-there [] y e = absurd cc
last-there (c ∷ cs) y e = (omega arith, get_or_from_slice_get (c ∷ cs) (length (c ∷ cs) - 1) y 0 e)

pub last-none : (cs : List ℕ) → slice_get cs (length cs - 1) ≡ None → length cs ≡ 0
last-none [] e = refl
last-none (c ∷ cs) e = let f = slice_get-get_or (c ∷ cs) (length (c ∷ cs) - 1) 0 (omega arith) in absurd cc

module _ (n bits : ℕ) where
  pub climbs-one : (c : ℕ) → c / 2 < n → climbs n bits (c ∷ []) ≡ true
  unfolding climbs shifted below all ascending above
  climbs-one c h = let l : c < 2 * n = omega arith in ap (λ (b : Bool). (b && true) && true) (lt-ltb c (2 * n) l)

  pub climbs-high : (c : ℕ) → n ≤ c / 2 → climbs n bits (c ∷ []) ≡ false
  unfolding climbs shifted below all ascending above
  climbs-high c h = let l : 2 * n ≤ c = omega arith in ap (λ (b : Bool). (b && true) && true) (le-ltb c (2 * n) l)

  order-more : (x y : ℕ) (ys : List ℕ) → x / 2 ^ bits < y / 2 ^ bits
      → ascending (shifted bits (x ∷ y ∷ ys)) ≡ ascending (shifted bits (y ∷ ys))
  unfolding ascending shifted
  order-more x y ys h = above-yes (x / 2 ^ bits) (y / 2 ^ bits) (shifted bits ys) h

  pub climbs-fall : (x y : ℕ) (ys : List ℕ) → y / 2 ^ bits ≤ x / 2 ^ bits → climbs n bits (x ∷ y ∷ ys) ≡ false
  unfolding climbs shifted ascending
  climbs-fall x y ys h =
      ap (λ (b : Bool). below (2 * n) (x ∷ y ∷ ys) && b) (above-no (x / 2 ^ bits) (y / 2 ^ bits) (shifted bits ys) h)
      ∙ and-false (below (2 * n) (x ∷ y ∷ ys))

  below-cons : (x : ℕ) (xs : List ℕ) → below (2 * n) (x ∷ xs) ≡ (ltb x (2 * n) && below (2 * n) xs)
  unfolding below all
  below-cons x xs = refl

  pub climbs-more : (x y : ℕ) (ys : List ℕ) → x / 2 ^ bits < y / 2 ^ bits → climbs n bits (y ∷ ys) ≡ true
      → climbs n bits (x ∷ y ∷ ys) ≡ true
  unfolding climbs
  climbs-more x y ys h e =
      let s = and_both (below (2 * n) (y ∷ ys)) (ascending (shifted bits (y ∷ ys))) e in
      let t = and_both (ltb y (2 * n)) (below (2 * n) ys) (sym (below-cons y ys) ∙ s.0) in
      let l = less-whole bits x y h in
      let m = ltb-true y (2 * n) t.0 in
      and_yes _ _ (below-cons x (y ∷ ys) ∙ and_yes _ _ (lt-ltb x (2 * n) (omega arith)) s.0) (order-more x y ys h ∙ s.1)

  -- no order at all if there is none from some code on
  front : (c d : ℕ) (ds : List ℕ) → c / 2 ^ bits < d / 2 ^ bits → climbs n bits (d ∷ ds) ≡ false → climbs n bits (c ∷ d ∷ ds) ≡ false
  unfolding climbs
  front c d ds l e =
      ap₂ (λ (a b : Bool). a && b) (below-cons c (d ∷ ds)) (order-more c d ds l) ∙ none (ltb c (2 * n)) (below (2 * n) (d ∷ ds)) _ e
    where
      none : (x y z : Bool) → (y && z) ≡ false → ((x && y) && z) ≡ false
      none true y z e = e
      none false y z e = refl

  climbs-none : climbs n bits [] ≡ true
  unfolding climbs shifted below all ascending
  climbs-none = refl

  climbs-behind : (c : ℕ) (cs : List ℕ) → climbs n bits cs ≡ false → climbs n bits (c ∷ cs) ≡ false
  climbs-behind c [] e = absurd (true≢false (sym climbs-none ∙ e))
  climbs-behind c (d ∷ ds) e = go (lt-or-ge (c / 2 ^ bits) (d / 2 ^ bits))
    where
      go : (c / 2 ^ bits < d / 2 ^ bits) ⊎ (d / 2 ^ bits ≤ c / 2 ^ bits) → climbs n bits (c ∷ d ∷ ds) ≡ false
      go (inl l) = front c d ds l e
      go (inr g) = climbs-fall c d ds g

  climbs-drop : (i : ℕ) (cs : List ℕ) → climbs n bits (drop i cs) ≡ false → climbs n bits cs ≡ false
  climbs-drop zero cs e = e
  climbs-drop (suc i) [] e = e
  climbs-drop (suc i) (c ∷ cs) e = climbs-behind c cs (climbs-drop i cs e)

  -- ---- the answer
  pub groups-yes : (cs : List ℕ) (r : ℕ) → climbs n bits cs ≡ true → r ≡ runs 7 cs → Some r ≡ side_groups n bits cs
  unfolding side_groups
  groups-yes cs r e q = rw (e, side_groups) (ap Some q)

  groups-no : (cs : List ℕ) → climbs n bits cs ≡ false → None ≡ side_groups n bits cs
  unfolding side_groups
  groups-no cs e = rw (e, side_groups)

  pub groups_none : (cs : List ℕ) → length cs ≡ 0 → Some 0 ≡ side_groups n bits cs
  groups_none [] e = groups-yes [] 0 climbs-none (sym (runs_none 7))
  groups_none (c ∷ cs) e = absurd (omega arith)

  -- what the answer says of the codes
  pub groups-fail : (cs : List ℕ) → None ≡ side_groups n bits cs → climbs n bits cs ≡ false
  unfolding side_groups
  groups-fail cs e = go (climbs n bits cs) refl
    where
      go : (b : Bool) → climbs n bits cs ≡ b → climbs n bits cs ≡ false
      go true q = let f : None ≡ Some (runs 7 cs) = e ∙ rw (q, side_groups) refl in absurd cc
      go false q = q

  pub groups-pass : (cs : List ℕ) (g : ℕ) → Some g ≡ side_groups n bits cs → (climbs n bits cs ≡ true) × (g ≡ runs 7 cs)
  unfolding side_groups
  groups-pass cs g e = go (climbs n bits cs) refl
    where
      go : (b : Bool) → climbs n bits cs ≡ b → (climbs n bits cs ≡ true) × (g ≡ runs 7 cs)
      go true q = let f : Some g ≡ Some (runs 7 cs) = e ∙ rw (q, side_groups) refl in (q, cc)
      go false q = let f : Some g ≡ None = e ∙ rw (q, side_groups) refl in absurd cc

  -- ---- the walk, from the last code down
  module _ (cs : List ℕ) (i : ℕ) (l : i < length cs) where
    abbrev y : ℕ
    y = get_or cs i 0

    here : drop i cs ≡ y ∷ drop (suc i) cs
    here = drop-cons cs i 0 l

    alone : length cs ≡ suc i → drop i cs ≡ y ∷ []
    alone e = let h : length cs ≤ suc i = omega arith in here ∙ ap (λ (r : List ℕ). y ∷ r) (drop_of_length-le cs h)

    pub last-high : length cs ≡ suc i → n ≤ y / 2 → None ≡ side_groups n bits cs
    last-high e h = groups-no cs (climbs-drop i cs (ap (climbs n bits) (alone e) ∙ climbs-high y h))

    pub last-low : length cs ≡ suc i → y / 2 < n → (climbs n bits (drop i cs) ≡ true) × (1 ≡ runs 7 (drop i cs))
    last-low e h = (ap (climbs n bits) (alone e) ∙ climbs-one y h, sym (ap (runs 7) (alone e) ∙ runs-one 7 y))

    module _ (p : 0 < i) where
      abbrev x : ℕ
      x = get_or cs (i - 1) 0

      pair : drop (i - 1) cs ≡ x ∷ y ∷ drop (suc i) cs
      pair =
          let q : suc (i - 1) ≡ i = omega arith in
          drop-cons cs (i - 1) 0 (omega arith) ∙ ap (λ (k : ℕ). x ∷ drop k cs) q ∙ ap (λ (r : List ℕ). x ∷ r) here

      pub down-fall : y / 2 ^ bits ≤ x / 2 ^ bits → None ≡ side_groups n bits cs
      down-fall h = groups-no cs (climbs-drop (i - 1) cs (ap (climbs n bits) pair ∙ climbs-fall x y (drop (suc i) cs) h))

      pub down-more : x / 2 ^ bits < y / 2 ^ bits → climbs n bits (drop i cs) ≡ true → climbs n bits (drop (i - 1) cs) ≡ true
      down-more h e =
          ap (climbs n bits) pair ∙ climbs-more x y (drop (suc i) cs) h (sym (ap (climbs n bits) here) ∙ e)

      pub down-same : x / 2 ^ 7 ≡ y / 2 ^ 7 → runs 7 (drop (i - 1) cs) ≡ runs 7 (drop i cs)
      down-same e = ap (runs 7) pair ∙ runs_same 7 x y (drop (suc i) cs) e ∙ sym (ap (runs 7) here)

      pub down-other : (x / 2 ^ 7 ≡ y / 2 ^ 7 → ⊥) → runs 7 (drop (i - 1) cs) ≡ suc (runs 7 (drop i cs))
      down-other f = ap (runs 7) pair ∙ runs_other 7 x y (drop (suc i) cs) f ∙ sym (ap (λ (r : List ℕ). suc (runs 7 r)) here)
