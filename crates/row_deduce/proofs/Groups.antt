-- The masks by which the code looks at a group, against the group's codes. Assumes nothing.
use mathlib.Core.Path.{◌≡◌, refl, sym, ap, ap₂, ◌∙◌}
use mathlib.Core.Bool.{Bool, true, false, not, ◌&&◌, ◌||◌, true≢false, and-true, and-false, or-false}
use mathlib.Core.List.{List, [], ◌∷◌}
use Prim.Native.Nat.{ℕ, ◌+◌, ◌-◌, ◌*◌, ◌^◌, ◌<◌}
use native.Mathlib.Nat.{lt_of_le_of_lt}
use native.Mathlib.Omega.{arith}
use lib.Bits.{bit_and, bit_or, or_lt, and_le_l, and_comm}
use lib.Dec.{eqb}
use lib.ListN.{get_or}
use borrow.Author.Tests.{eq-eqb, ne_eqb, eqb-true}
use Rattle.lists.proofs.Bools.{and_first, and_second, or_left}
use Rattle.words.specs.Bit.{test_bit, first_bit}
use Rattle.words.specs.Region.{Region}
use Rattle.words.proofs.Bits.{bit-and, bit-or, bit_not, bit-ext, bit-clear-low, bit-and-not}
use Rattle.words.proofs.Masks.{bit-clear, apart-at-bit, share-yes, share-no, first-bit-lowest}
use Rattle.model.specs.Slots.{codes_of}
use Rattle.model.specs.Deduction.{failing, contradicted, contradictions}
use Rattle.slots.proofs.Codes.{codes-none, first_absent, first-present}
use Rattle.slots.proofs.Words.{codes-some}
use Rattle.row_deduce.specs.declared.ConditionState.TheVariants.{Idle, Holds, Undecided}
use Rattle.row_deduce.specs.Walks.{state_of}
use Rattle.row_deduce.proofs.Codes.{failing-codes, contradicted-codes, contradictions-codes}
use Rattle.row_deduce.proofs.Walks.{idle-two, idle-clash, state-idle, state-one}

and-lt-l : (a b : ℕ) → a < 2 ^ 64 → bit_and a b < 2 ^ 64
and-lt-l a b h = lt_of_le_of_lt (and_le_l a b) h

-- ---- conditions: the masks of those that do not hold
module _ (r : Region) (x present absent : ℕ) (hp : present < 2 ^ 64) (ha : absent < 2 ^ 64)
    (hh : get_or r.held x 0 < 2 ^ 64) (hc : get_or r.cut x 0 < 2 ^ 64) where
  abbrev h : ℕ
  h = get_or r.held x 0

  abbrev c : ℕ
  c = get_or r.cut x 0

  -- the open ones of each sign, and all of them
  abbrev p : ℕ
  p = bit_and present ((2 ^ 64 - 1) - get_or r.held x 0)

  abbrev a : ℕ
  a = bit_and absent ((2 ^ 64 - 1) - get_or r.cut x 0)

  abbrev u : ℕ
  u = bit_or (bit_and absent ((2 ^ 64 - 1) - get_or r.cut x 0)) (bit_and present ((2 ^ 64 - 1) - get_or r.held x 0))

  pub group-fails : failing r (codes_of x present absent) ≡ codes_of x p a
  group-fails = failing-codes r x present absent p a (λ i l. bit-and-not present h i hh l) (λ i l. bit-and-not absent c i hc l)

  p-lt : p < 2 ^ 64
  p-lt = and-lt-l present ((2 ^ 64 - 1) - h) hp

  a_lt : a < 2 ^ 64
  a_lt = and-lt-l absent ((2 ^ 64 - 1) - c) ha

  u-lt : u < 2 ^ 64
  u-lt = or_lt 64 a p a_lt p-lt

  -- none
  pub group-holds : u ≡ 0 → failing r (codes_of x present absent) ≡ []
  group-holds e = group-fails ∙ codes-none x p a e

  -- one is contradicted
  pub group-clash : contradicted r (failing r (codes_of x present absent))
      ≡ not (eqb (bit_or (bit_and a (get_or r.held x 0)) (bit_and p (get_or r.cut x 0))) 0)
  group-clash =
      ap (contradicted r) group-fails
      ∙ contradicted-codes r x p a (bit_or (bit_and a h) (bit_and p c))
      (or_lt 64 (bit_and a h) (bit_and p c) (and-lt-l a h a_lt) (and-lt-l p c p-lt))
      (λ i l. bit-or (bit_and a h) (bit_and p c) i ∙ ap₂ (λ (s t : Bool). s || t) (bit-and a h i) (bit-and p c i))

  module _ (apart : bit_and present absent ≡ 0) where
    -- the open ones of both signs are apart
    open-apart : (i : ℕ) → i < 64 → (test_bit a i && test_bit p i) ≡ false
    open-apart i l =
        ap₂ (λ (s q : Bool). s && q) (bit-and-not absent c i hc l) (bit-and-not present h i hh l)
        ∙ fewer (test_bit present i) (test_bit absent i) (not (test_bit h i)) (not (test_bit c i)) (apart-at-bit present absent i apart)
      where
        fewer : (s q v w : Bool) → (s && q) ≡ false → ((q && w) && (s && v)) ≡ false
        fewer true true v w e = absurd (true≢false e)
        fewer true false v w e = refl
        fewer false q v w e = and-false (q && w)

    module _ (some : 0 < u) where
      t : ℕ
      t = first_bit u

      t-lt : t < 64
      unfolding t
      t-lt = (first-bit-lowest u u-lt some).inside

      -- without its lowest bit, in the word of one sign or the other, the mask is `u & (u - 1)`
      clear-is : (v w : ℕ) → bit_or v w < 2 ^ 64
          → ((i : ℕ) → i < 64 → test_bit (bit_or v w) i ≡ ((test_bit a i || test_bit p i) && not (eqb i t)))
          → bit_or v w ≡ bit_and u (u - 1)
      unfolding t
      clear-is v w l f =
          bit-ext 64 (bit_or v w) (bit_and u (u - 1)) l (and-lt-l u (u - 1) u-lt)
          (λ i k. f i k ∙ ap (λ (s : Bool). s && not (eqb i (first_bit u))) (sym (bit-or a p i))
          ∙ sym (bit-clear-low 64 u i u-lt some k))

      abbrev clear : ℕ → ℕ
      clear w = bit_and w ((2 ^ 64 - 1) - 2 ^ t)

      rest-absent : test_bit a t ≡ true → bit_or (clear a) p ≡ bit_and u (u - 1)
      rest-absent e =
          clear-is (clear a) p (or_lt 64 (clear a) p (and-lt-l a ((2 ^ 64 - 1) - 2 ^ t) a_lt) p-lt)
          (λ i l. bit-or (clear a) p i ∙ ap (λ (s : Bool). s || test_bit p i) (bit-clear a t i t-lt l)
          ∙ one (test_bit a i) (test_bit p i) (eqb i t)
          (λ q. and_first (test_bit a i) (test_bit p i) (open-apart i l) (ap (test_bit a) (eqb-true i t q) ∙ e)))
        where
          one : (s q e : Bool) → (e ≡ true → q ≡ false) → ((s && not e) || q) ≡ ((s || q) && not e)
          one s q true f = ap (λ (b : Bool). (s && false) || b) (f refl) ∙ or-false (s && false) ∙ and-false s ∙ sym (and-false (s || q))
          one s q false f = ap (λ (b : Bool). b || q) (and-true s) ∙ sym (and-true (s || q))

      rest-present : test_bit a t ≡ false → bit_or a (clear p) ≡ bit_and u (u - 1)
      rest-present e =
          clear-is a (clear p) (or_lt 64 a (clear p) a_lt (and-lt-l p ((2 ^ 64 - 1) - 2 ^ t) p-lt))
          (λ i l. bit-or a (clear p) i ∙ ap (λ (s : Bool). test_bit a i || s) (bit-clear p t i t-lt l)
          ∙ one (test_bit a i) (test_bit p i) (eqb i t) (λ q. ap (test_bit a) (eqb-true i t q) ∙ e))
        where
          one : (s q e : Bool) → (e ≡ true → s ≡ false) → (s || (q && not e)) ≡ ((s || q) && not e)
          one true q true f = absurd (true≢false (f refl))
          one true q false f = refl
          one false q e f = refl

      -- the first, and the group of the others, of which the mask is `u & (u - 1)`
      pub group-first : (c d e : ℕ) × (failing r (codes_of x present absent) ≡ c ∷ codes_of x d e) × (d < 2 ^ 64) × (e < 2 ^ 64)
          × (bit_or e d ≡ bit_and u (u - 1))
      unfolding t
      group-first = go (test_bit a t) refl
        where
          go : (b : Bool) → test_bit a t ≡ b
              → (c d e : ℕ) × (failing r (codes_of x present absent) ≡ c ∷ codes_of x d e) × (d < 2 ^ 64) × (e < 2 ^ 64)
              × (bit_or e d ≡ bit_and u (u - 1))
          go true q = (
            2 * (64 * x + t),
            p,
            clear a,
            group-fails ∙ first_absent x p a p-lt a_lt some q,
            p-lt,
            and-lt-l a ((2 ^ 64 - 1) - 2 ^ t) a_lt,
            rest-absent q,
          )
          go false q = (
            2 * (64 * x + t) + 1,
            clear p,
            a,
            group-fails ∙ first-present x p a p-lt a_lt some q,
            and-lt-l p ((2 ^ 64 - 1) - 2 ^ t) p-lt,
            a_lt,
            rest-present q,
          )

      -- two bits or more
      pub group-two : (bit_and u (u - 1) ≡ 0 → ⊥) → (k l : ℕ) × (ls : List ℕ) × (failing r (codes_of x present absent) ≡ k ∷ l ∷ ls)
      group-two f =
          let g = group-first in
          let pos : 0 < bit_or g.2 g.1 = (let e = g.6 in let n : bit_or g.2 g.1 ≡ 0 → ⊥ = (λ z. f (sym e ∙ z)) in omega arith) in
          let s = codes-some x g.1 g.2 g.4 g.5 pos in
          (g.0, s.0, s.1, g.3 ∙ ap (λ (l : List ℕ). g.0 ∷ l) s.2)

      -- one bit
      pub group-one : bit_and u (u - 1) ≡ 0 → (k : ℕ) × (failing r (codes_of x present absent) ≡ k ∷ [])
      group-one one =
          let g = group-first in
          (g.0, g.3 ∙ ap (λ (l : List ℕ). g.0 ∷ l) (codes-none x g.1 g.2 (g.6 ∙ one)))

      pub place-lt : first_bit u < 64
      place-lt = (first-bit-lowest u u-lt some).inside

      pub group-some : (k : ℕ) × (ks : List ℕ) × (failing r (codes_of x present absent) ≡ k ∷ ks)
      group-some = (let g = group-first in (g.0, codes_of x g.1 g.2, g.3))

      -- one bit: its sign is the group's
      module _ (one : bit_and u (u - 1) ≡ 0) where
        pub group-absent : (bit_and absent u ≡ 0 → ⊥) → failing r (codes_of x present absent) ≡ 2 * (64 * x + first_bit u) ∷ []
        unfolding t
        group-absent f =
            let q : test_bit absent t ≡ true = share-yes absent u u-lt some one f in
            let n : test_bit present t ≡ false =
            and_second (test_bit present t) (test_bit absent t) (apart-at-bit present absent t apart) q in
            let z : test_bit p t ≡ false = bit-and-not present h t hh place-lt ∙ ap (λ (b : Bool). b && not (test_bit h t)) n in
            let e : test_bit a t ≡ true =
            or_left (test_bit a t) (test_bit p t) (sym (bit-or a p t) ∙ (first-bit-lowest u u-lt some).here) z in
            group-fails ∙ first_absent x p a p-lt a_lt some e
            ∙ ap (λ (l : List ℕ). 2 * (64 * x + t) ∷ l) (codes-none x p (clear a) (rest-absent e ∙ one))

        pub group-present : bit_and absent u ≡ 0 → failing r (codes_of x present absent) ≡ (2 * (64 * x + first_bit u) + 1) ∷ []
        unfolding t
        group-present f =
            let q : test_bit absent t ≡ false = share-no absent u u-lt some f in
            let e : test_bit a t ≡ false = bit-and-not absent c t hc place-lt ∙ ap (λ (b : Bool). b && not (test_bit c t)) q in
            group-fails ∙ first-present x p a p-lt a_lt some e
            ∙ ap (λ (l : List ℕ). (2 * (64 * x + t) + 1) ∷ l) (codes-none x (clear p) a (rest-present e ∙ one))

  -- ---- how the conditions of a group stand, by the masks
  pub group-all : u ≡ 0 → Holds ≡ state_of r (failing r (codes_of x present absent))
  unfolding state_of
  group-all e = sym (ap (state_of r) (group-holds e))

  pub group-idle-clash : (bit_or (bit_and a (get_or r.held x 0)) (bit_and p (get_or r.cut x 0)) ≡ 0 → ⊥)
      → Idle ≡ state_of r (failing r (codes_of x present absent))
  group-idle-clash f =
      sym (state-idle r (failing r (codes_of x present absent))
      (idle-clash r (failing r (codes_of x present absent)) (group-clash ∙ ap not (ne_eqb _ 0 f))))

  pub group-idle-two : bit_and present absent ≡ 0 → (u ≡ 0 → ⊥) → (bit_and u (u - 1) ≡ 0 → ⊥)
      → Idle ≡ state_of r (failing r (codes_of x present absent))
  group-idle-two apart some f =
      let g = group-two apart (let h = some in omega arith) f in
      sym (ap (state_of r) g.3 ∙ state-idle r (g.0 ∷ g.1 ∷ g.2) (idle-two r g.0 g.1 g.2))

  pub group-open : bit_and present absent ≡ 0 → (u ≡ 0 → ⊥) → bit_and u (u - 1) ≡ 0
      → bit_or (bit_and a (get_or r.held x 0)) (bit_and p (get_or r.cut x 0)) ≡ 0
      → (k : ℕ) (ks : List ℕ) → codes_of x p a ≡ k ∷ ks
      → Undecided k ≡ state_of r (failing r (codes_of x present absent))
  group-open apart some one clash k ks e =
      let g = group-one apart (let h = some in omega arith) one in
      let s : k ∷ ks ≡ g.0 ∷ [] = sym e ∙ sym group-fails ∙ g.1 in
      let q : g.0 ≡ k = cc in
      ap Undecided (sym q)
      ∙ sym (ap (state_of r) g.1
      ∙ state-one r g.0 (ap (contradicted r) (sym g.1) ∙ group-clash ∙ ap not (eq-eqb _ 0 clash)))

-- ---- outputs: those that are contradicted
pub outputs-contradicted : (r : Region) (x present absent : ℕ)
    → contradictions r (codes_of x present absent) ≡ codes_of x (bit_and present (get_or r.cut x 0)) (bit_and absent (get_or r.held x 0))
outputs-contradicted r x present absent =
    contradictions-codes r x present absent (bit_and present (get_or r.cut x 0)) (bit_and absent (get_or r.held x 0))
    (λ i l. bit-and present (get_or r.cut x 0) i) (λ i l. bit-and absent (get_or r.held x 0) i)

-- ---- publication: the masks of what does not hold yet, in a region with no common bit
abbrev pub unless : ℕ → ℕ → ℕ → ℕ
unless w opposed holding = bit_and w (bit_or opposed ((2 ^ 64 - 1) - holding))

unless-bool : (w o v : Bool) → (v && o) ≡ false → (w && (o || not v)) ≡ (w && not v)
unless-bool w true true e = absurd (true≢false e)
unless-bool w true false e = refl
unless-bool w false v e = refl

unless-bit : (w o v i : ℕ) → v < 2 ^ 64 → i < 64 → bit_and v o ≡ 0 → test_bit (unless w o v) i ≡ (test_bit w i && not (test_bit v i))
unless-bit w o v i h l e =
    bit-and w (bit_or o ((2 ^ 64 - 1) - v)) i
    ∙ ap (λ (b : Bool). test_bit w i && b) (bit-or o ((2 ^ 64 - 1) - v) i ∙ ap (λ (b : Bool). test_bit o i || b) (bit_not 64 v i h l))
    ∙ unless-bool (test_bit w i) (test_bit o i) (test_bit v i) (apart-at-bit v o i e)

pub publish-codes : (r : Region) (x present absent : ℕ) → get_or r.held x 0 < 2 ^ 64 → get_or r.cut x 0 < 2 ^ 64
    → bit_and (get_or r.held x 0) (get_or r.cut x 0) ≡ 0
    → failing r (codes_of x present absent)
    ≡ codes_of x (unless present (get_or r.cut x 0) (get_or r.held x 0)) (unless absent (get_or r.held x 0) (get_or r.cut x 0))
publish-codes r x present absent hh hc e =
    let h : ℕ = get_or r.held x 0 in
    let c : ℕ = get_or r.cut x 0 in
    failing-codes r x present absent (unless present c h) (unless absent h c)
    (λ i l. unless-bit present c h i hh l e) (λ i l. unless-bit absent h c i hc l (and_comm c h ∙ e))
