-- Groups written from the last code to the first: a code joins the group that stands first, or begins one before it. Assumes nothing.
use mathlib.Core.Path.{◌≡◌, refl, sym, ap, ap₂, ◌∙◌, subst}
use mathlib.Core.Bool.{Bool, true, false, beq}
use mathlib.Core.List.{List, [], ◌∷◌, ◌++◌, map, append_assoc, append-nil}
use Prim.Native.Nat.{ℕ, zero, suc, ◌+◌, ◌-◌, ◌*◌, ◌/◌, ◌^◌, ◌≤◌, ◌<◌, zero-le}
use native.Mathlib.Nat.{le_refl, le_trans}
use native.Mathlib.Omega.{arith}
use lib.Bits.{bit_or}
use lib.Dec.{eqb, ltb}
use lib.ListN.{length, get_or, set, drop, replicate, length-append, length-set, length-replicate, replicate-append-replicate}
use lib.Seq.{set_at, get_or-append-add, get_or-append_seam, drop-cons, drop-length}
use borrow.Author.Tests.{lt-ltb, le-ltb}
use Rattle.lists.specs.Lists.{concat, zeroed}
use Rattle.words.specs.declared.Place.{Place}
use Rattle.words.specs.Literal.{atom, is_present, word_of, bit_of, place_of}
use Rattle.model.specs.Records.{group_length}
use Rattle.model.specs.Rows.{enter, groups}
use Rattle.model.specs.Slots.{bits_of, index_of, group_words, packs}
use Rattle.model.proofs.Packing.{words-length, groups-head, some-groups}
use Rattle.row_write.specs.Packs.{begun, mask_at, entered}

-- ---- a word changed behind others
set-near : (zs ps : List ℕ) (y : ℕ) (ys : List ℕ) (v n : ℕ) → length zs + length ps ≡ n
    → set (zs ++ (ps ++ (y ∷ ys))) n v ≡ zs ++ (ps ++ (v ∷ ys))
set-near zs ps y ys v n e =
    ap (λ (l : List ℕ). set l n v) (sym (append_assoc zs ps (y ∷ ys)))
    ∙ set_at (zs ++ ps) y ys v n (length-append zs ps ∙ e) ∙ append_assoc zs ps (v ∷ ys)

get-near : (zs l : List ℕ) (k n : ℕ) → length zs + k ≡ n → get_or (zs ++ l) n 0 ≡ get_or l k 0
get-near zs l k n e = ap (λ (i : ℕ). get_or (zs ++ l) i 0) (sym e) ∙ get_or-append-add zs l k 0

-- ---- one code more in a group; three zeros are the group of no code
module _ (zs rest g : List ℕ) (c at : ℕ) (e : length zs ≡ at) where
  abbrev x : ℕ
  x = word_of (atom c)

  abbrev bit : ℕ
  bit = 2 ^ bit_of (atom c)

  abbrev indexed : List ℕ
  indexed = set (zs ++ (group_words g ++ rest)) at x

  indexed-is : indexed ≡ zs ++ (x ∷ bits_of true g ∷ bits_of false g ∷ rest)
  unfolding group_words
  indexed-is = set_at zs (index_of g) (bits_of true g ∷ bits_of false g ∷ rest) x at e

  put : (k w : ℕ) (l : List ℕ) → get_or (zs ++ (x ∷ bits_of true g ∷ bits_of false g ∷ rest)) k 0 ≡ w
      → set (zs ++ (x ∷ bits_of true g ∷ bits_of false g ∷ rest)) k (bit_or bit w) ≡ l → set indexed k (bit_or bit (get_or indexed k 0)) ≡ l
  put k w l a b =
      ap₂ (λ (m : List ℕ) (v : ℕ). set m k (bit_or bit v)) indexed-is (ap (λ (m : List ℕ). get_or m k 0) indexed-is ∙ a) ∙ b

  by : (b : Bool) → let k : ℕ = elim b as (λ s. ℕ) [ true ↦ at + 1 | false ↦ at + 2 ] in
      set indexed k (bit_or bit (get_or indexed k 0))
      ≡ zs ++ (x ∷ (elim (beq true b) as (λ s. ℕ) [ true ↦ bit_or bit (bits_of true g) | false ↦ bits_of true g ])
      ∷ (elim (beq false b) as (λ s. ℕ) [ true ↦ bit_or bit (bits_of false g) | false ↦ bits_of false g ]) ∷ rest)
  by true =
      let n : length zs + 1 ≡ at + 1 = ap (λ (k : ℕ). k + 1) e in
      put (at + 1) (bits_of true g) _ (get-near zs (x ∷ bits_of true g ∷ bits_of false g ∷ rest) 1 (at + 1) n)
      (set-near zs (x ∷ []) (bits_of true g) (bits_of false g ∷ rest) (bit_or bit (bits_of true g)) (at + 1) n)
  by false =
      let n : length zs + 2 ≡ at + 2 = ap (λ (k : ℕ). k + 2) e in
      put (at + 2) (bits_of false g) _ (get-near zs (x ∷ bits_of true g ∷ bits_of false g ∷ rest) 2 (at + 2) n)
      (set-near zs (x ∷ bits_of true g ∷ []) (bits_of false g) rest (bit_or bit (bits_of false g)) (at + 2) n)

  entered-group : entered (zs ++ (group_words g ++ rest)) at c ≡ zs ++ (group_words (c ∷ g) ++ rest)
  unfolding entered mask_at group_words index_of bits_of
  entered-group = by (is_present c)

pub mask-inside : (at c : ℕ) → mask_at at c ≤ at + 2
unfolding mask_at
mask-inside at c = go (is_present c)
  where
    go : (b : Bool) → (elim b as (λ s. ℕ) [ true ↦ at + 1 | false ↦ at + 2 ]) ≤ at + 2
    go true = omega arith
    go false = le_refl (at + 2)

-- as the code does it
pub entered-code : (ws : List ℕ) (at c k : ℕ) (p : Place) → p ≡ place_of (c / 2) → k ≡ mask_at at c
    → set (set ws at p.word) k (bit_or p.bit (get_or (set ws at p.word) k 0)) ≡ entered ws at c
unfolding entered place_of atom
entered-code ws at c k p e f =
    ap₂ (λ (q : Place) (j : ℕ). set (set ws at q.word) j (bit_or q.bit (get_or (set ws at q.word) j 0))) e f

entered-long : (ws : List ℕ) (at c : ℕ) → length (entered ws at c) ≡ length ws
unfolding entered
entered-long ws at c = length-set (set ws at (word_of (atom c))) (mask_at at c) _ ∙ length-set ws at (word_of (atom c))

-- ---- zeros, and groups after them
abbrev words_of : List (List ℕ) → List ℕ
words_of gs = concat (map group_words gs)

abbrev tail : ℕ → List (List ℕ) → List ℕ
tail at gs = replicate at 0 ++ words_of gs

zeros-long : (n : ℕ) → length (replicate {A = ℕ} n 0) ≡ n
zeros-long n = length-replicate {A = ℕ} n 0

tail-long : (at : ℕ) (gs : List (List ℕ)) → length (tail at gs) ≡ at + group_length * length gs
tail-long at gs = omega (arith, length-append (replicate at 0) (words_of gs), zeros-long at, words-length gs)

joined : (at c : ℕ) (g : List ℕ) (gs : List (List ℕ)) → entered (tail at (g ∷ gs)) at c ≡ tail at ((c ∷ g) ∷ gs)
unfolding concat
joined at c g gs = entered-group (replicate at 0) (words_of gs) g c at (zeros-long at)

split : (at : ℕ) → group_length ≤ at → (gs : List (List ℕ)) → tail at gs ≡ tail (at - group_length) ([] ∷ gs)
unfolding concat group_words index_of bits_of
split at h gs =
    let n : at ≡ (at - group_length) + group_length = omega arith in
    ap (λ (k : ℕ). replicate k 0 ++ words_of gs) n
    ∙ ap (λ (l : List ℕ). l ++ words_of gs) (sym (replicate-append-replicate (at - group_length) group_length 0))
    ∙ append_assoc (replicate (at - group_length) 0) (replicate group_length 0) (words_of gs)

opened : (at c : ℕ) → group_length ≤ at → (gs : List (List ℕ))
    → entered (tail at gs) (at - group_length) c ≡ tail (at - group_length) ((c ∷ []) ∷ gs)
opened at c h gs = ap (λ (l : List ℕ). entered l (at - group_length) c) (split at h gs) ∙ joined (at - group_length) c [] gs

-- ---- whether a code begins a group
abbrev new : ℕ → ℕ → List (List ℕ) → ℕ
new at c gs = begun (tail at gs) at (word_of (atom c))

pub begun-le : (ws : List ℕ) (at x : ℕ) {b : ℕ} → b ≡ begun ws at x → b ≤ 1
unfolding begun
begun-le ws at x e = subst (λ (k : ℕ). k ≤ 1) (sym e) (go (ltb at (length ws)) (eqb x (get_or ws at 0)))
  where
    go : (b d : Bool) → (elim b as (λ s. ℕ) [ true ↦ elim d [ true ↦ 0 | false ↦ 1 ] | false ↦ 1 ]) ≤ 1
    go true true = zero-le
    go true false = le_refl 1
    go false d = le_refl 1

new_none : (at c : ℕ) → new at c [] ≡ 1
unfolding begun concat
new_none at c =
    ap (λ (b : Bool). elim b as (λ s. ℕ) [
      | true ↦ elim (eqb (word_of (atom c)) (get_or (tail at []) at 0)) [ true ↦ 0 | false ↦ 1 ]
      | false ↦ 1
    ])
    (le-ltb at (length (tail at [])) (omega (arith, tail-long at [])))

new-some : (at c d : ℕ) (ds : List ℕ) (gs : List (List ℕ))
    → new at c ((d ∷ ds) ∷ gs) ≡ (elim (eqb (word_of (atom c)) (word_of (atom d))) as (λ s. ℕ) [ true ↦ 0 | false ↦ 1 ])
unfolding begun concat group_words index_of
new-some at c d ds gs =
    let l : at < length (tail at ((d ∷ ds) ∷ gs)) = omega (arith, tail-long at ((d ∷ ds) ∷ gs)) in
    let n : length (replicate {A = ℕ} at 0) + 0 ≡ at = omega (arith, zeros-long at) in
    ap₂ (λ (b : Bool) (y : ℕ). elim b as (λ s. ℕ) [ true ↦ elim (eqb (word_of (atom c)) y) [ true ↦ 0 | false ↦ 1 ] | false ↦ 1 ])
    (lt-ltb at (length (tail at ((d ∷ ds) ∷ gs))) l)
    (get-near (replicate at 0) (words_of ((d ∷ ds) ∷ gs)) 0 at n)

-- ---- a turn: b is 1 if the code begins a group, and 0 if it joins one
record Turned (at c : ℕ) (gs : List (List ℕ)) (b : ℕ) : Type 0 where
  count : length (enter c gs) ≡ b + length gs
  words : group_length * b ≤ at → entered (tail at gs) (at - group_length * b) c ≡ tail (at - group_length * b) (enter c gs)

turned-new : (at c : ℕ) (gs : List (List ℕ)) → enter c gs ≡ (c ∷ []) ∷ gs → Turned at c gs 1
turned-new at c gs e =
    record {
      count = ap length e ∙ omega arith;
      words = λ h. opened at c h gs ∙ ap (tail (at - group_length)) (sym e);
    }

turned-old : (at c : ℕ) (g : List ℕ) (gs : List (List ℕ)) → enter c (g ∷ gs) ≡ (c ∷ g) ∷ gs → Turned at c (g ∷ gs) 0
turned-old at c g gs e =
    let z : at - 0 ≡ at = omega arith in
    record {
      count = ap length e ∙ omega arith;
      words = λ h.
          ap (λ (k : ℕ). entered (tail at (g ∷ gs)) k c) z ∙ joined at c g gs
          ∙ ap₂ (λ (k : ℕ) (l : List (List ℕ)). tail k l) (sym z) (sym e);
    }

turned-head : (at c d : ℕ) (ds : List ℕ) (gs : List (List ℕ)) → Turned at c ((d ∷ ds) ∷ gs) (new at c ((d ∷ ds) ∷ gs))
unfolding enter
turned-head at c d ds gs =
    subst (Turned at c ((d ∷ ds) ∷ gs)) (sym (new-some at c d ds gs)) (go (eqb (word_of (atom c)) (word_of (atom d))) refl)
  where
    after : {b : Bool} → eqb (word_of (atom c)) (word_of (atom d)) ≡ b
        → enter c ((d ∷ ds) ∷ gs) ≡ (elim b as (λ s. List (List ℕ)) [ true ↦ (c ∷ d ∷ ds) ∷ gs | false ↦ (c ∷ []) ∷ (d ∷ ds) ∷ gs ])
    after e = ap (λ (b : Bool). elim b as (λ s. List (List ℕ)) [ true ↦ (c ∷ d ∷ ds) ∷ gs | false ↦ (c ∷ []) ∷ (d ∷ ds) ∷ gs ]) e

    go : (b : Bool) → eqb (word_of (atom c)) (word_of (atom d)) ≡ b
        → Turned at c ((d ∷ ds) ∷ gs) (elim b as (λ s. ℕ) [ true ↦ 0 | false ↦ 1 ])
    go true e = turned-old at c (d ∷ ds) gs (after e)
    go false e = turned-new at c ((d ∷ ds) ∷ gs) (after e)

turned : (at c : ℕ) (cs : List ℕ) → Turned at c (groups cs) (new at c (groups cs))
unfolding groups enter
turned at c [] = subst (Turned at c []) (sym (new_none at c)) (turned-new at c [] refl)
turned at c (d ∷ ds) =
    let h = groups-head d ds in
    subst (λ (gs : List (List ℕ)). Turned at c gs (new at c gs)) (sym h.2) (turned-head at c d h.0 h.1)

-- ---- the loop of `pack`: zeros up to `at`, then the groups of the codes from i on
pub record Packing (codes : List ℕ) (at i : ℕ) (out : List ℕ) : Type 0 where
  pub inside : i ≤ length codes
  pub words : out ≡ replicate at 0 ++ packs (drop i codes)
  pub long : length out ≡ group_length * length (groups codes)

-- the codes that are left are the first ones
pub record First (codes rest : List ℕ) : Type 0 where
  pub done : List ℕ
  pub is : codes ≡ rest ++ done

pub first-all : (codes : List ℕ) → First codes codes
first-all codes = record { done = []; is = sym (append-nil codes) }

-- the last of them is taken
pub record Taken (codes rest : List ℕ) (code : ℕ) (less : List ℕ) : Type 0 where
  pub some : 0 < length rest
  pub count : length rest - 1 ≡ length less
  pub code_is : get_or codes (length rest - 1) 0 ≡ code
  pub first : First codes less

pub taken-last : (codes rest less : List ℕ) (code : ℕ) → First codes rest → rest ≡ less ++ (code ∷ []) → Taken codes rest code less
taken-last codes rest less code f e =
    let n : length rest ≡ length less + 1 = ap length e ∙ length-append less (code ∷ []) in
    let m : length rest - 1 ≡ length less = omega arith in
    let t : codes ≡ less ++ (code ∷ f.done) = f.is ∙ ap (λ (xs : List ℕ). xs ++ f.done) e ∙ append_assoc less (code ∷ []) f.done in
    record {
      some = omega arith;
      count = m;
      code_is = ap₂ (λ (xs : List ℕ) (k : ℕ). get_or xs k 0) t m ∙ get_or-append_seam less code f.done 0;
      first = record { done = code ∷ f.done; is = t };
    }

pub pack-start : (codes out : List ℕ) → length out ≡ group_length * length (groups codes) → out ≡ zeroed out
    → Packing codes (length out) (length codes) out
unfolding zeroed groups concat
pack-start codes out l z =
    record {
      inside = le_refl (length codes);
      words = z ∙ sym (append-nil (replicate (length out) 0))
          ∙ ap (λ (cs : List ℕ). replicate (length out) 0 ++ packs cs) (sym (drop-length codes));
      long = l;
    }

total : (codes out : List ℕ) (at i : ℕ) → Packing codes at i out
    → at + group_length * length (groups (drop i codes)) ≡ group_length * length (groups codes)
total codes out at i p = sym (tail-long at (groups (drop i codes))) ∙ sym (ap length p.words) ∙ p.long

pub pack-end : (codes out : List ℕ) (at i : ℕ) → Packing codes at i out → i ≤ 0 → out ≡ packs codes
pack-end codes out at i p h =
    let n : i ≡ 0 = omega arith in
    let t : at + group_length * length (groups codes) ≡ group_length * length (groups codes) =
    ap (λ (k : ℕ). at + group_length * length (groups (drop k codes))) (sym n) ∙ total codes out at i p in
    let z : at ≡ 0 = omega arith in
    p.words ∙ ap₂ (λ (a k : ℕ). replicate a 0 ++ packs (drop k codes)) z n

groups-up : (c : ℕ) (cs : List ℕ) → length (groups cs) ≤ length (groups (c ∷ cs))
unfolding groups
groups-up c cs = let t = turned 0 c cs in omega (arith, t.count)

groups-drop : (i : ℕ) (cs : List ℕ) → length (groups (drop i cs)) ≤ length (groups cs)
groups-drop zero cs = le_refl (length (groups cs))
groups-drop (suc i) [] = le_refl (length (groups []))
groups-drop (suc i) (c ∷ cs) = le_trans (groups-drop i cs) (groups-up c cs)

module _ (codes out : List ℕ) (at i b : ℕ) (p : Packing codes at i out) (some : 0 < i) where
  abbrev code : ℕ
  code = get_or codes (i - 1) 0

  abbrev rest : List ℕ
  rest = drop i codes

  cons : drop (i - 1) codes ≡ code ∷ rest
  cons =
      let h : i - 1 < length codes = omega (arith, p.inside) in
      let n : suc (i - 1) ≡ i = omega arith in
      drop-cons codes (i - 1) 0 h ∙ ap (λ (k : ℕ). code ∷ drop k codes) n

  module _ (e : b ≡ begun out at (code / 2 / 64)) where
    turn : Turned at code (groups rest) b
    unfolding word_of atom
    turn =
        subst (Turned at code (groups rest)) (sym (e ∙ ap (λ (l : List ℕ). begun l at (code / 2 / 64)) p.words)) (turned at code rest)

    more : length (groups (code ∷ rest)) ≡ b + length (groups rest)
    unfolding groups
    more = turn.count

    -- there is room for the group
    pub pack-fits : group_length * b ≤ at
    pack-fits =
        let l : length (groups (code ∷ rest)) ≤ length (groups codes)
        = subst (λ (cs : List ℕ). length (groups cs) ≤ length (groups codes)) cons (groups-drop (i - 1) codes) in
        omega (arith, total codes out at i p, more)

    pub pack-room : (at - group_length * b) + group_length ≤ length out
    pack-room = omega (arith, total codes out at i p, more, some-groups code rest, pack-fits, p.long)

    words-is : entered out (at - group_length * b) code ≡ replicate (at - group_length * b) 0 ++ packs (code ∷ rest)
    unfolding groups
    words-is = ap (λ (l : List ℕ). entered l (at - group_length * b) code) p.words ∙ turn.words pack-fits

    pub pack-turn : Packing codes (at - group_length * b) (i - 1) (entered out (at - group_length * b) code)
    pack-turn =
        record {
          inside = omega (arith, p.inside);
          words = words-is ∙ ap (λ (cs : List ℕ). replicate (at - group_length * b) 0 ++ packs cs) (sym cons);
          long = entered-long out (at - group_length * b) code ∙ p.long;
        }
