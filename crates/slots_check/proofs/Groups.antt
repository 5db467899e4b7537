-- Groups that pass the test are those of their codes, and the groups of codes in order pass it.
-- (About the model's groups.) Assumes nothing.
use mathlib.Core.Path.{◌≡◌, refl, sym, ap, ap₂, ◌∙◌, subst}
use mathlib.Core.Bool.{Bool, true, false, ◌&&◌, ◌||◌, beq, false≢true, or_comm, and_comm}
use mathlib.Core.List.{List, [], ◌∷◌, ◌++◌, map}
use Prim.Native.Nat.{ℕ, suc, ◌+◌, ◌*◌, ◌^◌, ◌≤◌, ◌<◌, zero-le}
use native.Mathlib.Nat.{le_refl, zero-lt-suc}
use native.Mathlib.Decide.{ℕ_discrete, dec_lt}
use native.Mathlib.Omega.{arith}
use lib.Bits.{bit_and, bit_or, or_lt, or_comm as bits-comm}
use lib.Dec.{eqb, ltb, leb}
use lib.ListN.{length, length-append}
use lib.Pow.{pow_pos, pow_mono}
use borrow.Author.Tests.{eq-eqb, ne_eqb, eqb-true, lt-ltb, le-leb, ltb-true, leb-true}
use Rattle.lists.specs.Lists.{concat}
use Rattle.lists.proofs.Concats.{map-append}
use Rattle.lists.proofs.Bools.{and_both, and_yes}
use Rattle.words.specs.Bit.{test_bit}
use Rattle.words.specs.Literal.{atom, is_present, word_of, bit_of}
use Rattle.words.proofs.Bits.{bit-or, bit_high}
use Rattle.words.proofs.Masks.{or-ge, or-ge-l, apart-at-bit}
use Rattle.model.specs.Rows.{enter, groups}
use Rattle.model.specs.Slots.{bits_of, index_of, group_words, codes_of, ungroup}
use Rattle.model.proofs.Packing.{Asc, Under, OneWord, asc-less, groups-head, one_word}
use Rattle.slots_check.specs.Check.{key, bits_below, group_ok, groups_ok, code_count}
use Rattle.slots.proofs.Words.{codes-word, bits-present, bits-absent, codes-some, codes-index, signs_apart}
use Rattle.slots_check.proofs.Codes.{Places, bits-lt, codes-asc, codes-atoms, codes-under, codes-length}

-- ---- the groups of a list that begins with a whole group
pub no-groups : (cs : List ℕ) → length (groups cs) ≡ 0 → length cs ≡ 0
no-groups [] e = refl
no-groups (c ∷ cs) e = absurd (some (groups-head c cs).1 (sym (ap length (groups-head c cs).2) ∙ e))
  where
    some : (gs : List (List ℕ)) → suc (length gs) ≡ 0 → ⊥
    some gs q = omega arith

-- the list begins in another word than x
abbrev Leaves : ℕ → List ℕ → Type 0
Leaves x [] = Unit {0}
Leaves x (c ∷ cs) = word_of (atom c) ≡ x → ⊥

groups-one : (c x : ℕ) (rest : List ℕ) → word_of (atom c) ≡ x → Leaves x rest → groups (c ∷ rest) ≡ (c ∷ []) ∷ groups rest
unfolding groups enter
groups-one c x [] e l = refl
groups-one c x (d ∷ ds) e l =
    let h = groups-head d ds in
    ap (enter c) h.2
    ∙ ap (λ (b : Bool). elim b as (λ k. List (List ℕ)) [ true ↦ (c ∷ d ∷ h.0) ∷ h.1 | false ↦ (c ∷ []) ∷ (d ∷ h.0) ∷ h.1 ])
    (ne_eqb (word_of (atom c)) (word_of (atom d)) (λ q. l (sym q ∙ e)))
    ∙ ap (λ (gs : List (List ℕ)). (c ∷ []) ∷ gs) (sym h.2)

groups-more : (c d x : ℕ) (ds : List ℕ) (gs : List (List ℕ)) → word_of (atom c) ≡ x → word_of (atom d) ≡ x →
    enter c ((d ∷ ds) ∷ gs) ≡ (c ∷ d ∷ ds) ∷ gs
unfolding enter
groups-more c d x ds gs e f =
    ap (λ (b : Bool). elim b as (λ k. List (List ℕ)) [ true ↦ (c ∷ d ∷ ds) ∷ gs | false ↦ (c ∷ []) ∷ (d ∷ ds) ∷ gs ])
    (eq-eqb (word_of (atom c)) (word_of (atom d)) (e ∙ sym f))

groups-append : (x c : ℕ) (g rest : List ℕ) → OneWord x (c ∷ g) → Leaves x rest → groups ((c ∷ g) ++ rest) ≡ (c ∷ g) ∷ groups rest
unfolding groups
groups-append x c [] rest w l = groups-one c x rest w.0 l
groups-append x c (d ∷ g) rest w l =
    ap (enter c) (groups-append x d g rest w.1 l) ∙ groups-more c d x g (groups rest) w.0 w.1.0

-- ---- order of two lists one after the other
asc-append : (i j : ℕ) (xs ys : List ℕ) → i ≤ j → Asc i xs → Under j xs → Asc j ys → Asc i (xs ++ ys)
asc-append i j [] ys h a u b = asc-less i j ys h b
asc-append i j (x ∷ xs) ys h a u b = (a.0, asc-append (suc x) j xs ys u.0 a.1 u.1 b)

under-append : (t : ℕ) (xs ys : List ℕ) → Under t xs → Under t ys → Under t (xs ++ ys)
under-append t [] ys u v = v
under-append t (x ∷ xs) ys u v = (u.0, under-append t xs ys u.1 v)

word-under : (x : ℕ) (g : List ℕ) → OneWord x g → Under (2 * (64 * suc x)) g
unfolding word_of atom
word-under x [] w = tt
word-under x (c ∷ cs) w = (let e = w.0 in omega arith, word-under x cs w.1)

atoms-under : (x : ℕ) (g : List ℕ) → OneWord x g → Under (64 * suc x) (map atom g)
unfolding word_of atom
atoms-under x [] w = tt
atoms-under x (c ∷ cs) w = (let e = w.0 in omega arith, atoms-under x cs w.1)

-- ---- groups that pass
pub record Back (apart : Bool) (n k : ℕ) (ws : List ℕ) : Type 0 where
  pub words : concat (map group_words (groups (ungroup ws))) ≡ ws
  pub codes : Asc (2 * (64 * k)) (ungroup ws)
  pub atoms : apart ≡ true → Asc (64 * k) (map atom (ungroup ws))
  pub under : Under (2 * n) (ungroup ws)
  pub long : length (ungroup ws) ≡ code_count ws

leaves : (x k : ℕ) (cs : List ℕ) → x < k → Asc (2 * (64 * k)) cs → Leaves x cs
unfolding word_of atom
leaves x k [] h a = tt
leaves x k (c ∷ cs) h a = λ e. let l = a.0 in omega arith

-- the facts of one group's test
pub record Passed (apart : Bool) (n x p a : ℕ) : Type 0 where
  pub some : 0 < bit_or p a
  pub fits : bit_or p a < 2 ^ bits_below n x
  pub signs : apart ≡ true → bit_and p a ≡ 0

pub group-passed : (apart : Bool) (n x p a : ℕ) → group_ok apart n x p a ≡ true → Passed apart n x p a
unfolding group_ok
group-passed apart n x p a e =
    let s = and_both (ltb 0 (bit_or p a) && ltb (bit_or p a) (2 ^ bits_below n x)) _ e in
    let t = and_both (ltb 0 (bit_or p a)) (ltb (bit_or p a) (2 ^ bits_below n x)) s.0 in
    record {
      some = ltb-true 0 (bit_or p a) t.0;
      fits = ltb-true (bit_or p a) (2 ^ bits_below n x) t.1;
      signs = λ q. both apart q s.1;
    }
  where
    both : (b : Bool) → b ≡ true → (elim b as (λ t. Bool) [ true ↦ eqb (bit_and p a) 0 | false ↦ true ]) ≡ true → bit_and p a ≡ 0
    both true q f = eqb-true (bit_and p a) 0 f
    both false q f = absurd (false≢true q)

module _ (apart : Bool) (n x p a : ℕ) (t : Passed apart n x p a) where
  room-lt : bits_below n x ≤ 64
  unfolding bits_below
  room-lt = omega arith

  or_wide : bit_or p a < 2 ^ 64
  or_wide = omega (arith, t.fits, pow_mono room-lt)

  pub present-wide : p < 2 ^ 64
  present-wide = omega (arith, or_wide, or-ge-l p a)

  pub absent-wide : a < 2 ^ 64
  absent-wide = omega (arith, or_wide, or-ge p a)

  some-code : 0 < bit_or a p
  some-code = subst (λ (k : ℕ). 0 < k) (bits-comm p a) t.some

  bit-inside : (i : ℕ) → (test_bit a i || test_bit p i) ≡ true → 64 * x + i < n
  unfolding bits_below
  bit-inside i e = elim (dec_lt i (bits_below n x)) [
    | yes l ↦ omega arith
    | no l
        ↦ absurd (false≢true
        (sym (bit_high (bits_below n x) (bit_or p a) i t.fits (omega arith)) ∙ bit-or p a i ∙ or_comm (test_bit p i) (test_bit a i) ∙ e))
  ]

  bits-apart : apart ≡ true → (i : ℕ) → (test_bit a i && test_bit p i) ≡ false
  bits-apart q i = and_comm (test_bit a i) (test_bit p i) ∙ apart-at-bit p a i (t.signs q)

  -- one group more in front
  module _ (k : ℕ) (ws : List ℕ) (h : k ≤ x) (b : Back apart n (suc x) ws) where
    group-back : groups (codes_of x p a ++ ungroup ws) ≡ codes_of x p a ∷ groups (ungroup ws)
    group-back =
        let s = codes-some x p a present-wide absent-wide some-code in
        subst (λ (g : List ℕ). groups (g ++ ungroup ws) ≡ g ∷ groups (ungroup ws)) (sym s.2)
        (groups-append x s.0 s.1 (ungroup ws) (subst (OneWord x) s.2 (codes-word x p a))
        (leaves x (suc x) (ungroup ws) (omega arith) b.codes))

    words_back : concat (map group_words (groups (codes_of x p a ++ ungroup ws))) ≡ x ∷ p ∷ a ∷ ws
    unfolding concat group_words
    words_back =
        ap (λ (gs : List (List ℕ)). concat (map group_words gs)) group-back
        ∙ ap₂ (λ (i : ℕ) (l : List ℕ). i ∷ bits_of true (codes_of x p a) ∷ bits_of false (codes_of x p a) ∷ l)
        (codes-index x p a present-wide absent-wide some-code) b.words
        ∙ ap₂ (λ (u v : ℕ). x ∷ u ∷ v ∷ ws) (bits-present x p a present-wide absent-wide) (bits-absent x p a present-wide absent-wide)

    back_more : Back apart n k (x ∷ p ∷ a ∷ ws)
    unfolding ungroup code_count
    back_more = record {
      words = words_back;
      codes =
          asc-append (2 * (64 * k)) (2 * (64 * suc x)) (codes_of x p a) (ungroup ws) (omega arith)
          (asc-less (2 * (64 * k)) (2 * (64 * x)) (codes_of x p a) (omega arith) (codes-asc x p a))
          (word-under x (codes_of x p a) (codes-word x p a)) b.codes;
      atoms = λ q.
          subst (Asc (64 * k)) (sym (map-append atom (codes_of x p a) (ungroup ws)))
          (asc-append (64 * k) (64 * suc x) (map atom (codes_of x p a)) (map atom (ungroup ws)) (omega arith)
          (asc-less (64 * k) (64 * x) (map atom (codes_of x p a)) (omega arith) (codes-atoms x p a (bits-apart q)))
          (atoms-under x (codes_of x p a) (codes-word x p a)) (b.atoms q));
      under = under-append (2 * n) (codes_of x p a) (ungroup ws) (codes-under x p a n (λ i l. bit-inside i)) b.under;
      long = length-append (codes_of x p a) (ungroup ws) ∙ ap₂ (λ (u v : ℕ). u + v) (codes-length x p a present-wide absent-wide) b.long;
    }

pub groups-back : (apart : Bool) (n k : ℕ) (ws : List ℕ) → groups_ok apart n k ws ≡ true → Back apart n k ws
unfolding groups_ok ungroup groups concat code_count
groups-back apart n k [] e = record { words = refl; codes = tt; atoms = λ q. tt; under = tt; long = refl }
groups-back apart n k (x ∷ []) e = absurd (false≢true e)
groups-back apart n k (x ∷ p ∷ []) e = absurd (false≢true e)
groups-back apart n k (x ∷ p ∷ a ∷ ws) e =
    let s = and_both (leb k x && group_ok apart n x p a) (groups_ok apart n (suc x) ws) e in
    let t = and_both (leb k x) (group_ok apart n x p a) s.0 in
    back_more apart n x p a (group-passed apart n x p a t.1) k ws (leb-true k x t.0) (groups-back apart n (suc x) ws s.1)

-- ---- the groups of codes in order
abbrev Held : Bool → ℕ → ℕ → ℕ → List (List ℕ) → Type 0
Held apart n k b [] = Unit {0}
Held apart n k b (g ∷ gs) =
    (k ≤ index_of g) × OneWord (index_of g) g × Asc b (map (key apart) g) × Under (2 * n) g × (0 < length g)
    × Held apart n (suc (index_of g)) 0 gs

-- a smaller key is in no later word
key-word : (apart : Bool) (c e : ℕ) → suc (key apart c) ≤ key apart e → word_of (atom c) ≤ word_of (atom e)
unfolding word_of atom
key-word true c e h = omega arith
key-word false c e h = omega arith

module _ (apart : Bool) (n : ℕ) where
  held_low : (k b b' : ℕ) (gs : List (List ℕ)) → b' ≤ b → Held apart n k b gs → Held apart n k b' gs
  held_low k b b' [] h f = tt
  held_low k b b' (g ∷ gs) h f = (f.0, f.1, asc-less b' b (map (key apart) g) h f.2, f.3, f.4, f.5)

  enter-held : (c : ℕ) (gs : List (List ℕ)) → c < 2 * n → Held apart n 0 (suc (key apart c)) gs → Held apart n 0 (key apart c) (enter c gs)
  unfolding enter index_of
  enter-held c [] l f = (zero-le, (refl, tt), (le_refl (key apart c), tt), (l, tt), zero-lt-suc 0, tt)
  enter-held c ([] ∷ gs) l f = absurd (let z = f.4 in omega arith)
  enter-held c ((e ∷ es) ∷ gs) l f = go (ℕ_discrete (word_of (atom c)) (word_of (atom e)))
    where
      go : Dec (word_of (atom c) ≡ word_of (atom e)) →
          Held apart n 0 (key apart c) (elim (eqb (word_of (atom c)) (word_of (atom e))) as (λ k. List (List ℕ)) [
            | true ↦ (c ∷ e ∷ es) ∷ gs
            | false ↦ (c ∷ []) ∷ (e ∷ es) ∷ gs
          ])
      go (yes q) =
          subst (λ (b : Bool). Held apart n 0 (key apart c)
          (elim b as (λ k. List (List ℕ)) [ true ↦ (c ∷ e ∷ es) ∷ gs | false ↦ (c ∷ []) ∷ (e ∷ es) ∷ gs ]))
          (sym (eq-eqb (word_of (atom c)) (word_of (atom e)) q)) (
            zero-le,
            (refl, one_word (word_of (atom e)) (word_of (atom c)) (e ∷ es) (sym q) f.1),
            (le_refl (key apart c), f.2),
            (l, f.3),
            zero-lt-suc _,
            subst (λ (k : ℕ). Held apart n (suc k) 0 gs) (sym q) f.5,
          )
      go (no q) =
          let m = key-word apart c e f.2.0 in
          subst (λ (b : Bool). Held apart n 0 (key apart c)
          (elim b as (λ k. List (List ℕ)) [ true ↦ (c ∷ e ∷ es) ∷ gs | false ↦ (c ∷ []) ∷ (e ∷ es) ∷ gs ]))
          (sym (ne_eqb (word_of (atom c)) (word_of (atom e)) q)) (
            zero-le,
            (refl, tt),
            (le_refl (key apart c), tt),
            (l, tt),
            zero-lt-suc 0,
            (lt_of m q, f.1, asc-less 0 (suc (key apart c)) (map (key apart) (e ∷ es)) zero-le f.2, f.3, f.4, f.5),
          )
        where
          lt_of : word_of (atom c) ≤ word_of (atom e) → (word_of (atom c) ≡ word_of (atom e) → ⊥) → suc (word_of (atom c)) ≤ word_of (atom e)
          lt_of m q = omega arith

  groups-held : (b : ℕ) (cs : List ℕ) → Asc b (map (key apart) cs) → Under (2 * n) cs → Held apart n 0 b (groups cs)
  unfolding groups
  groups-held b [] a u = tt
  groups-held b (c ∷ cs) a u =
      held_low 0 (key apart c) b (enter c (groups cs)) a.0
      (enter-held c (groups cs) u.0 (groups-held (suc (key apart c)) cs a.1 u.1))

-- the words of such a group pass
bits-some : (g : List ℕ) → 0 < length g → 0 < bit_or (bits_of true g) (bits_of false g)
unfolding bits_of
bits-some [] h = absurd (omega arith)
bits-some (c ∷ cs) h = go (is_present c)
  where
    go : (b : Bool)
        → 0 < bit_or (elim (beq true b) as (λ t. ℕ) [ true ↦ bit_or (2 ^ bit_of (atom c)) (bits_of true cs) | false ↦ bits_of true cs ])
        (elim (beq false b) as (λ t. ℕ) [ true ↦ bit_or (2 ^ bit_of (atom c)) (bits_of false cs) | false ↦ bits_of false cs ])
    go true =
        omega (
          arith,
          or-ge-l (bit_or (2 ^ bit_of (atom c)) (bits_of true cs)) (bits_of false cs),
          or-ge-l (2 ^ bit_of (atom c)) (bits_of true cs),
          pow_pos (bit_of (atom c)),
        )
    go false =
        omega (
          arith,
          or-ge (bits_of true cs) (bit_or (2 ^ bit_of (atom c)) (bits_of false cs)),
          or-ge-l (2 ^ bit_of (atom c)) (bits_of false cs),
          pow_pos (bit_of (atom c)),
        )

places-room : (n x : ℕ) (g : List ℕ) → OneWord x g → Under (2 * n) g → Places (bits_below n x) g
unfolding bits_below word_of bit_of atom
places-room n x [] w u = tt
places-room n x (c ∷ cs) w u = (let e = w.0 in let l = u.0 in omega arith, places-room n x cs w.1 u.1)

group-there : (apart : Bool) (n x b : ℕ) (g : List ℕ) → OneWord x g → Asc b (map (key apart) g) → Under (2 * n) g → 0 < length g →
    group_ok apart n x (bits_of true g) (bits_of false g) ≡ true
unfolding group_ok
group-there apart n x b g w a u l =
    and_yes _ _
    (and_yes _ _ (lt-ltb 0 _ (bits-some g l))
    (lt-ltb _ (2 ^ bits_below n x)
    (or_lt (bits_below n x) (bits_of true g) (bits_of false g) (bits-lt true (bits_below n x) g (places-room n x g w u))
    (bits-lt false (bits_below n x) g (places-room n x g w u)))))
    (signs apart a)
  where
    signs : (d : Bool) → Asc b (map (key d) g)
        → (elim d as (λ t. Bool) [ true ↦ eqb (bit_and (bits_of true g) (bits_of false g)) 0 | false ↦ true ]) ≡ true
    signs true h = eq-eqb (bit_and (bits_of true g) (bits_of false g)) 0 (signs_apart x b g w h)
    signs false h = refl

held-there : (apart : Bool) (n k b : ℕ) (gs : List (List ℕ)) → Held apart n k b gs → groups_ok apart n k (concat (map group_words gs)) ≡ true
unfolding groups_ok concat group_words
held-there apart n k b [] f = refl
held-there apart n k b (g ∷ gs) f =
    and_yes _ _
    (and_yes _ _ (le-leb k (index_of g) f.0) (group-there apart n (index_of g) b g f.1 f.2 f.3 f.4))
    (held-there apart n (suc (index_of g)) 0 gs f.5)

pub groups-there : (apart : Bool) (n b : ℕ) (cs : List ℕ) → Asc b (map (key apart) cs) → Under (2 * n) cs →
    groups_ok apart n 0 (concat (map group_words (groups cs))) ≡ true
groups-there apart n b cs a u = held-there apart n 0 b (groups cs) (groups-held apart n b cs a u)
