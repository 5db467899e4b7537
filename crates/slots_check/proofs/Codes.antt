-- The codes of a group's three words: in order, below a bound, as many as bits are set. Assumes nothing.
use mathlib.Core.Path.{◌≡◌, refl, sym, ap, ap₂, ◌∙◌, subst}
use mathlib.Core.Logic.{◌⊎◌, inl, inr}
use mathlib.Core.Bool.{Bool, true, false, ◌&&◌, ◌||◌, beq, true≢false}
use mathlib.Core.List.{List, [], ◌∷◌, map}
use Prim.Native.Nat.{ℕ, zero, suc, ◌+◌, ◌*◌, ◌/◌, ◌%◌, ◌^◌, ◌≤◌, ◌<◌, min, max}
use native.Mathlib.Nat.{add_comm, le_refl, div-div-eq-div-mul, div-one, pow-suc}
use native.Mathlib.Omega.{arith}
use lib.Arith.{bin_ind, digits_div, digits_mod}
use lib.Bits.{bit_and, bit_or, and_step, or_step, or_lt}
use lib.Count.{ones, ones_in, ones_step, ones-le}
use lib.ListN.{length}
use lib.Pow.{pow_pos, pow-lt}
use Rattle.lists.specs.Lists.{select, range}
use Rattle.words.specs.Bit.{test_bit, nonzero}
use Rattle.words.specs.Literal.{atom, is_present, bit_of}
use Rattle.words.proofs.Bits.{bit-shr, parity}
use Rattle.model.specs.Slots.{bits_of, codes_of}
use Rattle.slots.proofs.Codes.{chosen_by, codes-select, chosen-absent, chosen-present}
use Rattle.model.proofs.Packing.{Asc, Under, asc-less}

abbrev pub put : Bool → ℕ → List ℕ → List ℕ
put b c cs = elim b [ true ↦ c ∷ cs | false ↦ cs ]

-- the codes of n places of word x, from place i on
abbrev pub lits : ℕ → ℕ → ℕ → ℕ → ℕ → List ℕ
lits x p a i n = select (chosen_by p a) (range (2 * (64 * x + i)) (2 * n))

pub lits-none : (x p a i : ℕ) → lits x p a i 0 ≡ []
unfolding select range
lits-none x p a i = refl

pub lits-step : (x p a i n : ℕ) → i < 64 →
    lits x p a i (suc n) ≡ put (test_bit a i) (2 * (64 * x + i)) (put (test_bit p i) (2 * (64 * x + i) + 1) (lits x p a (suc i) n))
unfolding select range
lits-step x p a i n l =
    let m : ℕ = 64 * x + i in
    let e : 2 * suc n ≡ suc (suc (2 * n)) = omega arith in
    let o : suc (2 * m) ≡ 2 * m + 1 = omega arith in
    let t : suc (2 * m + 1) ≡ 2 * (64 * x + suc i) = omega arith in
    ap (λ (k : ℕ). select (chosen_by p a) (range (2 * m) k)) e
    ∙ ap (λ (k : ℕ). put (chosen_by p a (2 * m)) (2 * m) (put (chosen_by p a k) k (select (chosen_by p a) (range (suc k) (2 * n))))) o
    ∙ ap (λ (k : ℕ). put (chosen_by p a (2 * m)) (2 * m)
    (put (chosen_by p a (2 * m + 1)) (2 * m + 1) (select (chosen_by p a) (range k (2 * n))))) t
    ∙ ap₂ (λ (b d : Bool). put b (2 * m) (put d (2 * m + 1) (lits x p a (suc i) n))) (chosen-absent x p a i l) (chosen-present x p a i l)

pub codes-lits : (x p a : ℕ) → codes_of x p a ≡ lits x p a 0 64
codes-lits x p a =
    let e : 2 * 64 * x ≡ 2 * (64 * x + 0) = omega arith in
    codes-select x p a ∙ ap (λ (k : ℕ). select (chosen_by p a) (range k 128)) e

-- ---- in order
put-asc : (b d : Bool) (m : ℕ) (cs : List ℕ) → Asc (2 * suc m) cs → Asc (2 * m) (put b (2 * m) (put d (2 * m + 1) cs))
put-asc true true m cs h = (le_refl (2 * m), (omega arith, asc-less (suc (2 * m + 1)) (2 * suc m) cs (omega arith) h))
put-asc true false m cs h = (le_refl (2 * m), asc-less (suc (2 * m)) (2 * suc m) cs (omega arith) h)
put-asc false true m cs h = (omega arith, asc-less (suc (2 * m + 1)) (2 * suc m) cs (omega arith) h)
put-asc false false m cs h = asc-less (2 * m) (2 * suc m) cs (omega arith) h

pub lits-asc : (x p a i n : ℕ) → i + n ≤ 64 → Asc (2 * (64 * x + i)) (lits x p a i n)
lits-asc x p a i zero h = subst (Asc (2 * (64 * x + i))) (sym (lits-none x p a i)) tt
lits-asc x p a i (suc n) h =
    let e : suc (64 * x + i) ≡ 64 * x + suc i = omega arith in
    subst (Asc (2 * (64 * x + i))) (sym (lits-step x p a i n (omega arith)))
    (put-asc (test_bit a i) (test_bit p i) (64 * x + i) _
    (subst (λ (m : ℕ). Asc (2 * m) (lits x p a (suc i) n)) (sym e) (lits-asc x p a (suc i) n (omega arith))))

-- no atom in both signs
put-atoms : (b d : Bool) (m : ℕ) (cs : List ℕ) → (b && d) ≡ false → Asc (suc m) (map atom cs)
    → Asc m (map atom (put b (2 * m) (put d (2 * m + 1) cs)))
unfolding atom
put-atoms true true m cs e h = absurd (true≢false e)
put-atoms true false m cs e h = let q : m ≡ 2 * m / 2 = omega arith in (omega arith, subst (λ (k : ℕ). Asc (suc k) (map atom cs)) q h)
put-atoms false true m cs e h = let q : m ≡ (2 * m + 1) / 2 = omega arith in (omega arith, subst (λ (k : ℕ). Asc (suc k) (map atom cs)) q h)
put-atoms false false m cs e h = asc-less m (suc m) (map atom cs) (omega arith) h

lits-atoms : (x p a i n : ℕ) → i + n ≤ 64 → ((j : ℕ) → (test_bit a j && test_bit p j) ≡ false) → Asc (64 * x + i) (map atom (lits x p a i n))
lits-atoms x p a i zero h f = subst (λ (l : List ℕ). Asc (64 * x + i) (map atom l)) (sym (lits-none x p a i)) tt
lits-atoms x p a i (suc n) h f =
    let e : suc (64 * x + i) ≡ 64 * x + suc i = omega arith in
    subst (λ (l : List ℕ). Asc (64 * x + i) (map atom l)) (sym (lits-step x p a i n (omega arith)))
    (put-atoms (test_bit a i) (test_bit p i) (64 * x + i) _ (f i)
    (subst (λ (m : ℕ). Asc m (map atom (lits x p a (suc i) n))) (sym e) (lits-atoms x p a (suc i) n (omega arith) f)))

-- ---- below a bound
put_under : (b d : Bool) (m t : ℕ) (cs : List ℕ) → ((b || d) ≡ true → m < t) → Under (2 * t) cs
    → Under (2 * t) (put b (2 * m) (put d (2 * m + 1) cs))
put_under true true m t cs f u = let l = f refl in (omega arith, (omega arith, u))
put_under true false m t cs f u = let l = f refl in (omega arith, u)
put_under false true m t cs f u = let l = f refl in (omega arith, u)
put_under false false m t cs f u = u

lits-under : (x p a i n t : ℕ) → i + n ≤ 64 → ((j : ℕ) → j < 64 → (test_bit a j || test_bit p j) ≡ true → 64 * x + j < t)
    → Under (2 * t) (lits x p a i n)
lits-under x p a i zero t h f = subst (Under (2 * t)) (sym (lits-none x p a i)) tt
lits-under x p a i (suc n) t h f =
    subst (Under (2 * t)) (sym (lits-step x p a i n (omega arith)))
    (put_under (test_bit a i) (test_bit p i) (64 * x + i) t _ (f i (omega arith)) (lits-under x p a (suc i) n t (omega arith) f))

-- ---- as many as bits are set
abbrev pub one : Bool → ℕ
one true = 1
one false = 0

one-nonzero : (k : ℕ) → one (nonzero (k % 2)) ≡ k % 2
one-nonzero k = go (parity k)
  where
    go : (k % 2 ≡ 0) ⊎ (k % 2 ≡ 1) → one (nonzero (k % 2)) ≡ k % 2
    go (inl e) = ap (λ (d : ℕ). one (nonzero d)) e ∙ sym e
    go (inr e) = ap (λ (d : ℕ). one (nonzero d)) e ∙ sym e

pub one_bit : (w i : ℕ) → one (test_bit w i) ≡ (w / 2 ^ i) % 2
unfolding test_bit
one_bit w i = let z : i + 0 ≡ i = omega arith in sym (ap one (bit-shr i w 0 ∙ ap (test_bit w) z)) ∙ one-nonzero (w / 2 ^ i)

put-length : (b d : Bool) (m : ℕ) (cs : List ℕ) → length (put b (2 * m) (put d (2 * m + 1) cs)) ≡ (one d + one b) + length cs
put-length true true m cs = omega arith
put-length true false m cs = omega arith
put-length false true m cs = omega arith
put-length false false m cs = omega arith

pub half_pow : (w i : ℕ) → w / 2 ^ i / 2 ≡ w / 2 ^ suc i
half_pow w i = div-div-eq-div-mul w (2 ^ i) 2 ∙ ap (λ (k : ℕ). w / k) (sym (pow-suc 2 i))

-- of n places from i on
lits-length : (x p a i n : ℕ) → i + n ≤ 64 → length (lits x p a i n) ≡ ones_in n (p / 2 ^ i) + ones_in n (a / 2 ^ i)
unfolding ones_in
lits-length x p a i zero h = ap length (lits-none x p a i)
lits-length x p a i (suc n) h =
    let e = ap length (lits-step x p a i n (omega arith)) in
    let l = put-length (test_bit a i) (test_bit p i) (64 * x + i) (lits x p a (suc i) n) in
    let bp = one_bit p i in
    let ba = one_bit a i in
    let t : length (lits x p a (suc i) n) ≡ ones_in n (p / 2 ^ i / 2) + ones_in n (a / 2 ^ i / 2) =
    lits-length x p a (suc i) n (omega arith) ∙ ap₂ (λ (u v : ℕ). ones_in n u + ones_in n v) (sym (half_pow p i)) (sym (half_pow a i)) in
    omega arith

pub ones-width : (k n : ℕ) → n < 2 ^ k → ones_in k n ≡ ones n
unfolding ones_in ones
ones-width zero n h = let z : 0 ≡ n = omega arith in ap ones z
ones-width (suc k) n h = ap (λ (r : ℕ). n % 2 + r) (ones-width k (n / 2) (omega arith)) ∙ sym (ones_step n)

pub codes-length : (x p a : ℕ) → p < 2 ^ 64 → a < 2 ^ 64 → length (codes_of x p a) ≡ ones p + ones a
codes-length x p a hp ha =
    ap length (codes-lits x p a) ∙ lits-length x p a 0 64 (le_refl 64)
    ∙ ap₂ (λ (u v : ℕ). ones_in 64 u + ones_in 64 v) (div-one p) (div-one a)
    ∙ ap₂ (λ (u v : ℕ). u + v) (ones-width 64 p hp) (ones-width 64 a ha)

-- an atom in both signs counts twice
ones-digit : (q d : ℕ) → d < 2 → ones (q * 2 + d) ≡ d + ones q
ones-digit q d h = ones_step (q * 2 + d) ∙ ap₂ (λ (x y : ℕ). x + ones y) (digits_mod q h) (digits_div q h)

pub ones-both : (p a : ℕ) → ones (bit_or p a) + ones (bit_and p a) ≡ ones p + ones a
ones-both p = bin_ind (λ (n : ℕ). (a : ℕ) → ones (bit_or n a) + ones (bit_and n a) ≡ ones n + ones a) (λ a. add_comm (ones a) (ones 0)) step p
  where
    step : (n : ℕ) → ((a : ℕ) → ones (bit_or (n / 2) a) + ones (bit_and (n / 2) a) ≡ ones (n / 2) + ones a) →
        (a : ℕ) → ones (bit_or n a) + ones (bit_and n a) ≡ ones n + ones a
    step n ih a =
        let o = ap ones (or_step n a) ∙ ones-digit (bit_or (n / 2) (a / 2)) (max (n % 2) (a % 2)) (omega arith) in
        let b = ap ones (and_step n a) ∙ ones-digit (bit_and (n / 2) (a / 2)) (min (n % 2) (a % 2)) (omega arith) in
        let h = ih (a / 2) in
        omega (arith, ones_step n, ones_step a)

pub ones-apart : (p a : ℕ) → bit_and p a ≡ 0 → ones (bit_or p a) ≡ ones p + ones a
ones-apart p a e = let z = ap ones e in omega (arith, ones-both p a, ones-le 0 0 (pow_pos 0))

-- ---- the words of codes

-- all places below k
abbrev pub Places : ℕ → List ℕ → Type 0
Places k [] = Unit {0}
Places k (c ∷ cs) = (bit_of (atom c) < k) × Places k cs

pub bits-lt : (s : Bool) (k : ℕ) (g : List ℕ) → Places k g → bits_of s g < 2 ^ k
unfolding bits_of
bits-lt s k [] h = pow_pos k
bits-lt s k (c ∷ cs) h = go (beq s (is_present c)) (bits-lt s k cs h.1)
  where
    go : (b : Bool) → bits_of s cs < 2 ^ k
        → (elim b as (λ t. ℕ) [ true ↦ bit_or (2 ^ bit_of (atom c)) (bits_of s cs) | false ↦ bits_of s cs ]) < 2 ^ k
    go true l = or_lt k (2 ^ bit_of (atom c)) (bits_of s cs) (pow-lt h.0) l
    go false l = l

pub codes-asc : (x p a : ℕ) → Asc (2 * (64 * x)) (codes_of x p a)
codes-asc x p a =
    let e : 64 * x + 0 ≡ 64 * x = omega arith in
    subst (λ (m : ℕ). Asc (2 * m) (codes_of x p a)) e
    (subst (Asc (2 * (64 * x + 0))) (sym (codes-lits x p a)) (lits-asc x p a 0 64 (le_refl 64)))

pub codes-atoms : (x p a : ℕ) → ((i : ℕ) → (test_bit a i && test_bit p i) ≡ false) → Asc (64 * x) (map atom (codes_of x p a))
codes-atoms x p a f =
    let e : 64 * x + 0 ≡ 64 * x = omega arith in
    subst (λ (m : ℕ). Asc m (map atom (codes_of x p a))) e
    (subst (λ (l : List ℕ). Asc (64 * x + 0) (map atom l)) (sym (codes-lits x p a)) (lits-atoms x p a 0 64 (le_refl 64) f))

pub codes-under : (x p a n : ℕ) → ((i : ℕ) → i < 64 → (test_bit a i || test_bit p i) ≡ true → 64 * x + i < n) → Under (2 * n) (codes_of x p a)
codes-under x p a n f = subst (Under (2 * n)) (sym (codes-lits x p a)) (lits-under x p a 0 64 n (le_refl 64) f)
