-- The postings of rows: those of a row by its sides, how large they are, how many, and how many are 0. Assumes nothing.
use mathlib.Core.Path.{◌≡◌, refl, sym, ap, ◌∙◌}
use mathlib.Core.Bool.{◌&&◌}
use mathlib.Core.Logic.{◌⊎◌, inl, inr}
use mathlib.Core.List.{List, [], ◌∷◌, ◌++◌, map}
use Prim.Native.Nat.{ℕ, suc, ◌+◌, ◌*◌, ◌/◌, ◌%◌, ◌≤◌, ◌<◌}
use native.Mathlib.Omega.{arith}
use lib.Dec.{T, leb}
use lib.ListN.{length, get_or, length-append, length-map}
use borrow.Author.Tests.{leb-true}
use Rattle.lists.specs.Lists.{ascending, below, distinct}
use Rattle.lists.specs.Counts.{is, times, Each, Sorted}
use Rattle.lists.proofs.Counts.{is-equal, is-other, same_or, times-append, each_append, each_none, each_map}
use Rattle.lists.proofs.Sorts.{sorted-map, distinct-each, distinct-short, distinct-ascending}
use Rattle.lists.proofs.Tests.{below_each, ascending-sorted}
use Rattle.lists.proofs.Concats.{map-append}
use Rattle.lists.proofs.Bools.{T_true, and_both}
use Rattle.words.specs.Literal.{atom}
use Rattle.model.specs.Records.{Row, max_rows, posting_words, max_conditions, max_outputs, is_row, is_row_over, within}
use Rattle.model.specs.Postings.{posting, row_postings, postings_from, postings_of}
use Rattle.postings.specs.Filling.{side_postings}
use Rattle.postings.specs.Searching.{zero_first}
use Rattle.postings.proofs.Zeros.{distinct-zero}

-- ---- what a row's test says of its sides
pub record Fit (n : ℕ) (cs : List ℕ) : Type 0 where
  pub low : Each (λ c. c < 2 * n) cs
  pub sorted : Sorted (map atom cs)

pub record RowFit (n : ℕ) (r : Row) : Type 0 where
  pub conditions : Fit n r.conditions
  pub outputs : Fit n r.outputs
  pub few : length r.conditions ≤ max_conditions
  pub many : length r.outputs ≤ max_outputs
  pub once : distinct (map atom r.conditions) ≡ map atom r.conditions

pub row-fit : (n : ℕ) (r : Row) → T (is_row n r) → RowFit n r
unfolding is_row is_row_over within atom
row-fit n r t =
    let c : List ℕ = r.conditions in
    let o : List ℕ = r.outputs in
    let b = and_both (leb (length c) max_conditions && leb (length o) max_outputs)
    ((below (2 * n) c && below (2 * n) o) && (ascending (map atom c) && ascending o)) (T_true (is_row n r) t) in
    let w = and_both (leb (length c) max_conditions) (leb (length o) max_outputs) b.0 in
    let v = and_both (below (2 * n) c && below (2 * n) o) (ascending (map atom c) && ascending o) b.1 in
    let x = and_both (below (2 * n) c) (below (2 * n) o) v.0 in
    let y = and_both (ascending (map atom c)) (ascending o) v.1 in
    record {
      conditions = record { low = below_each (2 * n) c x.0; sorted = ascending-sorted (map atom c) y.0 };
      outputs = record {
        low = below_each (2 * n) o x.1;
        sorted = sorted-map atom o (λ j k h. omega arith) (ascending-sorted o y.1);
      };
      few = leb-true (length c) max_conditions w.0;
      many = leb-true (length o) max_outputs w.1;
      once = distinct-ascending (map atom c) y.0;
    }

-- ---- the postings of a row, side by side
pub side-short : (p : ℕ) (cs : List ℕ) → length (side_postings p cs) ≤ length cs
unfolding side_postings
side-short p cs =
    omega (arith, length-map (distinct (map atom cs)) (posting p), distinct-short (map atom cs), length-map cs atom)

-- the postings that are 0: atom 0 at position 0
side-zeros : (cs : List ℕ) → times 0 (side_postings 0 cs) ≡ times 0 (distinct (map atom cs))
unfolding side_postings posting
side-zeros cs = go (distinct (map atom cs))
  where
    go : (xs : List ℕ) → times 0 (map (posting 0) xs) ≡ times 0 xs
    go [] = refl
    go (x ∷ xs) = one (same_or 0 x) (go xs)
      where
        one : (0 ≡ x) ⊎ (0 ≡ x → ⊥) → times 0 (map (posting 0) xs) ≡ times 0 xs →
            is 0 (posting 0 x) + times 0 (map (posting 0) xs) ≡ is 0 x + times 0 xs
        one (inl e) h = omega (arith, is-equal 0 (posting 0 x) (omega arith), is-equal 0 x e)
        one (inr n) h = omega (arith, is-other 0 (posting 0 x) (λ e. n (omega arith)), is-other 0 x n)

module _ (n : ℕ) where
  side-each : (P : ℕ → Type 0) (p : ℕ) (cs : List ℕ) → Fit n cs → ((a : ℕ) → a < n → P (a * max_rows + p)) → Each P (side_postings p cs)
  unfolding side_postings posting atom
  side-each P p cs f h =
      each_map P (posting p) (distinct (map atom cs))
      (distinct-each (λ a. P (posting p a)) (map atom cs)
      (each_map (λ a. P (posting p a)) atom cs (λ c k. h (c / 2) (omega (arith, f.low c k)))))

  module _ (p : ℕ) (r : Row) where
    pub row-sides : RowFit n r → row_postings p r ≡ side_postings p r.conditions ++ side_postings p r.outputs
    unfolding row_postings side_postings
    row-sides f =
        map-append (posting p) (map atom r.conditions) (distinct (map atom r.outputs))
        ∙ ap (λ (x : List ℕ). map (posting p) x ++ map (posting p) (distinct (map atom r.outputs))) (sym f.once)

    pub row-short : RowFit n r → length (row_postings p r) ≤ posting_words
    row-short f =
        omega (
          arith,
          ap length (row-sides f),
          length-append (side_postings p r.conditions) (side_postings p r.outputs),
          side-short p r.conditions,
          side-short p r.outputs,
          f.few,
          f.many,
        )

    row-each : (P : ℕ → Type 0) → RowFit n r → ((a : ℕ) → a < n → P (a * max_rows + p)) → Each P (row_postings p r)
    row-each P f h =
        rw (row-sides f)
        (each_append P (side_postings p r.conditions) (side_postings p r.outputs)
        (side-each P p r.conditions f.conditions h) (side-each P p r.outputs f.outputs h))

-- ---- the postings of rows that all are fit
abbrev pub AllFit : ℕ → List Row → Type 0
AllFit n rs = (i : ℕ) (d : Row) → i < length rs → RowFit n (get_or rs i d)

module _ (n : ℕ) where
  fit-head : (r : Row) (rs : List Row) → AllFit n (r ∷ rs) → RowFit n r
  fit-head r rs f = f 0 r (omega arith)

  fit-tail : (r : Row) (rs : List Row) → AllFit n (r ∷ rs) → AllFit n rs
  fit-tail r rs f = λ i d l. f (suc i) d (omega arith)

  from-short : (p : ℕ) (rs : List Row) → AllFit n rs → length (postings_from p rs) ≤ posting_words * length rs
  unfolding postings_from
  from-short p [] f = omega arith
  from-short p (r ∷ rs) f =
      omega (
        arith,
        length-append (row_postings p r) (postings_from (suc p) rs),
        row-short n p r (fit-head r rs f),
        from-short (suc p) rs (fit-tail r rs f),
      )

  from_each : (P : ℕ → Type 0) (p : ℕ) (rs : List Row) → AllFit n rs →
      ((a q : ℕ) → a < n → p ≤ q → q < p + length rs → P (a * max_rows + q)) → Each P (postings_from p rs)
  unfolding postings_from
  from_each P p [] f h = λ v k. absurd (omega arith)
  from_each P p (r ∷ rs) f h =
      each_append P (row_postings p r) (postings_from (suc p) rs)
      (row-each n p r P (fit-head r rs f) (λ a l. h a p l (omega arith) (omega arith)))
      (from_each P (suc p) rs (fit-tail r rs f) (λ a q l m k. h a q l (omega arith) (omega arith)))

  module _ (rs : List Row) where
    pub postings-short : AllFit n rs → length (postings_of rs) ≤ posting_words * length rs
    unfolding postings_of
    postings-short f = from-short 0 rs f

    pub postings-low : AllFit n rs → length rs ≤ max_rows → Each (λ x. x < n * max_rows) (postings_of rs)
    unfolding postings_of
    postings-low f l = from_each (λ x. x < n * max_rows) 0 rs f (λ a q h k m. omega arith)

    pub postings-placed : AllFit n rs → length rs ≤ max_rows → Each (λ x. x % max_rows < length rs) (postings_of rs)
    unfolding postings_of
    postings-placed f l = from_each (λ x. x % max_rows < length rs) 0 rs f (λ a q h k m. omega arith)

  pub zeros_of : (r : Row) (rs : List Row) → AllFit n (r ∷ rs) →
      times 0 (postings_of (r ∷ rs)) ≡ zero_first (map atom r.conditions) + zero_first (map atom r.outputs)
  unfolding postings_of postings_from
  zeros_of r rs f =
      let g = fit-head r rs f in
      let later : times 0 (postings_from 1 rs) ≡ 0 =
      each_none (λ x. 0 < x) 0 (postings_from 1 rs) (from_each (λ x. 0 < x) 1 rs (fit-tail r rs f) (λ a q h k m. omega arith))
      (λ h. omega arith) in
      times-append 0 (row_postings 0 r) (postings_from 1 rs)
      ∙ omega (
        arith,
        ap (times 0) (row-sides n 0 r g),
        times-append 0 (side_postings 0 r.conditions) (side_postings 0 r.outputs),
        side-zeros r.conditions,
        side-zeros r.outputs,
        distinct-zero (map atom r.conditions) g.conditions.sorted,
        distinct-zero (map atom r.outputs) g.outputs.sorted,
      )
