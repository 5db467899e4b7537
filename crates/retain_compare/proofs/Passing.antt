-- The first and the second pass, one position after another. Assumes nothing.
use mathlib.Core.Path.{◌≡◌, refl, sym, ap, ap₂, ◌∙◌}
use mathlib.Core.Bool.{Bool, true, false, ◌||◌}
use mathlib.Core.List.{List, [], ◌∷◌, ◌++◌}
use Prim.Native.Nat.{ℕ, suc, ◌+◌, ◌≤◌, ◌<◌}
use native.Mathlib.Nat.{add-zero, zero-add, add-suc, suc-add}
use native.Mathlib.Omega.{arith}
use lib.ListN.{length, get_or}
use Rattle.model.specs.Records.{Row, Entry}
use Rattle.model.specs.Rows.{subsumes, subsumes_reads}
use Rattle.model.specs.Union.{joins, join_reads, grown}
use Rattle.model.specs.Retention.{Examined, Pass, found, passed, noted, first_pass, first_reads, second_pass, second_reads}
use Rattle.retain_compare.specs.Passes.{examined_by, resumed, row_reads, proposal_after}
use Rattle.retain_compare.specs.Turns.{sweep_reads}

-- ---- what was passed
pub resumed-snoc : (ks : List Examined) (k : Examined) (x : Pass)
    → resumed (ks ++ (k ∷ [])) x ≡ resumed ks (noted k.replaced k.entry x)
unfolding resumed
resumed-snoc [] k x = refl
resumed-snoc (j ∷ ks) k x = ap (noted j.replaced j.entry) (resumed-snoc ks k x)

pub resumed-passed : (ks : List Examined) (p : Row) → resumed ks (passed [] p) ≡ passed ks p
unfolding resumed noted
resumed-passed [] p = refl
resumed-passed (k ∷ ks) p = ap (noted k.replaced k.entry) (resumed-passed ks p)

pub resumed-found : (ks : List Examined) (n : ℕ) → resumed ks (found n) ≡ found (length ks + n)
unfolding resumed noted
resumed-found [] n = ap found (sym (zero-add n))
resumed-found (k ∷ ks) n = ap (noted k.replaced k.entry) (resumed-found ks n) ∙ ap found (sym (suc-add (length ks) n))

-- ---- marks
examined-from : (f g : ℕ → Bool) (i : ℕ) (es : List Entry) → ((j : ℕ) → i ≤ j → j < i + length es → f j ≡ g j)
    → examined_by f i es ≡ examined_by g i es
unfolding examined_by
examined-from f g i [] h = refl
examined-from f g i (e ∷ es) h =
    ap₂ {C = List Examined} (λ (b : Bool) (ks : List Examined). record { replaced = b; entry = e } ∷ ks) (h i (omega arith) (omega arith))
    (examined-from f g (suc i) es (λ j a b. h j (omega arith) (omega arith)))

pub examined-ext : (f g : ℕ → Bool) (es : List Entry) → ((j : ℕ) → j < length es → f j ≡ g j) → examined_by f 0 es ≡ examined_by g 0 es
examined-ext f g es h = examined-from f g 0 es (λ j a b. h j (omega arith))

pub examined-append : (f : ℕ → Bool) (i : ℕ) (xs ys : List Entry)
    → examined_by f i (xs ++ ys) ≡ examined_by f i xs ++ examined_by f (i + length xs) ys
unfolding examined_by
examined-append f i [] ys = ap (λ (n : ℕ). examined_by f n ys) (sym (add-zero i))
examined-append f i (x ∷ xs) ys =
    ap (λ (ks : List Examined). record { replaced = f i; entry = x } ∷ ks)
    (examined-append f (suc i) xs ys
    ∙ ap (λ (n : ℕ). examined_by f (suc i) xs ++ examined_by f n ys) (suc-add i (length xs) ∙ sym (add-suc i (length xs))))

pub examined-length : (f : ℕ → Bool) (i : ℕ) (es : List Entry) → length (examined_by f i es) ≡ length es
unfolding examined_by
examined-length f i [] = refl
examined-length f i (e ∷ es) = ap suc (examined-length f (suc i) es)

-- ---- the first pass at one position
module _ (most : ℕ) (p : Row) (e : Entry) (es : List Entry) where
  -- by whether the row subsumes the proposal
  abbrev after : Bool → Pass
  after b =
      elim b [
        | true ↦ found 0
        | false ↦ elim (joins most e.row p) [
          | true ↦ noted true e (first_pass most (grown e.row p) es)
          | false ↦ noted false e (first_pass most p es)
        ]
      ]

  pub first_found : subsumes e.row p ≡ true → first_pass most p (e ∷ es) ≡ found 0
  unfolding first_pass
  first_found h = ap after h

  pub first_on : subsumes e.row p ≡ false
      → first_pass most p (e ∷ es) ≡ noted (joins most e.row p) e (first_pass most (proposal_after most e.row p) es)
  unfolding first_pass proposal_after
  first_on h = ap after h ∙ go (joins most e.row p)
    where
      go : (b : Bool)
          → (elim b as (λ k. Pass) [
            | true ↦ noted true e (first_pass most (grown e.row p) es)
            | false ↦ noted false e (first_pass most p es)
          ])
          ≡ noted b e (first_pass most (elim b as (λ k. Row) [ true ↦ grown e.row p | false ↦ p ]) es)
      go true = refl
      go false = refl

  pub reads-found : subsumes e.row p ≡ true → first_reads most p (e ∷ es) ≡ row_reads most e.row p
  unfolding first_reads row_reads
  reads-found h = rw h

  pub reads_on : subsumes e.row p ≡ false
      → first_reads most p (e ∷ es) ≡ row_reads most e.row p + first_reads most (proposal_after most e.row p) es
  unfolding first_reads row_reads proposal_after
  reads_on h = rw h (go (joins most e.row p))
    where
      go : (b : Bool)
          → suc (subsumes_reads e.row p)
          + (join_reads most e.row p
          + (elim b as (λ k. ℕ) [ true ↦ first_reads most (grown e.row p) es | false ↦ first_reads most p es ]))
          ≡ suc (subsumes_reads e.row p) + join_reads most e.row p
          + first_reads most (elim b as (λ k. Row) [ true ↦ grown e.row p | false ↦ p ]) es
      go true = omega arith
      go false = omega arith

-- ---- the second pass at one position
pub second-step : (f : ℕ → Bool) (p : Row) (i : ℕ) (e : Entry) (es : List Entry)
    → second_reads p (examined_by f i (e ∷ es)) ≡ sweep_reads (f i) p e.row + second_reads p (examined_by f (suc i) es)
unfolding second_reads examined_by
second-step f p i e es = go (f i)
  where
    go : (b : Bool) → (elim b as (λ k. ℕ) [ true ↦ 0 | false ↦ suc (subsumes_reads p e.row) ]) + second_reads p (examined_by f (suc i) es)
        ≡ sweep_reads b p e.row + second_reads p (examined_by f (suc i) es)
    go true = refl
    go false = refl

-- the marks after the second pass, as a function of positions
pub second-marks : (f g : ℕ → Bool) (p : Row) (i : ℕ) (es : List Entry) (d : Entry)
    → ((j : ℕ) → j < length es → g (i + j) ≡ (f (i + j) || subsumes p (get_or es j d).row))
    → examined_by g i es ≡ second_pass p (examined_by f i es)
unfolding examined_by second_pass
second-marks f g p i [] d h = refl
second-marks f g p i (e ∷ es) d h =
    ap₂ {C = List Examined} (λ (b : Bool) (ks : List Examined). record { replaced = b; entry = e } ∷ ks)
    (ap (λ (n : ℕ). g n) (sym (add-zero i)) ∙ h 0 (omega arith) ∙ ap (λ (n : ℕ). f n || subsumes p e.row) (add-zero i))
    (second-marks f g p (suc i) es d
    (λ j l. ap g (suc-add i j ∙ sym (add-suc i j)) ∙ h (suc j) (omega arith)
    ∙ ap (λ (n : ℕ). f n || subsumes p (get_or es j d).row) (add-suc i j ∙ sym (suc-add i j))))
