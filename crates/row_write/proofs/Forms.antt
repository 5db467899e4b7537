-- The form of a row by the tests of the code, and what it says of the row. Assumes nothing.
use mathlib.Core.Path.{◌≡◌, refl, sym, ap, ap₂, ◌∙◌}
use mathlib.Core.Bool.{Bool, true, false}
use Prim.Native.Nat.{ℕ, ◌+◌, ◌*◌, ◌≤◌, ◌<◌}
use native.Mathlib.Omega.{arith}
use lib.Dec.{eqb, ltb}
use lib.ListN.{length}
use borrow.Author.Tests.{ne_eqb, lt-ltb, le-ltb}
use Rattle.lists.proofs.Bools.{T_of}
use Rattle.model.specs.Records.{Row, literals}
use Rattle.model.specs.Rows.{groups, group_count, packed, prepare_reads}
use Rattle.model.specs.Slots.{if_packed}
use Rattle.model.proofs.Slots.{packed-some}
use Rattle.row_write.specs.declared.Form.{Form}
use Rattle.row_write.specs.Forms.{form_of, reads_for}

-- ---- the form, once it is known whether the row is packed
abbrev form_if : Row → Bool → Form
form_if r b =
    record { total = elim b [ true ↦ group_count r | false ↦ 0 ]; first = elim b [ true ↦ length (groups r.conditions) | false ↦ 0 ] }

form-if : (r : Row) (b : Bool) → packed r ≡ b → form_of r ≡ form_if r b
unfolding if_packed
form-if r b e = ap (form_if r) e

pub form-packed : (r : Row) → packed r ≡ true → form_of r ≡ record { total = group_count r; first = length (groups r.conditions) }
form-packed r e = form-if r true e

pub form-scalar : (r : Row) → packed r ≡ false → form_of r ≡ record { total = 0; first = 0 }
form-scalar r e = form-if r false e

-- a packed row has some group: the total alone tells the form
pub groups-some : (r : Row) → packed r ≡ true → 0 < group_count r
unfolding group_count
groups-some r e = packed-some r (T_of e)

pub scalar-of : (r : Row) → (form_of r).total ≡ 0 → packed r ≡ false
scalar-of r z = go (packed r) refl
  where
    go : (b : Bool) → packed r ≡ b → b ≡ false
    go true e =
        absurd (let t : group_count r ≡ 0 = sym (ap (λ (f : Form). f.total) (form-packed r e)) ∙ z in omega (arith, groups-some r e))
    go false e = refl

pub packed-of : (r : Row) → ((form_of r).total ≡ 0 → ⊥) → packed r ≡ true
packed-of r n = go (packed r) refl
  where
    go : (b : Bool) → packed r ≡ b → b ≡ true
    go true e = refl
    go false e = absurd (n (ap (λ (f : Form). f.total) (form-scalar r e)))

-- ---- the code's counts
module _ (r : Row) (first rest n : ℕ) (f : first ≡ length (groups r.conditions)) (g : rest ≡ length (groups r.outputs))
    (l : n ≡ literals r) where
  total : first + rest ≡ group_count r
  unfolding group_count
  total = ap₂ (λ (a b : ℕ). a + b) f g

  test : ltb (3 * (first + rest)) (2 * n) ≡ packed r
  unfolding packed
  test = ap₂ (λ (w k : ℕ). ltb (3 * w) (2 * k)) total l

  pub chosen-packed : 3 * (first + rest) < 2 * n → ◌≡◌ {A = Form} (record { total = first + rest; first = first }) (form_of r)
  chosen-packed h =
      ap₂ {C = Form} (λ (t k : ℕ). record { total = t; first = k }) total f
      ∙ sym (form-packed r (sym test ∙ lt-ltb (3 * (first + rest)) (2 * n) h))

  pub chosen-scalar : 2 * n ≤ 3 * (first + rest) → ◌≡◌ {A = Form} (record { total = 0; first = 0 }) (form_of r)
  chosen-scalar h = sym (form-scalar r (sym test ∙ le-ltb (3 * (first + rest)) (2 * n) h))

-- ---- the reads
reads-if : (n t : ℕ) (b : Bool) → (b ≡ true → 0 < t)
    → ◌≡◌ {A = ℕ} (elim (eqb (elim b as (λ k. ℕ) [ true ↦ t | false ↦ 0 ]) 0) as (λ k. ℕ) [ true ↦ n | false ↦ 2 * n ])
    (elim b as (λ k. ℕ) [ true ↦ 2 * n | false ↦ n ])
reads-if n t true h =
    let s = h refl in ap (λ (b : Bool). elim b as (λ k. ℕ) [ true ↦ n | false ↦ 2 * n ]) (ne_eqb t 0 (λ e. omega arith))
reads-if n t false h = refl

pub reads-form : (r : Row) → reads_for (literals r) (form_of r) ≡ prepare_reads r
unfolding reads_for if_packed prepare_reads
reads-form r = reads-if (literals r) (group_count r) (packed r) (groups-some r)
