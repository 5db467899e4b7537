-- What the tests of the functions let through, as the leaf functions ask for it. Assumes nothing.
use mathlib.Core.Path.{◌≡◌, refl, sym, ap, subst, ◌∙◌}
use mathlib.Core.Bool.{Bool, true, false, not, ◌&&◌}
use mathlib.Core.List.{List}
use Prim.Native.Nat.{ℕ, ◌≤◌, ◌<◌}
use native.Mathlib.Nat.{le_refl, le_trans}
use lib.Dec.{T, leb}
use lib.ListN.{length}
use borrow.Author.Tests.{leb-true, le-leb, lt-leb}
use Rattle.lists.proofs.Bools.{T_of, and_both}
use Rattle.words.specs.Literal.{code_bits}
use Rattle.words.specs.Region.{max_atoms, region, is_region}
use Rattle.words.proofs.Widths.{most-coded}
use Rattle.model.specs.Records.{Row, is_row, is_row_over, within, max_conditions, max_outputs}
use Rattle.model.specs.Slots.{row_in, slot_of}
use Rattle.model.proofs.Slots.{Valid, valid-of, row-there}
use Rattle.model.proofs.Rows.{row_more}
use Rattle.slots.specs.declared.Side.{Side}
use Rattle.slots.specs.Cursor.{Sound, list_of}
use Rattle.slots.specs.Layout.{Laid, Stored, output_side, proposal}
use Rattle.slots.proofs.Storing.{stored-slot, laid-stored, row-proposal, laid-proposal}
use Rattle.model.specs.declared.OutputCursor.{OutputCursor}
use Rattle.model.specs.Operations.{cursor_ok}
use Rattle.row_deduce.specs.Chunks.{Matched}
use Rattle.row_deduce.specs.Publication.{Pointed}
use Rattle.row_deduce.proofs.Cursors.{pointed-ok}
use Rattle.slots.specs.Layout.{row_of}
use Rattle.row_propose.specs.Proposed.{Proposed}
use Rattle.row_propose.proofs.Proposing.{proposed-over}
use Rattle.model.specs.declared.Source.TheVariants.{Founded}
use Rattle.row_write.specs.Forms.{new_entry}
use Rattle.leaves.specs.Fit.{LaidAs}
use Rattle.leaves.specs.Calls.{row_fits}

-- nothing is told where a test said no
pub untold : {P : Type 0} → false ≡ true → P
untold e = absurd (subst (λ (b : Bool). T (not b)) e (T_of refl))

-- a test that the code turns round, by its two ways
pub yes : {b c : Bool} → b ≡ c → b ≡ true → c ≡ true
yes e t = sym e ∙ t

pub no : {b c : Bool} → b ≡ c → b ≡ false → c ≡ false
no e t = sym e ∙ t

pub told : {P : Type 0} (b : Bool) → (b ≡ true → P) → b ≡ true → P
told b f t = f t

-- ---- the test of a row
module _ (n : ℕ) (cs os : List ℕ) where
  pub fits_not : max_atoms < n → false ≡ row_fits n (row_of cs os)
  unfolding row_fits
  fits_not l = sym (ap (λ (b : Bool). b && is_row n (row_of cs os)) (lt-leb n max_atoms l))

  pub fits-then : {b : Bool} → n ≤ max_atoms
      → b ≡ (within max_conditions max_outputs (row_of cs os) && is_row_over n (row_of cs os)) → b ≡ row_fits n (row_of cs os)
  unfolding row_fits is_row
  fits-then l e = e ∙ sym (ap (λ (b : Bool). b && is_row n (row_of cs os)) (le-leb n max_atoms l))

-- ---- a row that passed it
module _ (n : ℕ) (r : Row) (f : row_fits n r ≡ true) where
  both : (leb n max_atoms ≡ true) × (is_row n r ≡ true)
  unfolding row_fits
  both = and_both (leb n max_atoms) (is_row n r) f

  pub fits-atoms : n ≤ max_atoms
  fits-atoms = leb-true n max_atoms both.0

  valid : Valid r
  valid = valid-of n r (T_of both.1)

  pub fits-few : length r.conditions ≤ max_conditions
  fits-few = valid.few

  pub fits-many : length r.outputs ≤ max_outputs
  fits-many = valid.many

  pub fits-most : is_row max_atoms r ≡ true
  fits-most = row_more n max_atoms r fits-atoms both.1

  -- its proposal
  pub fits-proposed : (ws : List ℕ) → ws ≡ proposal r → Proposed ws
  fits-proposed ws e = subst Proposed (sym e) (proposed-over n r fits-atoms both.1)

  pub fits-laid : (ws : List ℕ) → ws ≡ proposal r → LaidAs r ws
  fits-laid ws e = subst (LaidAs r) (sym e) (record { laid = laid-proposal r valid; row = row-proposal r })

  -- its slot
  pub fits-stored : (ws : List ℕ) → ws ≡ slot_of (new_entry r 0 0 Founded) → Stored n ws
  fits-stored ws e =
      subst (Stored n) (sym e) (stored-slot code_bits n (new_entry r 0 0 Founded) (T_of both.1) (le_trans fits-atoms most-coded))

  pub fits-row : (ws : List ℕ) → ws ≡ slot_of (new_entry r 0 0 Founded) → row_in ws ≡ r
  fits-row ws e = ap row_in e ∙ row-there (new_entry r 0 0 Founded) valid

  pub fits-slot : (ws : List ℕ) → ws ≡ slot_of (new_entry r 0 0 Founded) → LaidAs r ws
  fits-slot ws e = record { laid = laid-stored n ws (fits-stored ws e); row = fits-row ws e }

-- what was written from a proposal
pub written : (r : Row) {p slot : List ℕ} → p ≡ proposal r → slot ≡ slot_of (new_entry (row_in p) 0 0 Founded) → slot
    ≡ slot_of (new_entry r 0 0 Founded)
written r e w = w ∙ ap (λ (x : Row). slot_of (new_entry x 0 0 Founded)) (ap row_in e ∙ row-proposal r)

-- the outputs of words that are laid out
pub outputs-sound : (ws : List ℕ) {s : Side} → Laid ws → s ≡ output_side ws → Sound ws s
outputs-sound ws l e = subst (Sound ws) (sym e) l.second

pub outputs-list : (ws : List ℕ) {s : Side} → Laid ws → s ≡ output_side ws → list_of ws s ≡ (row_in ws).outputs
outputs-list ws l e = ap (list_of ws) e ∙ l.outputs

pub proposed-of : (r : Row) (ws : List ℕ) → is_row max_atoms r ≡ true → ws ≡ proposal r → Proposed ws
proposed-of r ws t e = subst Proposed (sym e) (proposed-over max_atoms r (le_refl max_atoms) t)

-- ---- a stored row, with a region over as many atoms and a cursor of it
pub matched-of : (n : ℕ) (ws held cut : List ℕ) → Stored n ws → is_region n (region held cut) ≡ true → Matched ws held cut
matched-of n ws held cut s e = record { holds = record { atoms = n; stored = s }; region = T_of e }

pub pointed-of : (n : ℕ) (ws : List ℕ) (k : OutputCursor) → Stored n ws → cursor_ok (row_in ws) k ≡ true → Pointed (row_in ws) k
pointed-of n ws k s e = pointed-ok n (row_in ws) s.row s.atoms k e
