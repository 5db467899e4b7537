-- A part of the slots, lent as the code lends it, is the slot of a held row. Assumes nothing.
use mathlib.Core.Path.{◌≡◌, ap, ◌∙◌, sym, subst}
use mathlib.Core.Bool.{true}
use mathlib.Core.List.{List}
use Prim.Native.Nat.{ℕ, ◌+◌, ◌-◌, ◌*◌, ◌<◌}
use lib.ListN.{get_or, take, drop}
use Rattle.lists.specs.Lists.{below}
use Rattle.lists.proofs.Bools.{T_true}
use Rattle.model.specs.Records.{Row, Entry, is_row, slot_words}
use Rattle.model.specs.Slots.{row_in, entries_in}
use Rattle.model.proofs.Rows.{row-parts}
use Rattle.slots.specs.Layout.{Laid, Stored, slot_at, Held}
use Rattle.slots.proofs.Storing.{laid-stored}
use Rattle.slots.proofs.Rows.{slot-code, row-at}
use Rattle.slots.proofs.Holding.{no-entry}

module _ {n : ℕ} (rows p : ℕ) (ws : List ℕ) (k : Held n rows ws) (l : p < rows) where
  abbrev entry : Entry
  entry = get_or (entries_in rows ws) p no-entry

  abbrev part : List ℕ
  part = take ((slot_words * p + slot_words) - slot_words * p) (drop (slot_words * p) ws)

  stored : Stored n (slot_at ws p)
  stored = k.over.stored p l

  pub held-laid : Laid part
  held-laid = subst Laid (sym (slot-code ws p)) (laid-stored n (slot_at ws p) stored)

  pub held-under : below (2 * n) entry.row.outputs ≡ true
  held-under =
      ap (λ (r : Row). below (2 * n) r.outputs) (row-at rows ws p no-entry l)
      ∙ (row-parts n (row_in (slot_at ws p)) (T_true (is_row n (row_in (slot_at ws p))) stored.row)).outputs_under

  pub held-row : row_in part ≡ entry.row
  held-row = ap row_in (slot-code ws p) ∙ sym (row-at rows ws p no-entry l)
