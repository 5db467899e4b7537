-- 01, Slot: "conditions, outputs, total groups, condition groups (both 0 = scalar), .., then the body .. conditions first".
-- The two sides of a slot. Assumes nothing.
use Rattle.std.specs.Prelude.{◌≡◌, true, false, List, ◌∷◌, ◌++◌, map, ℕ, ◌+◌, ◌-◌, ◌*◌, ◌/◌, ◌≤◌, ◌<◌, T, eqb, length, get_or, take, drop}
use Rattle.lists.specs.Lists.{pad}
use Rattle.words.specs.Literal.{code_bits, atoms_wide}
use Rattle.model.specs.Records.{Row, is_row, slot_words, max_rows, max_conditions, max_outputs, conditions_at, outputs_at, total_groups_at}
use Rattle.model.specs.Records.{condition_groups_at, body_at, group_length, body_words}
use Rattle.model.specs.Slots.{slot_of, slots_of, row_in, entry_in, entries_in}
use Rattle.slots.specs.declared.Side.{Side}
use Rattle.slots.specs.Cursor.{list_of, SoundWide}

unfoldable pub condition_side : List ℕ → Side
condition_side ws =
    elim (eqb (get_or ws total_groups_at 0) 0) [
      | true ↦ record { packed = false; base = body_at; count = get_or ws conditions_at 0 }
      | false ↦ record { packed = true; base = body_at; count = get_or ws condition_groups_at 0 }
    ]

unfoldable pub output_side : List ℕ → Side
output_side ws =
    elim (eqb (get_or ws total_groups_at 0) 0) [
      | true ↦ record { packed = false; base = body_at + get_or ws conditions_at 0; count = get_or ws outputs_at 0 }
      | false ↦ record {
        packed = true;
        base = body_at + group_length * get_or ws condition_groups_at 0;
        count = get_or ws total_groups_at 0 - get_or ws condition_groups_at 0;
      }
    ]

-- the counts are within their limits
pub record Counted (ws : List ℕ) : Type 0 where
  pub few : get_or ws conditions_at 0 ≤ max_conditions
  pub most : get_or ws outputs_at 0 ≤ max_outputs
  pub parts : get_or ws condition_groups_at 0 ≤ get_or ws total_groups_at 0
  pub words : group_length * get_or ws total_groups_at 0 ≤ body_words

-- the words of a slot that hold a row of codes of w bits, in either form, as `prepare` leaves it or as a scalar proposal
pub record LaidWide (w : ℕ) (ws : List ℕ) : Type 0 where
  pub long : length ws ≡ slot_words
  pub counted : Counted ws
  pub first : SoundWide w ws (condition_side ws)
  pub second : SoundWide w ws (output_side ws)
  pub conditions : list_of ws (condition_side ws) ≡ (row_in ws).conditions
  pub outputs : list_of ws (output_side ws) ≡ (row_in ws).outputs
  pub condition_count : length (row_in ws).conditions ≡ get_or ws conditions_at 0
  pub output_count : length (row_in ws).outputs ≡ get_or ws outputs_at 0

abbrev pub Laid : List ℕ → Type 0
Laid ws = LaidWide code_bits ws

-- words that are the slot of a row over n atoms, with codes of w bits: what a ledger that was accepted holds
pub record StoredWide (w n : ℕ) (ws : List ℕ) : Type 0 where
  pub atoms : n ≤ atoms_wide w
  pub row : T (is_row n (row_in ws))
  pub same : slot_of (entry_in ws) ≡ ws

abbrev pub Stored : ℕ → List ℕ → Type 0
Stored n ws = StoredWide code_bits n ws

-- the row of two lists of codes
abbrev pub row_of : List ℕ → List ℕ → Row
row_of cs os = record { conditions = cs; outputs = os }

-- a row on its way to a slot: in scalar form whatever `prepare` would choose, its numbers zero
unfoldable pub proposal : Row → List ℕ
proposal r =
    pad slot_words
    (length r.conditions ∷ length r.outputs ∷ 0 ∷ 0 ∷ 0 ∷ 0 ∷ 0 ∷ 0 ∷ (r.conditions ++ r.outputs))

-- ---- slots one behind the other: how many there are, the slot at a position, and the rows of the first n
abbrev pub tier_of : List ℕ → ℕ
tier_of ws = length ws / slot_words

abbrev pub slot_at : List ℕ → ℕ → List ℕ
slot_at ws p = take slot_words (drop (slot_words * p) ws)

unfoldable pub rows_in : ℕ → List ℕ → List Row
rows_in n ws = map (λ e. e.row) (entries_in n ws)

-- ---- what slots hold, from one slot up
-- one slot: a row over some number of atoms
pub record Holds (ws : List ℕ) : Type 0 where
  pub atoms : ℕ
  pub stored : Stored atoms ws

-- the first slots: rows over n atoms, with codes of w bits
pub record RowsWide (w n rows : ℕ) (ws : List ℕ) : Type 0 where
  pub atoms : n ≤ atoms_wide w
  pub few : rows ≤ max_rows
  pub long : slot_words * rows ≤ length ws
  pub stored : (p : ℕ) → p < rows → StoredWide w n (slot_at ws p)

abbrev pub RowsOver : ℕ → ℕ → List ℕ → Type 0
RowsOver n rows ws = RowsWide code_bits n rows ws

-- all slots of a tier: such rows in the first, and nothing else
pub record HeldWide (w n rows : ℕ) (ws : List ℕ) : Type 0 where
  pub over : RowsWide w n rows ws
  pub most : tier_of ws ≤ max_rows
  pub same : slots_of (tier_of ws) (entries_in rows ws) ≡ ws

abbrev pub Held : ℕ → ℕ → List ℕ → Type 0
Held n rows ws = HeldWide code_bits n rows ws

-- the first slots: rows over some number of atoms
pub record Rows (rows : ℕ) (ws : List ℕ) : Type 0 where
  pub atoms : ℕ
  pub over : RowsOver atoms rows ws
