-- 01, Slot: "total groups, condition groups (both 0 = scalar) .. The form is that of `Row::prepare`". Assumes nothing.
use Rattle.std.specs.Prelude.{true, false, List, [], ◌∷◌, ℕ, ◌*◌, eqb, length}
use Rattle.model.specs.declared.Source.{Source}
use Rattle.model.specs.Records.{Row, Entry}
use Rattle.model.specs.Rows.{groups, group_count}
use Rattle.model.specs.Slots.{if_packed}
use Rattle.row_write.specs.declared.Form.{Form}

-- the form that `prepare` chooses
abbrev pub form_of : Row → Form
form_of r = record { total = if_packed r (group_count r); first = if_packed r (length (groups r.conditions)) }

-- a row that is new in its slot: not shared, not delivered
abbrev pub new_entry : Row → ℕ → ℕ → Source → Entry
new_entry r hits born source = record { row = r; hits = hits; unshared = 0; born = born; delivered = false; source = source }

-- the words before the body
abbrev pub head_of : ℕ → ℕ → Form → ℕ → ℕ → List ℕ
head_of conditions outputs form hits born =
    conditions ∷ outputs ∷ form.total ∷ form.first ∷ hits ∷ 0 ∷ born ∷ 0 ∷ []

-- the reads of `prepare` by the form: one a literal, and one more where they are packed
unfoldable pub reads_for : ℕ → Form → ℕ
reads_for n form = elim (eqb form.total 0) [ true ↦ n | false ↦ 2 * n ]
