-- The entries of slots, position by position. Assumes nothing.
use mathlib.Core.Path.{◌≡◌, sym, ap, ap₂, ◌∙◌}
use mathlib.Core.List.{List, ◌∷◌}
use Prim.Native.Nat.{ℕ, ◌+◌, ◌-◌, ◌*◌, ◌<◌}
use native.Mathlib.Numerals.{add-one}
use native.Mathlib.Omega.{arith}
use lib.ListN.{take, drop}
use lib.Seq.{drop-cons}
use Rattle.model.specs.Records.{Entry, slot_words}
use Rattle.model.specs.Slots.{entry_in, entries_in}
use Rattle.model.proofs.Slots.{entries-length}
use Rattle.slots.specs.Layout.{slot_at}
use Rattle.slots.proofs.Rows.{slot-code, entries_at}
use Rattle.slots.proofs.Holding.{no-entry}

pub entries-drop : (n : ℕ) (ws : List ℕ) (i : ℕ) → i < n → drop i (entries_in n ws) ≡ entry_in (slot_at ws i) ∷ drop (i + 1) (entries_in n ws)
entries-drop n ws i l =
    let c = entries-length n ws in
    drop-cons (entries_in n ws) i no-entry (omega arith)
    ∙ ap₂ (λ (e : Entry) (j : ℕ). e ∷ drop j (entries_in n ws)) (entries_at n ws i no-entry l) (sym (add-one i))

-- the same of the part that the code lends
pub entries-part : (n : ℕ) (ws : List ℕ) (i : ℕ) → i < n
    → drop i (entries_in n ws) ≡ entry_in (take ((slot_words * i + slot_words) - slot_words * i) (drop (slot_words * i) ws))
    ∷ drop (i + 1) (entries_in n ws)
entries-part n ws i l = entries-drop n ws i l ∙ ap (λ (x : List ℕ). entry_in x ∷ drop (i + 1) (entries_in n ws)) (sym (slot-code ws i))
