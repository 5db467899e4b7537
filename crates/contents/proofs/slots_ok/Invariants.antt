-- `contents::slots_ok`. The loop: the slots that are left pass exactly if all do, and the Founded rows met and left are all.
-- Assumes nothing.
use mathlib.Core.Path.{◌≡◌}
use Prim.Native.Nat.{◌+◌, ◌-◌, ◌*◌, ◌≤◌}
use lib.ListN.{drop}
use Rattle.model.specs.Records.{slot_words, founded_rows}
use Rattle.model.specs.Slots.{entries_in}
use Rattle.contents.specs.Lent.{slots_ok}
use Rattle.contents.proofs.Slots.{left}
use Rattle.contents.proofs.slots_ok.Given as goal

abbrev pub invariant-loop-p : goal.invariant-loop-p
invariant-loop-p l =
    (slots_ok l.atoms l.born (l.rows - l.p) (drop (slot_words * l.p) l.slots) ≡ slots_ok l.atoms l.born l.rows l.slots)
    × (l.count ≤ l.p) × (l.count + founded_rows (left l.rows l.slots l.p) ≡ founded_rows (entries_in l.rows l.slots))
