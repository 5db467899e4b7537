-- 01, module 3: "one for each step of the count and its end". What the walk of a union has still to give. Assumes nothing.
use Rattle.std.specs.Prelude.{◌≡◌, Bool, true, false, Option, Some, None, Result, Ok, Err, List, [], ◌∷◌, ℕ, ◌≤◌, length, take, drop}
use Rattle.meter.specs.declared.Unpaid.{Unpaid}
use Rattle.meter.specs.Verdict.{Verdict}
use Rattle.meter.specs.Verdict as verdict
use Rattle.model.specs.Union.{union}
use Rattle.slots.specs.declared.Side.{Side}
use Rattle.slots.specs.declared.Cursor.{Cursor}
use Rattle.slots.specs.Cursor.{rest, Placed}

-- what is left of the union of a side and the list b, at a cursor and a position
abbrev pub left_of : List ℕ → Side → List ℕ → Cursor → ℕ → List ℕ
left_of a s b c i = union (rest a s c) (drop i b)

-- what a step of the walk gave and what it leaves
abbrev pub given_of : List ℕ → Side → List ℕ → Option (ℕ × Cursor × ℕ) → List ℕ
given_of a s b (Some (k, c, i)) = k ∷ left_of a s b c i
given_of a s b None = []

abbrev pub PlacedBoth : Side → List ℕ → Cursor → ℕ → Type 0
PlacedBoth s b c i = Placed s c × (i ≤ length b)

abbrev pub PlacedMerged : Side → List ℕ → Option (ℕ × Cursor × ℕ) → Type 0
PlacedMerged s b (Some (k, c, i)) = PlacedBoth s b c i
PlacedMerged s b None = Unit {0}

-- whether there was room for the literals that were counted
abbrev pub has_room : Result (Option ℕ) Unpaid → Result Bool Unpaid
has_room (Ok (Some n)) = Ok true
has_room (Ok None) = Ok false
has_room (Err e) = Err e

-- the words begin with the list l, as long as was counted
abbrev pub Written : List ℕ → List ℕ → Option ℕ → Type 0
Written ws l (Some n) = (n ≡ length l) × (take n ws ≡ l)
Written ws l None = Unit {0}

-- words that change where a question says Yes
abbrev pub if_yes : Verdict → List ℕ → List ℕ → List ℕ
if_yes verdict.Yes new old = new
if_yes verdict.No new old = old
if_yes verdict.Declined new old = old
if_yes verdict.Stopped new old = old
