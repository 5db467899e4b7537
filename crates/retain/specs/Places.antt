-- 01, module 5, Retention: 'nothing replaced and tier full: the victim has the least (hits, born) ..
-- none if rows <= founded_floor: Declined'; with 02, Eight, none if the floor protects the Founded rows and there is no Tip.
-- 'A new row is written into its own slot alone; with replaced rows, the first is overwritten and the later ones close up.' Assumes
-- nothing.
use Rattle.std.specs.Prelude.{Bool, true, false, Option, Some, None, List, [], ◌∷◌, ◌++◌, ◌≡◌, ℕ, ◌+◌, ◌*◌, ◌<◌, ltb, length, set, take, drop}
use Rattle.std.proofs.Math.Option.{none, some}
use Rattle.words.specs.Region.{max_atoms}
use Rattle.model.specs.declared.LearningLimits.{LearningLimits}
use Rattle.model.specs.Records.{Row, Entry, is_row, saturating_add, slot_words}
use Rattle.model.specs.Slots.{slot_of, row_in}
use Rattle.model.specs.Retention.{Examined, Placement, placing, protected, evicting, any_replaced, place_of, victim}
use Rattle.slots.specs.Layout.{tier_of, Held}
use Rattle.tier.specs.Tier.{closed_up}
use Rattle.row_propose.specs.Proposed.{Proposed}
use Rattle.retain.specs.declared.Room.{Room}
use Rattle.retain.specs.declared.Room.TheVariants.{After, First, Victim}

-- where a proposal goes that no row subsumes; None where the floor protects the rows
unfoldable pub room_of : LearningLimits → List Entry → List Examined → Option Room
room_of l es ks =
    elim (any_replaced ks) [
      | true ↦ Some (First (place_of ks))
      | false ↦ elim (ltb (length es) l.tier_rows) [
        | true ↦ Some After
        | false ↦ elim (victim l es) [ none ↦ None | some v ↦ Some (Victim v) ]
      ]
    ]

-- the verdict for each
abbrev pub verdict_of : Room → List Examined → Row → Placement
verdict_of After ks p = placing ks p
verdict_of (First t) ks p = placing ks p
verdict_of (Victim v) ks p = evicting v p

abbrev pub verdict_or : Option Room → List Examined → Row → Placement
verdict_or None ks p = protected
verdict_or (Some r) ks p = verdict_of r ks p

-- the reads before the first word is written: one a row where one is replaced or evicted
abbrev pub room_reads : Room → ℕ → ℕ
room_reads After rows = 0
room_reads (First t) rows = rows
room_reads (Victim v) rows = rows

-- the rows after it, the marks of the replaced ones given by position
abbrev pub placed_by : Room → (ℕ → Bool) → List Entry → Entry → List Entry
placed_by After f es e = es ++ (e ∷ [])
placed_by (First t) f es e = closed_up f t (set es t e)
placed_by (Victim v) f es e = set es v e

-- the position of the new row, and the count of evictions
abbrev pub position_of : Room → ℕ → ℕ
position_of After rows = rows
position_of (First t) rows = t
position_of (Victim v) rows = v

abbrev pub evicted_by : Room → ℕ → ℕ
evicted_by After n = n
evicted_by (First t) n = n
evicted_by (Victim v) n = saturating_add n 1

-- there is such a place in a tier of so many rows
abbrev pub Fits : Room → ℕ → ℕ → Type 0
Fits After rows tier = rows < tier
Fits (First t) rows tier = t < rows
Fits (Victim v) rows tier = v < rows

-- what is asked before a row is placed
pub record Placing (room : Room) (rows : ℕ) (slots p : List ℕ) : Type 0 where
  pub held : Held max_atoms rows slots
  pub fits : Fits room rows (tier_of slots)
  pub proposed : Proposed p
  pub row : is_row max_atoms (row_in p) ≡ true

-- an entry written over the slot at a position
abbrev pub slot_put : ℕ → Entry → List ℕ → List ℕ
slot_put p e ws = take (slot_words * p) ws ++ (slot_of e ++ drop (slot_words * p + slot_words) ws)
