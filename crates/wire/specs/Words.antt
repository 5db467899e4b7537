-- 01, Header, Limits, Meter, and the cursor of next output, each as a list of words, and read from any words. Assumes nothing.
-- A flag is 0 or 1; read, it is true if its word is not 0. A word past the end is read as 0.
use Rattle.std.specs.Prelude.{Bool, true, false, not, List, [], ◌∷◌, ◌++◌, ℕ, eqb, get_or}
use Rattle.meter.specs.declared.Meter.{Meter}
use Rattle.model.specs.declared.LearningLimits.{LearningLimits}
use Rattle.model.specs.declared.Mark.{Mark}
use Rattle.std.specs.Prelude.{Option, Some, None}
use Rattle.model.specs.declared.Header.{Header}
use Rattle.model.specs.declared.OutputCursor.{OutputCursor}
use Rattle.model.specs.Records.{header}
use Rattle.model.specs.Answers.{flag_word}

-- ---- how many words each has
abbrev pub limits_length : ℕ
limits_length = 10

abbrev pub header_length : ℕ
header_length = 26

abbrev pub meter_length : ℕ
meter_length = 2

abbrev pub cursor_length : ℕ
cursor_length = 4

abbrev pub answer_length : ℕ
answer_length = 4

abbrev pub flag_in : ℕ → Bool
flag_in w = not (eqb w 0)

-- ---- Limits, in 01's order
unfoldable pub limits_in : List ℕ → LearningLimits
limits_in ws = record {
  atoms = get_or ws 0 0;
  tier_rows = get_or ws 1 0;
  founded_conditions = get_or ws 2 0;
  founded_outputs = get_or ws 3 0;
  founded_floor = get_or ws 4 0;
  founded_attempts = get_or ws 5 0;
  founded_work = get_or ws 6 0;
  share_work = get_or ws 7 0;
  share_conditions = get_or ws 8 0;
  share_hits = get_or ws 9 0;
}

-- ---- The seed mark: 0 or 1, the store's number, its born; three zeros for none
abbrev pub mark_words : Option Mark → List ℕ
mark_words None = 0 ∷ 0 ∷ 0 ∷ []
mark_words (Some m) = 1 ∷ m.number ∷ m.born ∷ []

abbrev pub mark_in : ℕ → ℕ → ℕ → Option Mark
mark_in w number born = elim (flag_in w) [ true ↦ Some (record { number = number; born = born }) | false ↦ None ]

-- ---- Header: the limits first, then 01's order; the count of Founded rows (02, Eight) is the last, so that the others keep their places
unfoldable pub header_words : Header → List ℕ
header_words h =
    h.limits.atoms
    ∷ h.limits.tier_rows
    ∷ h.limits.founded_conditions
    ∷ h.limits.founded_outputs
    ∷ h.limits.founded_floor
    ∷ h.limits.founded_attempts
    ∷ h.limits.founded_work
    ∷ h.limits.share_work
    ∷ h.limits.share_conditions
    ∷ h.limits.share_hits
    ∷ h.number
    ∷ h.rows
    ∷ h.born
    ∷ h.epoch
    ∷ h.attempts
    ∷ h.remaining.0
    ∷ h.sharing.0
    ∷ h.evicted
    ∷ h.deliveries
    ∷ h.seeded
    ∷ flag_word h.stale
    ∷ flag_word h.full
    ∷ (mark_words h.mark ++ (h.founded ∷ []))

-- a header of its limits and its mark, and of the words between
abbrev pub header_with : LearningLimits → Option Mark → List ℕ → Header
header_with l m ws =
    header l (get_or ws 10 0) (get_or ws 11 0) (get_or ws 12 0) (get_or ws 13 0) (get_or ws 14 0)
    (record { 0 = get_or ws 15 0 }) (record { 0 = get_or ws 16 0 }) (get_or ws 17 0) (get_or ws 18 0) (get_or ws 19 0)
    (get_or ws 25 0) (flag_in (get_or ws 20 0)) (flag_in (get_or ws 21 0)) m

unfoldable pub header_in : List ℕ → Header
header_in ws = header_with (limits_in ws) (mark_in (get_or ws 22 0) (get_or ws 23 0) (get_or ws 24 0)) ws

-- ---- Meter: charged, limit
abbrev pub meter_words : Meter → List ℕ
meter_words m = m.charged ∷ m.limit ∷ []

abbrev pub meter_in : List ℕ → Meter
meter_in ws = record { charged = get_or ws 0 0; limit = get_or ws 1 0 }

-- ---- The cursor: next, word, present, absent
abbrev pub cursor_words : OutputCursor → List ℕ
cursor_words k = k.next ∷ k.word ∷ k.present ∷ k.absent ∷ []

abbrev pub cursor_in : List ℕ → OutputCursor
cursor_in ws = record { next = get_or ws 0 0; word = get_or ws 1 0; present = get_or ws 2 0; absent = get_or ws 3 0 }
