-- 01, Posting and module 7: 'a stale ledger is rebuilt, one tick a posting'. The steps of a rebuilding, and its end. Assumes nothing.
use Rattle.std.specs.Prelude.{true, false, List, [], ◌∷◌, map, ℕ, ◌+◌, ◌*◌, ◌≤◌, ◌<◌, eqb, length, set, ◌≡◌, Result, Ok, Err}
use Rattle.lists.specs.Lists.{distinct}
use Rattle.lists.specs.Counts.{Each}
use Rattle.words.specs.Literal.{code_bits, codes_wide, atom}
use Rattle.meter.specs.declared.Meter.{Meter}
use Rattle.meter.specs.declared.Stopped as meter
use Rattle.meter.specs.Tick.{Tick, Ticked, Stopped}
use Rattle.model.specs.Records.{Row, max_rows, posting_words}
use Rattle.model.specs.Postings.{posting, postings_of, filed}
use Rattle.slots.specs.declared.Side.{Side}
use Rattle.slots.specs.Cursor.{Sound, list_of}
use Rattle.slots.specs.Layout.{Holds, Rows}
use Rattle.postings.specs.Steps.{Walk, walked}

-- ---- the postings of one side of the row at a position
unfoldable pub side_postings : ℕ → List ℕ → List ℕ
side_postings p cs = map (posting p) (distinct (map atom cs))

-- of equal neighbours one, and none that is the last one met, a
unfoldable pub later : ℕ → List ℕ → List ℕ
later a [] = []
later a (x ∷ xs) = elim (eqb x a) [ true ↦ later a xs | false ↦ x ∷ later x xs ]

-- those that are left, where a is the atom last met
unfoldable pub left_postings : ℕ → ℕ → List ℕ → List ℕ
left_postings p a cs = map (posting p) (later a (map atom cs))

-- ---- words filled from the front, up to the next place
pub record Filled : Type 0 where
  pub next : ℕ
  pub words : List ℕ

abbrev pub filled_to : ℕ → List ℕ → Filled
filled_to n ws = record { next = n; words = ws }

abbrev pub put : ℕ → Filled → Filled
put x s = record { next = s.next + 1; words = set s.words s.next x }

-- what a filling did, from its result, the meter and the words after it: of one that was stopped, that it was
abbrev pub FilledBy : Result ℕ meter.Stopped → Meter → List ℕ → Walk Filled → Type 0
FilledBy (Ok n) m ws w = walked (Ticked m) (filled_to n ws) ≡ w
FilledBy (Err e) m ws w = Stopped m ≡ w.end

-- the same of a rebuilding, which leaves no posting where it was stopped
abbrev pub posted : Result ℕ meter.Stopped → Meter → List ℕ → Walk Filled
posted (Ok n) m ws = walked (Ticked m) (filled_to n ws)
posted (Err e) m ws = walked (Stopped m) (filled_to 0 ws)

-- how a rebuilding ends: all postings in order, or none
unfoldable pub refiled : ℕ → List Row → Tick → Walk Filled
refiled tier rs (Ticked m) = walked (Ticked m) (filled_to (length (postings_of rs)) (filed tier false rs))
refiled tier rs (Stopped m) = walked (Stopped m) (filled_to 0 (filed tier true rs))

-- ---- what the functions ask: room in n words from a place on
pub record Postable (ws : List ℕ) (s : Side) (p at n : ℕ) : Type 0 where
  pub sound : Sound ws s
  pub low : Each (λ c. c < codes_wide code_bits) (list_of ws s)
  pub place : p < max_rows
  pub room : at + length (list_of ws s) ≤ n

pub record RowPostable (ws : List ℕ) (p at n : ℕ) : Type 0 where
  pub holds : Holds ws
  pub place : p < max_rows
  pub room : at + posting_words ≤ n

pub record RowsPostable (rows : ℕ) (ws : List ℕ) (n : ℕ) : Type 0 where
  pub held : Rows rows ws
  pub room : posting_words * rows ≤ n
