-- 01, module 4: `next_publication_output` by the words of a side: what is given next, and the cursor after it. Assumes nothing.
use Rattle.std.specs.Prelude.{◌≡◌, Bool, true, false, ◌&&◌, List, ℕ, suc, ◌+◌, ◌≤◌, ◌<◌, eqb, leb, length, get_or}
use Rattle.std.specs.Prelude.{Option, Some, None, Result, Ok, Err}
use Rattle.words.specs.Literal.{code_bits, words_wide}
use Rattle.words.specs.Region.{Region}
use Rattle.meter.specs.declared.Meter.{Meter}
use Rattle.meter.specs.declared.Stopped as error
use Rattle.meter.specs.Tick.{Tick, Ticked, Stopped}
use Rattle.meter.specs.Meter.{tick_of}
use Rattle.model.specs.declared.Literal.{Literal}
use Rattle.model.specs.declared.OutputCursor.{OutputCursor}
use Rattle.model.specs.Records.{Row}
use Rattle.model.specs.Rows.{groups, packed}
use Rattle.model.specs.Slots.{index_of, bits_of}
use Rattle.model.specs.Deduction.{Next, Published, published, output, stopped, end, failing}
use Rattle.model.specs.Operations.{bits_among}
use Rattle.slots.specs.declared.Side.{Side}
use Rattle.row_deduce.specs.declared.Group.{Group}

-- what is given next by a function's result, with the cursor and the meter that it leaves
abbrev pub next_of : Result (Option Literal) error.Stopped → Next
next_of (Ok None) = end
next_of (Ok (Some c)) = output c.0
next_of (Err e) = stopped

abbrev pub published_as : Result (Option Literal) error.Stopped → OutputCursor → Meter → Published
published_as x k m = published (next_of x) k m

-- the cursor past group `next`, loaded without what is true in the region
abbrev pub loaded_from : Region → List ℕ → ℕ → OutputCursor
loaded_from r g next =
    record { next = suc next; word = index_of g; present = bits_of true (failing r g); absent = bits_of false (failing r g) }

-- the code at the cursor of a scalar side
abbrev pub single_given : ℕ → OutputCursor → Tick → Published
single_given c k (Stopped n) = published stopped k n
single_given c k (Ticked n) = published (output c) (record { next = suc k.next; word = 0; present = 0; absent = 0 }) n

unfoldable pub single_next : List ℕ → Side → OutputCursor → Meter → Published
single_next ws s k m =
    elim (leb s.count k.next) [ true ↦ published end k m | false ↦ single_given (get_or ws (s.base + k.next) 0) k (tick_of m) ]

-- word and bits of a cursor are of the group of these words
abbrev pub of_words : OutputCursor → Group → Bool
of_words k g = eqb k.word g.index && (bits_among k.present g.present && bits_among k.absent g.absent)

-- a cursor that stands in the outputs of a packed row: refusal 8 leaves no other, and every call gives back such a one
pub record Pointed (t : Row) (k : OutputCursor) : Type 0 where
  pub next : packed t ≡ true → k.next ≤ length (groups t.outputs)
  pub word : packed t ≡ true → k.word < words_wide code_bits
