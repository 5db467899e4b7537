-- 01, Refusal numbers by operation, as seen from C: what each call leaves in the words that it was lent, from the operation's definition.
-- The words stand in the order of the function's parameters. Assumes nothing.
use Rattle.std.specs.Prelude.{List, [], ◌∷◌, ℕ, zero, suc}
use Rattle.model.specs.Operations.{MakeEnd, BeginEnd, HitEnd, DeduceEnd, NextEnd, DecideEnd, make, begin, hit, deduce, next_output, decide}
use Rattle.contents.specs.Lent.{lent}
use Rattle.wire.specs.Words.{flag_in, limits_in, header_in, header_words, meter_in, meter_words, cursor_in, cursor_words}
use Rattle.wire.specs.Replies.{Left, left, reply_words, answer_words, made_words}

-- refused: the number, and every word as it was
abbrev pub unless_refused : List (List ℕ) → ℕ → List (List ℕ) → Left
unless_refused old zero new = left 0 new
unless_refused old (suc n) new = left (suc n) old

abbrev pub leaves : List (List ℕ) → Left → Left
leaves old l = unless_refused old l.result l.words

-- ---- Make
abbrev pub make_left : List ℕ → MakeEnd → Left
make_left head e =
    left (reply_words e.answer).refusal
    (made_words e.header head ∷ answer_words (reply_words e.answer) e.ticks ∷ e.slots ∷ e.postings ∷ [])

unfoldable pub make_call : List ℕ → ℕ → List ℕ → List ℕ → List ℕ → List ℕ → Left
make_call limits number head answer slots postings =
    leaves (head ∷ answer ∷ slots ∷ postings ∷ []) (make_left head (make (limits_in limits) number slots postings))

-- ---- Begin
abbrev pub begin_left : BeginEnd → Left
begin_left e =
    left (reply_words e.answer).refusal
    (header_words e.ledger.header ∷ answer_words (reply_words e.answer) e.ticks ∷ [])

unfoldable pub begin_call : List ℕ → List ℕ → List ℕ → List ℕ → Left
begin_call head answer slots postings =
    leaves (head ∷ answer ∷ []) (begin_left (begin (lent (header_in head) slots postings)))

-- ---- Hit
abbrev pub hit_left : HitEnd → Left
hit_left e =
    left (reply_words e.answer).refusal
    (header_words e.ledger.header ∷ answer_words (reply_words e.answer) e.ticks ∷ e.ledger.slots ∷ [])

unfoldable pub hit_call : List ℕ → List ℕ → List ℕ → List ℕ → ℕ → Left
hit_call head answer slots postings p =
    leaves (head ∷ answer ∷ slots ∷ []) (hit_left (hit (lent (header_in head) slots postings) p))

-- ---- Deduce
abbrev pub deduce_left : DeduceEnd → Left
deduce_left e =
    left (reply_words e.answer).refusal
    (answer_words (reply_words e.answer) e.ticks ∷ meter_words e.meter ∷ [])

unfoldable pub deduce_call : List ℕ → List ℕ → List ℕ → List ℕ → List ℕ → ℕ → List ℕ → List ℕ → Left
deduce_call head answer meter slots postings p held cut =
    leaves (answer ∷ meter ∷ [])
    (deduce_left (deduce (lent (header_in head) slots postings) p held cut (meter_in meter)))

-- ---- Next output
abbrev pub output_left : NextEnd → Left
output_left e =
    left (reply_words e.answer).refusal
    (answer_words (reply_words e.answer) e.ticks ∷ meter_words e.meter ∷ cursor_words e.cursor ∷ [])

unfoldable pub output_call : List ℕ → List ℕ → List ℕ → List ℕ → List ℕ → List ℕ → ℕ → List ℕ → List ℕ → Left
output_call head answer meter cursor slots postings p held cut =
    leaves (answer ∷ meter ∷ cursor ∷ [])
    (output_left (next_output (lent (header_in head) slots postings) p (cursor_in cursor) held cut (meter_in meter)))

-- ---- Decide
abbrev pub decide_left : DecideEnd → Left
decide_left e =
    left (reply_words e.answer).refusal
    (answer_words (reply_words e.answer) e.ticks ∷ e.region.held ∷ e.region.cut ∷ [])

unfoldable pub decide_call : List ℕ → ℕ → List ℕ → List ℕ → ℕ → ℕ → Left
decide_call answer atoms held cut atom value =
    leaves (answer ∷ held ∷ cut ∷ []) (decide_left (decide atoms held cut atom (flag_in value)))
