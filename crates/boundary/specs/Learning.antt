-- 01, Refusal numbers by operation, as seen from C, of the operations with a meter that write a ledger: offer, candidates, close.
-- The words stand in the order of the function's parameters. Assumes nothing.
use Rattle.std.specs.Prelude.{List, [], ◌∷◌, ℕ}
use Rattle.model.specs.Operations.{OfferEnd, CandidatesEnd, CloseEnd, offer, candidates, close}
use Rattle.contents.specs.Lent.{lent}
use Rattle.wire.specs.Words.{header_in, header_words, meter_in, meter_words}
use Rattle.wire.specs.Replies.{Left, left, reply_words, close_words, answer_words}
use Rattle.boundary.specs.Calls.{leaves}

-- ---- Offer
abbrev pub offer_left : OfferEnd → Left
offer_left e =
    left (reply_words e.answer).refusal
    (header_words e.ledger.header
    ∷ answer_words (reply_words e.answer) e.ticks
    ∷ meter_words e.meter
    ∷ e.ledger.slots
    ∷ e.ledger.postings
    ∷ [])

unfoldable pub offer_call : List ℕ → List ℕ → List ℕ → List ℕ → List ℕ → List ℕ → List ℕ → ℕ → Left
offer_call head answer meter slots postings conditions outputs source =
    leaves (head ∷ answer ∷ meter ∷ slots ∷ postings ∷ [])
    (offer_left (offer (lent (header_in head) slots postings) conditions outputs source (meter_in meter)).seen)

-- ---- Candidates
abbrev pub candidates_left : CandidatesEnd → Left
candidates_left e =
    left (reply_words e.answer).refusal
    (header_words e.ledger.header
    ∷ answer_words (reply_words e.answer) e.ticks
    ∷ meter_words e.meter
    ∷ e.ledger.postings
    ∷ e.found
    ∷ [])

unfoldable pub candidates_call : List ℕ → List ℕ → List ℕ → List ℕ → List ℕ → List ℕ → List ℕ → Left
candidates_call head answer meter slots postings atoms found =
    leaves (head ∷ answer ∷ meter ∷ postings ∷ found ∷ [])
    (candidates_left (candidates (lent (header_in head) slots postings) atoms found (meter_in meter)))

-- ---- Close
abbrev pub close_left : CloseEnd → Left
close_left e =
    left (close_words e.answer e.contradicted).refusal
    (header_words e.ledger.header
    ∷ answer_words (close_words e.answer e.contradicted) e.ticks
    ∷ meter_words e.meter
    ∷ e.ledger.slots
    ∷ e.ledger.postings
    ∷ e.region.held
    ∷ e.region.cut
    ∷ e.row_scratch
    ∷ e.atom_scratch
    ∷ [])

unfoldable pub close_call : List ℕ → List ℕ → List ℕ → List ℕ → List ℕ → List ℕ → List ℕ → List ℕ → List ℕ → Left
close_call head answer meter slots postings held cut rows atoms =
    leaves (head ∷ answer ∷ meter ∷ slots ∷ postings ∷ held ∷ cut ∷ rows ∷ atoms ∷ [])
    (close_left (close (lent (header_in head) slots postings) held cut rows atoms (meter_in meter)))
