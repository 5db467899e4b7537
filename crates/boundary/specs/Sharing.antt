-- 01, Refusal numbers by operation, as seen from C, of the operations between two ledgers: seed and deliver.
-- Each names the words that it may write, in the order of the function's parameters:
-- a seeding leaves the store's rows, a delivery the tier's postings. Assumes nothing.
use Rattle.std.specs.Prelude.{List, [], ◌∷◌, ℕ}
use Rattle.model.specs.Operations.{TransferEnd, seed, deliver}
use Rattle.contents.specs.Lent.{lent}
use Rattle.wire.specs.Words.{header_in, header_words, meter_in, meter_words}
use Rattle.wire.specs.Replies.{Left, left, reply_words, answer_words}
use Rattle.boundary.specs.Calls.{leaves}

-- ---- Seed: the tier takes rows, and the store counts them
abbrev pub seed_left : TransferEnd → Left
seed_left e =
    left (reply_words e.answer).refusal
    (header_words e.tier.header
    ∷ header_words e.store.header
    ∷ answer_words (reply_words e.answer) e.ticks
    ∷ meter_words e.meter
    ∷ e.tier.slots
    ∷ e.tier.postings
    ∷ [])

unfoldable pub seed_call : List ℕ → List ℕ → List ℕ → List ℕ → List ℕ → List ℕ → List ℕ → List ℕ → Left
seed_call tier store answer meter tier_slots tier_postings store_slots store_postings =
    leaves (tier ∷ store ∷ answer ∷ meter ∷ tier_slots ∷ tier_postings ∷ [])
    (seed_left (seed (lent (header_in tier) tier_slots tier_postings) (lent (header_in store) store_slots store_postings) (meter_in meter)).seen)

-- ---- Deliver: the store takes rows, and the tier notes them as delivered
abbrev pub deliver_left : TransferEnd → Left
deliver_left e =
    left (reply_words e.answer).refusal
    (header_words e.tier.header
    ∷ header_words e.store.header
    ∷ answer_words (reply_words e.answer) e.ticks
    ∷ meter_words e.meter
    ∷ e.tier.slots
    ∷ e.store.slots
    ∷ e.store.postings
    ∷ [])

unfoldable pub deliver_call : List ℕ → List ℕ → List ℕ → List ℕ → List ℕ → List ℕ → List ℕ → List ℕ → Left
deliver_call tier store answer meter tier_slots tier_postings store_slots store_postings =
    leaves (tier ∷ store ∷ answer ∷ meter ∷ tier_slots ∷ store_slots ∷ store_postings ∷ [])
    (deliver_left
    (deliver (lent (header_in tier) tier_slots tier_postings) (lent (header_in store) store_slots store_postings) (meter_in meter)).seen)
