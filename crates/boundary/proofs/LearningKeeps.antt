-- 01: "A refusal .. touches no lent word." Of offer, candidates and close, by their definitions. Assumes nothing.
use mathlib.Core.Path.{◌≡◌, refl}
use mathlib.Core.Bool.{Bool, true, false, ◌&&◌}
use mathlib.Core.List.{List, [], ◌∷◌}
use mathlib.Core.Option.{Option, none, some}
use Prim.Native.Nat.{ℕ}
use lib.Dec.{eqb}
use lib.ListN.{length}
use Rattle.words.specs.Region.{region}
use Rattle.meter.specs.declared.Meter.{Meter}
use Rattle.model.specs.Retention.{Outcome, Stops, Declines, Subsumes, Adds, can_capture}
use Rattle.model.specs.Closing.{Turn, going, conflict, halted, closing}
use Rattle.model.specs.Refusals.{Lent, refusal, accepts, ledger_in}
use Rattle.model.specs.Operations.{OfferEnd, Offered, CandidatesEnd, CloseEnd}
use Rattle.model.specs.Operations.{offer, capture, unoffered, offer_answer, offer_tests, candidates}
use Rattle.model.specs.Operations.{candidates_answer, close, close_end, closed_by, region_ok}
use Rattle.model.specs.Answers.{replied, offer_reply, candidates_reply}
use Rattle.wire.specs.Replies.{reply_words, close_words}
use Rattle.boundary.proofs.Leaving.{keeps}

-- the slices that each writes
abbrev pub offer_lends : OfferEnd → List (List ℕ)
offer_lends e = e.ledger.slots ∷ e.ledger.postings ∷ []

abbrev pub candidates_lends : CandidatesEnd → List (List ℕ)
candidates_lends e = e.ledger.postings ∷ e.found ∷ []

abbrev pub close_lends : CloseEnd → List (List ℕ)
close_lends e = e.ledger.slots ∷ e.ledger.postings ∷ e.region.held ∷ e.region.cut ∷ e.row_scratch ∷ e.atom_scratch ∷ []

-- ---- no answer of an operation that was not refused has a refusal's number
offered : (o : Outcome) → (reply_words (offer_reply (offer_answer o))).refusal ≡ 0
unfolding offer_answer
offered Stops = refl
offered Declines = refl
offered (Subsumes p) = refl
offered (Adds p) = refl

taken : {E : Type 0} (result : E → ℕ) (b : Bool) (x y : E) → result x ≡ 0 → result y ≡ 0 → result (elim b [ true ↦ x | false ↦ y ]) ≡ 0
taken result true x y p q = p
taken result false x y p q = q

searched : (o : Option (List ℕ)) → (reply_words (candidates_reply (candidates_answer o))).refusal ≡ 0
unfolding candidates_answer
searched none = refl
searched (some ps) = refl

abbrev close_number : CloseEnd → ℕ
close_number e = (close_words e.answer e.contradicted).refusal

closed : (t : Turn) (x y : List ℕ) (m : Meter) → close_number (closed_by t x y m) ≡ 0
unfolding close_end
closed (going t) x y m = refl
closed (conflict t) x y m = refl
closed (halted t) x y m = refl

-- ---- what is refused keeps what was lent
pub offer-keeps : (s : Lent) (c o : List ℕ) (source : ℕ) (m : Meter)
    → ((reply_words (offer s c o source m).seen.answer).refusal ≡ 0 → ⊥) → offer_lends (offer s c o source m).seen
    ≡ s.slots ∷ s.postings ∷ []
unfolding offer capture unoffered
offer-keeps s c o source m =
    keeps (λ (e : Offered). (reply_words e.seen.answer).refusal) (λ (e : Offered). offer_lends e.seen) (s.slots ∷ s.postings ∷ [])
    (refusal (accepts s true (offer_tests s.header.limits (record { conditions = c; outputs = o }) source))) _ _ (λ n. refl)
    (taken (λ (e : Offered). (reply_words e.seen.answer).refusal) (can_capture (ledger_in s)) _ _ (offered _) refl)

pub candidates-keeps : (s : Lent) (atoms buffer : List ℕ) (m : Meter)
    → ((reply_words (candidates s atoms buffer m).answer).refusal ≡ 0 → ⊥) →
    candidates_lends (candidates s atoms buffer m) ≡ s.postings ∷ buffer ∷ []
unfolding candidates
candidates-keeps s atoms buffer m =
    keeps (λ (e : CandidatesEnd). (reply_words e.answer).refusal) candidates_lends (s.postings ∷ buffer ∷ [])
    (refusal (accepts s (eqb (length buffer) s.header.limits.tier_rows) [])) _ _ (λ n. refl) (searched _)

pub close-keeps : (s : Lent) (held cut x y : List ℕ) (m : Meter) → (close_number (close s held cut x y m) ≡ 0 → ⊥) →
    close_lends (close s held cut x y m) ≡ s.slots ∷ s.postings ∷ held ∷ cut ∷ x ∷ y ∷ []
unfolding close close_end
close-keeps s held cut x y m =
    keeps close_number close_lends (s.slots ∷ s.postings ∷ held ∷ cut ∷ x ∷ y ∷ [])
    (refusal
    (accepts s (eqb (length x) s.header.limits.tier_rows && eqb (length y) s.header.limits.atoms)
    ((region_ok s held cut, 6) ∷ []))) _ _ (λ n. refl)
    (closed (closing (ledger_in s) (region held cut) m) x y m)
