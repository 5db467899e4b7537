-- 01: "A refusal .. touches no lent word." Of each operation that writes lent slices, by its definition. Assumes nothing.
use mathlib.Core.Path.{◌≡◌, refl}
use mathlib.Core.Bool.{Bool, true, ◌&&◌}
use mathlib.Core.List.{List, [], ◌∷◌}
use Prim.Native.Nat.{ℕ, ◌*◌}
use lib.Dec.{eqb}
use lib.ListN.{length}
use Rattle.words.specs.Region.{is_region, decide as decide_region, region}
use Rattle.words.specs.Literal.{code}
use Rattle.model.specs.declared.LearningLimits.{LearningLimits}
use Rattle.model.specs.Records.{limits_ok, slot_words, posting_words}
use Rattle.model.specs.Refusals.{Lent, refusal, accepts}
use Rattle.model.specs.Operations.{MakeEnd, HitEnd, DecideEnd, make, hit, decide, position_ok}
use Rattle.wire.specs.Replies.{reply_words}
use Rattle.boundary.proofs.Leaving.{keeps, neither}

-- the slices that each writes
abbrev pub make_lends : MakeEnd → List (List ℕ)
make_lends e = e.slots ∷ e.postings ∷ []

abbrev pub hit_lends : HitEnd → List (List ℕ)
hit_lends e = e.ledger.slots ∷ []

abbrev pub decide_lends : DecideEnd → List (List ℕ)
decide_lends e = e.region.held ∷ e.region.cut ∷ []

pub make-keeps : (l : LearningLimits) (number : ℕ) (slots postings : List ℕ)
    → ((reply_words (make l number slots postings).answer).refusal ≡ 0 → ⊥) →
    make_lends (make l number slots postings) ≡ slots ∷ postings ∷ []
unfolding make
make-keeps l number slots postings =
    keeps (λ (e : MakeEnd). (reply_words e.answer).refusal) make_lends (slots ∷ postings ∷ [])
    (refusal
    ((limits_ok l, 1) ∷ (eqb (length slots) (slot_words * l.tier_rows) && eqb (length postings) (posting_words * l.tier_rows), 2) ∷ []))
    _ _
    (λ n. refl) refl

pub hit-keeps : (s : Lent) (p : ℕ) → ((reply_words (hit s p).answer).refusal ≡ 0 → ⊥) → hit_lends (hit s p) ≡ s.slots ∷ []
unfolding hit
hit-keeps s p =
    keeps (λ (e : HitEnd). (reply_words e.answer).refusal) hit_lends (s.slots ∷ [])
    (refusal (accepts s true ((position_ok s p, 5) ∷ []))) _ _
    (λ n. refl) refl

pub decide-keeps : (n : ℕ) (held cut : List ℕ) (a : ℕ) (present : Bool)
    → ((reply_words (decide n held cut a present).answer).refusal ≡ 0 → ⊥) →
    decide_lends (decide n held cut a present) ≡ held ∷ cut ∷ []
unfolding decide
decide-keeps n held cut a present =
    keeps (λ (e : DecideEnd). (reply_words e.answer).refusal) decide_lends (held ∷ cut ∷ [])
    (refusal ((is_region n (region held cut), 6) ∷ [])) _ _
    (λ k. refl)
    (neither (λ (e : DecideEnd). (reply_words e.answer).refusal) (decide_region n (region held cut) (code a present)) _ _ (λ r. refl) refl)
