-- The calls of seed and deliver, by their two ways out, from what the parts of the code give. Assumes nothing.
use mathlib.Core.Path.{◌≡◌, ap, ap₂, ◌∙◌}
use mathlib.Core.List.{List, [], ◌∷◌}
use Prim.Native.Nat.{ℕ}
use Rattle.meter.specs.declared.Meter.{Meter}
use Rattle.model.specs.declared.Header.{Header}
use Rattle.model.specs.declared.TransferResult.{TransferResult}
use Rattle.model.specs.Operations.{seed, deliver}
use Rattle.contents.specs.Lent.{lent}
use Rattle.transfers.specs.Ends.{transfer_end}
use Rattle.wire.specs.declared.ReplyWords.{ReplyWords}
use Rattle.wire.specs.Words.{header_in, header_words, meter_in, meter_words}
use Rattle.model.specs.Answers.{replied, transfer_reply}
use Rattle.wire.specs.Replies.{left, reply_words, answer_words}
use Rattle.boundary.specs.Sharing.{seed_left, seed_call, deliver_left, deliver_call}
use Rattle.boundary.proofs.Leaving.{refused-way, done-way}
use Rattle.boundary.proofs.Calling.{number, answer-told}
use Rattle.boundary.proofs.SharingKeeps.{seed_lends, deliver_lends, seed-keeps, deliver-keeps}

-- both headers, answer and meter, then the slices
four : (a b c d : List ℕ) {x y v u : List ℕ} (ws : List (List ℕ)) → a ≡ x → b ≡ y → c ≡ v → d ≡ u → a ∷ b ∷ c ∷ d ∷ ws ≡ x ∷ y ∷ v ∷ u ∷ ws
four a b c d {x} {y} ws ex ey ev eu =
    ap₂ (λ (z t : List ℕ). z ∷ t ∷ c ∷ d ∷ ws) ex ey
    ∙ ap₂ (λ (z t : List ℕ). x ∷ y ∷ z ∷ t ∷ ws) ev eu

-- an operation on two ledgers, of the words that they are read from
module _ (tier store meter tier_slots tier_postings store_slots store_postings : List ℕ) (h : Header) (read_tier : h ≡ header_in tier)
    (g : Header) (read_store : g ≡ header_in store)
    (m : Meter) (metered : m ≡ meter_in meter) where
  read-seed : (seed (lent h tier_slots tier_postings) (lent g store_slots store_postings) m).seen
      ≡ (seed (lent (header_in tier) tier_slots tier_postings) (lent (header_in store) store_slots store_postings) (meter_in meter)).seen
  read-seed =
      ap₂ (λ (x y : Header). (seed (lent x tier_slots tier_postings) (lent y store_slots store_postings) m).seen) read_tier read_store
      ∙ ap (λ (x : Meter). (seed (lent (header_in tier) tier_slots tier_postings) (lent (header_in store) store_slots store_postings) x).seen)
      metered

  read-deliver : (deliver (lent h tier_slots tier_postings) (lent g store_slots store_postings) m).seen
      ≡ (deliver (lent (header_in tier) tier_slots tier_postings) (lent (header_in store) store_slots store_postings) (meter_in meter)).seen
  read-deliver =
      ap₂ (λ (x y : Header). (deliver (lent x tier_slots tier_postings) (lent y store_slots store_postings) m).seen) read_tier read_store
      ∙ ap (λ (x : Meter). (deliver (lent (header_in tier) tier_slots tier_postings) (lent (header_in store) store_slots store_postings) x).seen)
      metered

  module _ (answer : List ℕ) (w : ReplyWords) (r : TransferResult) (told : w ≡ reply_words (replied transfer_reply r.answer)) where
    module _ (s p : List ℕ)
        (ends : transfer_end r s p store_slots store_postings
        ≡ (seed (lent h tier_slots tier_postings) (lent g store_slots store_postings) m).seen) where
      pub seed-refused : (w.refusal ≡ 0 → ⊥) →
          left w.refusal (tier ∷ store ∷ answer ∷ meter ∷ s ∷ p ∷ [])
          ≡ seed_call tier store answer meter tier_slots tier_postings store_slots store_postings
      unfolding seed_call
      seed-refused nz =
          refused-way seed_left _ _ _ (ends ∙ read-seed) _ (number w _ told) _ nz
          (λ f. ap (λ (ws : List (List ℕ)). tier ∷ store ∷ answer ∷ meter ∷ ws) (ap seed_lends (ends ∙ read-seed) ∙ seed-keeps _ _ _ f))

      pub seed-done : (x y v u : List ℕ) → w.refusal ≡ 0 → x ≡ header_words r.tier → y ≡ header_words r.store
          → v ≡ answer_words w r.ticks → u ≡ meter_words r.meter →
          left 0 (x ∷ y ∷ v ∷ u ∷ s ∷ p ∷ []) ≡ seed_call tier store answer meter tier_slots tier_postings store_slots store_postings
      unfolding seed_call
      seed-done x y v u z ex ey ev eu =
          done-way seed_left _ _ _ (ends ∙ read-seed) _ (number w _ told) _ z
          (four x y v u (s ∷ p ∷ []) ex ey (answer-told w _ told v r.ticks ev) eu)

    module _ (s i j : List ℕ)
        (ends : transfer_end r s tier_postings i j
        ≡ (deliver (lent h tier_slots tier_postings) (lent g store_slots store_postings) m).seen) where
      pub deliver-refused : (w.refusal ≡ 0 → ⊥) →
          left w.refusal (tier ∷ store ∷ answer ∷ meter ∷ s ∷ i ∷ j ∷ [])
          ≡ deliver_call tier store answer meter tier_slots tier_postings store_slots store_postings
      unfolding deliver_call
      deliver-refused nz =
          refused-way deliver_left _ _ _ (ends ∙ read-deliver) _ (number w _ told) _ nz
          (λ f. ap (λ (ws : List (List ℕ)). tier ∷ store ∷ answer ∷ meter ∷ ws)
          (ap deliver_lends (ends ∙ read-deliver) ∙ deliver-keeps _ _ _ f))

      pub deliver-done : (x y v u : List ℕ) → w.refusal ≡ 0 → x ≡ header_words r.tier → y ≡ header_words r.store
          → v ≡ answer_words w r.ticks → u ≡ meter_words r.meter →
          left 0 (x ∷ y ∷ v ∷ u ∷ s ∷ i ∷ j ∷ []) ≡ deliver_call tier store answer meter tier_slots tier_postings store_slots store_postings
      unfolding deliver_call
      deliver-done x y v u z ex ey ev eu =
          done-way deliver_left _ _ _ (ends ∙ read-deliver) _ (number w _ told) _ z
          (four x y v u (s ∷ i ∷ j ∷ []) ex ey (answer-told w _ told v r.ticks ev) eu)
