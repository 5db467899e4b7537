-- 01: "A refusal .. touches no lent word." Of seed and deliver, by their definitions. Assumes nothing.
use mathlib.Core.Path.{◌≡◌, refl}
use mathlib.Core.List.{List, [], ◌∷◌}
use Prim.Native.Nat.{ℕ}
use Rattle.meter.specs.declared.Meter.{Meter}
use Rattle.model.specs.Transfers.{Progress, whole, declined, stopped}
use Rattle.model.specs.Refusals.{Lent}
use Rattle.model.specs.Operations.{TransferEnd, Transferred, seed, deliver, transfer_refusal, untransferred, transferred, transfer_answer}
use Rattle.model.specs.Answers.{replied, transfer_reply}
use Rattle.wire.specs.Replies.{reply_words}
use Rattle.boundary.proofs.Leaving.{keeps}

-- the slices that each writes
abbrev pub seed_lends : TransferEnd → List (List ℕ)
seed_lends e = e.tier.slots ∷ e.tier.postings ∷ []

abbrev pub deliver_lends : TransferEnd → List (List ℕ)
deliver_lends e = e.tier.slots ∷ e.store.slots ∷ e.store.postings ∷ []

-- no answer of a transfer that was not refused has a refusal's number
answers : (r : Progress) → (reply_words (transfer_reply (transfer_answer r))).refusal ≡ 0
unfolding transfer_answer
answers whole = refl
answers declined = refl
answers stopped = refl

module _ (t s : Lent) (m : Meter) where
  pub seed-keeps : ((reply_words (seed t s m).seen.answer).refusal ≡ 0 → ⊥) → seed_lends (seed t s m).seen ≡ t.slots ∷ t.postings ∷ []
  unfolding seed untransferred transferred
  seed-keeps =
      keeps (λ (e : Transferred). (reply_words e.seen.answer).refusal) (λ (e : Transferred). seed_lends e.seen)
      (t.slots ∷ t.postings ∷ [])
      (transfer_refusal t s) _ _ (λ n. refl) (answers _)

  pub deliver-keeps : ((reply_words (deliver t s m).seen.answer).refusal ≡ 0 → ⊥)
      → deliver_lends (deliver t s m).seen ≡ t.slots ∷ s.slots ∷ s.postings ∷ []
  unfolding deliver untransferred transferred
  deliver-keeps =
      keeps (λ (e : Transferred). (reply_words e.seen.answer).refusal) (λ (e : Transferred). deliver_lends e.seen)
      (t.slots ∷ s.slots ∷ s.postings ∷ [])
      (transfer_refusal t s) _ _ (λ n. refl) (answers _)
