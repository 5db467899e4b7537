-- The calls of offer, candidates and close, by their two ways out, from what the parts of the code give. Assumes nothing.
use mathlib.Core.Path.{◌≡◌, ap, ap₂, ◌∙◌}
use mathlib.Core.List.{List, [], ◌∷◌}
use Prim.Native.Nat.{ℕ}
use Rattle.meter.specs.declared.Meter.{Meter}
use Rattle.model.specs.declared.Header.{Header}
use Rattle.model.specs.declared.OfferResult.{OfferResult}
use Rattle.model.specs.declared.CandidatesResult.{CandidatesResult}
use Rattle.model.specs.declared.CloseResult.{CloseResult}
use Rattle.model.specs.Operations.{offer, candidates, close}
use Rattle.contents.specs.Lent.{lent}
use Rattle.offer.specs.Ends.{offer_end}
use Rattle.postings_search.specs.Ends.{candidates_end}
use Rattle.close.specs.Ends.{closed_end}
use Rattle.wire.specs.declared.ReplyWords.{ReplyWords}
use Rattle.wire.specs.Words.{header_in, header_words, meter_in, meter_words}
use Rattle.model.specs.Answers.{replied, offer_reply, candidates_reply, close_reply, contradicted_reply}
use Rattle.wire.specs.Replies.{left, reply_words, close_words, answer_words}
use Rattle.boundary.specs.Learning.{offer_left, offer_call, candidates_left, candidates_call, close_left, close_call}
use Rattle.boundary.proofs.Leaving.{refused-way, done-way}
use Rattle.boundary.proofs.Calling.{number, answer-told}
use Rattle.boundary.proofs.LearningKeeps.{offer_lends, candidates_lends, close_lends, offer-keeps, candidates-keeps, close-keeps}

-- header, answer and meter, then the slices
three : (a b c : List ℕ) {x y v : List ℕ} (ws : List (List ℕ)) → a ≡ x → b ≡ y → c ≡ v → a ∷ b ∷ c ∷ ws ≡ x ∷ y ∷ v ∷ ws
three a b c {x} ws ex ey ev =
    ap (λ (z : List ℕ). z ∷ b ∷ c ∷ ws) ex
    ∙ ap₂ (λ (z u : List ℕ). x ∷ z ∷ u ∷ ws) ey ev

module _ (head answer meter slots postings : List ℕ) (h : Header) (read : h ≡ header_in head) (m : Meter) (metered : m ≡ meter_in meter)
    (w : ReplyWords) where
  module _ (atoms found : List ℕ) (r : CandidatesResult) (p f : List ℕ)
      (ends : candidates_end r slots p f ≡ candidates (lent h slots postings) atoms found m)
      (told : w ≡ reply_words (replied candidates_reply r.answer)) where
    candidates-end : candidates_end r slots p f ≡ candidates (lent (header_in head) slots postings) atoms found (meter_in meter)
    candidates-end = ends ∙ ap₂ (λ (x : Header) (y : Meter). candidates (lent x slots postings) atoms found y) read metered

    pub candidates-refused : (w.refusal ≡ 0 → ⊥) →
        left w.refusal (head ∷ answer ∷ meter ∷ p ∷ f ∷ []) ≡ candidates_call head answer meter slots postings atoms found
    unfolding candidates_call
    candidates-refused nz =
        refused-way candidates_left _ _ _ candidates-end _ (number w _ told) _ nz
        (λ g. ap (λ (ws : List (List ℕ)). head ∷ answer ∷ meter ∷ ws)
        (ap candidates_lends candidates-end ∙ candidates-keeps _ atoms found _ g))

    pub candidates-done : (x y v : List ℕ) → w.refusal ≡ 0 → x ≡ header_words r.header → y ≡ answer_words w r.ticks
        → v ≡ meter_words r.meter →
        left 0 (x ∷ y ∷ v ∷ p ∷ f ∷ []) ≡ candidates_call head answer meter slots postings atoms found
    unfolding candidates_call
    candidates-done x y v z ex ey ev =
        done-way candidates_left _ _ _ candidates-end _ (number w _ told) _ z
        (three x y v (p ∷ f ∷ []) ex (answer-told w _ told y r.ticks ey) ev)

  module _ (conditions outputs : List ℕ) (source : ℕ) (r : OfferResult) (s p : List ℕ)
      (ends : offer_end r s p ≡ (offer (lent h slots postings) conditions outputs source m).seen)
      (told : w ≡ reply_words (replied offer_reply r.answer)) where
    offer-end : offer_end r s p ≡ (offer (lent (header_in head) slots postings) conditions outputs source (meter_in meter)).seen
    offer-end = ends ∙ ap₂ (λ (x : Header) (y : Meter). (offer (lent x slots postings) conditions outputs source y).seen) read metered

    pub offer-refused : (w.refusal ≡ 0 → ⊥) →
        left w.refusal (head ∷ answer ∷ meter ∷ s ∷ p ∷ []) ≡ offer_call head answer meter slots postings conditions outputs source
    unfolding offer_call
    offer-refused nz =
        refused-way offer_left _ _ _ offer-end _ (number w _ told) _ nz
        (λ g. ap (λ (ws : List (List ℕ)). head ∷ answer ∷ meter ∷ ws)
        (ap offer_lends offer-end ∙ offer-keeps _ conditions outputs source _ g))

    pub offer-done : (x y v : List ℕ) → w.refusal ≡ 0 → x ≡ header_words r.header → y ≡ answer_words w r.ticks
        → v ≡ meter_words r.meter →
        left 0 (x ∷ y ∷ v ∷ s ∷ p ∷ []) ≡ offer_call head answer meter slots postings conditions outputs source
    unfolding offer_call
    offer-done x y v z ex ey ev =
        done-way offer_left _ _ _ offer-end _ (number w _ told) _ z
        (three x y v (s ∷ p ∷ []) ex (answer-told w _ told y r.ticks ey) ev)

  module _ (held cut rows atoms : List ℕ) (r : CloseResult) (s p a b i j : List ℕ)
      (ends : closed_end r s p a b i j ≡ close (lent h slots postings) held cut rows atoms m)
      (told : w ≡ close_words (replied close_reply r.answer) (contradicted_reply r.contradicted)) where
    close-end : closed_end r s p a b i j ≡ close (lent (header_in head) slots postings) held cut rows atoms (meter_in meter)
    close-end = ends ∙ ap₂ (λ (x : Header) (y : Meter). close (lent x slots postings) held cut rows atoms y) read metered

    pub close-refused : (w.refusal ≡ 0 → ⊥) →
        left w.refusal (head ∷ answer ∷ meter ∷ s ∷ p ∷ a ∷ b ∷ i ∷ j ∷ [])
        ≡ close_call head answer meter slots postings held cut rows atoms
    unfolding close_call
    close-refused nz =
        refused-way close_left _ _ _ close-end _ (number w _ told) _ nz
        (λ g. ap (λ (ws : List (List ℕ)). head ∷ answer ∷ meter ∷ ws) (ap close_lends close-end ∙ close-keeps _ held cut rows atoms _ g))

    pub close-done : (x y v : List ℕ) → w.refusal ≡ 0 → x ≡ header_words r.header → y ≡ answer_words w r.ticks
        → v ≡ meter_words r.meter →
        left 0 (x ∷ y ∷ v ∷ s ∷ p ∷ a ∷ b ∷ i ∷ j ∷ []) ≡ close_call head answer meter slots postings held cut rows atoms
    unfolding close_call
    close-done x y v z ex ey ev =
        done-way close_left _ _ _ close-end _ (number w _ told) _ z
        (three x y v (s ∷ p ∷ a ∷ b ∷ i ∷ j ∷ []) ex (answer-told w _ told y r.ticks ey) ev)
