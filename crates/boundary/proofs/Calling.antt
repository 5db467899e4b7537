-- The calls, by their two ways out, from what the parts of the code give. Assumes nothing.
use mathlib.Core.Path.{◌≡◌, refl, ap, ap₂, ◌∙◌}
use mathlib.Core.List.{List, [], ◌∷◌}
use Prim.Native.Nat.{ℕ}
use Rattle.meter.specs.declared.Meter.{Meter}
use Rattle.model.specs.declared.LearningLimits.{LearningLimits}
use Rattle.model.specs.declared.Header.{Header}
use Rattle.model.specs.declared.OutputCursor.{OutputCursor}
use Rattle.model.specs.declared.MakeResult.{MakeResult}
use Rattle.model.specs.declared.BeginResult.{BeginResult}
use Rattle.model.specs.declared.HitResult.{HitResult}
use Rattle.model.specs.declared.DeduceResult.{DeduceResult}
use Rattle.model.specs.declared.NextResult.{NextResult}
use Rattle.model.specs.declared.DecideResult.{DecideResult}
use Rattle.model.specs.Operations.{make, begin, hit, deduce, next_output, decide}
use Rattle.contents.specs.Lent.{lent}
use Rattle.operations.specs.Ends.{make_end, begin_end, hit_end, deduce_end, output_end, decide_end}
use Rattle.wire.specs.declared.ReplyWords.{ReplyWords}
use Rattle.wire.specs.Words.{flag_in, limits_in, header_in, header_words, meter_in, meter_words, cursor_in, cursor_words}
use Rattle.model.specs.Answers.{replied, make_reply, made_header, begin_reply, hit_reply, deduce_reply, next_reply, decide_reply}
use Rattle.wire.specs.Replies.{left, reply_words, answer_words, made_words}
use Rattle.boundary.specs.Calls.{make_left, make_call, begin_left, begin_call, hit_left, hit_call, deduce_left, deduce_call, output_left}
use Rattle.boundary.specs.Calls.{output_call, decide_left, decide_call}
use Rattle.boundary.proofs.Leaving.{refused-way, done-way}
use Rattle.boundary.proofs.Keeping.{make_lends, hit_lends, decide_lends, make-keeps, hit-keeps, decide-keeps}

module _ (w t : ReplyWords) (told : w ≡ t) where
  pub number : w.refusal ≡ t.refusal
  number = ap (λ (x : ReplyWords). x.refusal) told

  pub answer-told : (y : List ℕ) (ticks : ℕ) → y ≡ answer_words w ticks → y ≡ answer_words t ticks
  answer-told y ticks e = e ∙ ap (λ (x : ReplyWords). answer_words x ticks) told

module _ (limits : List ℕ) (n : ℕ) (head answer slots postings : List ℕ) (l : LearningLimits) (read : l ≡ limits_in limits) (r : MakeResult)
    (s p : List ℕ)
    (ends : make_end r s p ≡ make l n slots postings) (w : ReplyWords) (told : w ≡ reply_words (replied make_reply r.answer)) where
  make-end : make_end r s p ≡ make (limits_in limits) n slots postings
  make-end = ends ∙ ap (λ (x : LearningLimits). make x n slots postings) read

  pub make-refused : (w.refusal ≡ 0 → ⊥) → left w.refusal (head ∷ answer ∷ s ∷ p ∷ []) ≡ make_call limits n head answer slots postings
  unfolding make_call
  make-refused f =
      refused-way (make_left head) _ _ _ make-end _ (number w _ told) _ f
      (λ g. ap (λ (ws : List (List ℕ)). head ∷ answer ∷ ws) (ap make_lends make-end ∙ make-keeps _ n slots postings g))

  pub make-done : (x y : List ℕ) → w.refusal ≡ 0 → x ≡ made_words (made_header r.answer) head → y ≡ answer_words w r.ticks →
      left 0 (x ∷ y ∷ s ∷ p ∷ []) ≡ make_call limits n head answer slots postings
  unfolding make_call
  make-done x y z ex ey =
      done-way (make_left head) _ _ _ make-end _ (number w _ told) _ z
      (ap₂ (λ (a b : List ℕ). a ∷ b ∷ s ∷ p ∷ []) ex (answer-told w _ told y r.ticks ey))

module _ (head answer slots postings : List ℕ) (h : Header) (read : h ≡ header_in head) (w : ReplyWords) where
  module _ (r : BeginResult) (ends : begin_end r slots postings ≡ begin (lent h slots postings))
      (told : w ≡ reply_words (replied begin_reply r.answer)) where
    begin-end : begin_end r slots postings ≡ begin (lent (header_in head) slots postings)
    begin-end = ends ∙ ap (λ (x : Header). begin (lent x slots postings)) read

    pub begin-refused : (w.refusal ≡ 0 → ⊥) → left w.refusal (head ∷ answer ∷ []) ≡ begin_call head answer slots postings
    unfolding begin_call
    begin-refused f = refused-way begin_left _ _ _ begin-end _ (number w _ told) _ f (λ g. refl)

    pub begin-done : (x y : List ℕ) → w.refusal ≡ 0 → x ≡ header_words r.header → y ≡ answer_words w r.ticks →
        left 0 (x ∷ y ∷ []) ≡ begin_call head answer slots postings
    unfolding begin_call
    begin-done x y z ex ey =
        done-way begin_left _ _ _ begin-end _ (number w _ told) _ z
        (ap₂ (λ (a b : List ℕ). a ∷ b ∷ []) ex (answer-told w _ told y r.ticks ey))

  module _ (p : ℕ) (r : HitResult) (s : List ℕ) (ends : hit_end r s postings ≡ hit (lent h slots postings) p)
      (told : w ≡ reply_words (replied hit_reply r.answer)) where
    hit-end : hit_end r s postings ≡ hit (lent (header_in head) slots postings) p
    hit-end = ends ∙ ap (λ (x : Header). hit (lent x slots postings) p) read

    pub hit-refused : (w.refusal ≡ 0 → ⊥) → left w.refusal (head ∷ answer ∷ s ∷ []) ≡ hit_call head answer slots postings p
    unfolding hit_call
    hit-refused f =
        refused-way hit_left _ _ _ hit-end _ (number w _ told) _ f
        (λ g. ap (λ (ws : List (List ℕ)). head ∷ answer ∷ ws) (ap hit_lends hit-end ∙ hit-keeps _ p g))

    pub hit-done : (x y : List ℕ) → w.refusal ≡ 0 → x ≡ header_words r.header → y ≡ answer_words w r.ticks →
        left 0 (x ∷ y ∷ s ∷ []) ≡ hit_call head answer slots postings p
    unfolding hit_call
    hit-done x y z ex ey =
        done-way hit_left _ _ _ hit-end _ (number w _ told) _ z
        (ap₂ (λ (a b : List ℕ). a ∷ b ∷ s ∷ []) ex (answer-told w _ told y r.ticks ey))

  module _ (meter held cut : List ℕ) (p : ℕ) (m : Meter) (metered : m ≡ meter_in meter) where
    module _ (r : DeduceResult) (ends : deduce_end r ≡ deduce (lent h slots postings) p held cut m)
        (told : w ≡ reply_words (replied (λ x. deduce_reply x r.deduction) r.answer)) where
      deduce-end : deduce_end r ≡ deduce (lent (header_in head) slots postings) p held cut (meter_in meter)
      deduce-end = ends ∙ ap₂ (λ (x : Header) (y : Meter). deduce (lent x slots postings) p held cut y) read metered

      pub deduce-refused : (w.refusal ≡ 0 → ⊥)
          → left w.refusal (answer ∷ meter ∷ []) ≡ deduce_call head answer meter slots postings p held cut
      unfolding deduce_call
      deduce-refused f = refused-way deduce_left _ _ _ deduce-end _ (number w _ told) _ f (λ g. refl)

      pub deduce-done : (x y : List ℕ) → w.refusal ≡ 0 → x ≡ answer_words w r.ticks → y ≡ meter_words r.meter →
          left 0 (x ∷ y ∷ []) ≡ deduce_call head answer meter slots postings p held cut
      unfolding deduce_call
      deduce-done x y z ex ey =
          done-way deduce_left _ _ _ deduce-end _ (number w _ told) _ z
          (ap₂ (λ (a b : List ℕ). a ∷ b ∷ []) (answer-told w _ told x r.ticks ex) ey)

    module _ (cursor : List ℕ) (k : OutputCursor) (placed : k ≡ cursor_in cursor) (r : NextResult)
        (ends : output_end r ≡ next_output (lent h slots postings) p k held cut m) (told : w ≡ reply_words (replied next_reply r.answer)) where
      output-end : output_end r ≡ next_output (lent (header_in head) slots postings) p (cursor_in cursor) held cut (meter_in meter)
      output-end =
          ends ∙ ap₂ (λ (x : Header) (y : Meter). next_output (lent x slots postings) p k held cut y) read metered
          ∙ ap (λ (x : OutputCursor). next_output (lent (header_in head) slots postings) p x held cut (meter_in meter)) placed

      pub output-refused : (w.refusal ≡ 0 → ⊥)
          → left w.refusal (answer ∷ meter ∷ cursor ∷ []) ≡ output_call head answer meter cursor slots postings p held cut
      unfolding output_call
      output-refused f = refused-way output_left _ _ _ output-end _ (number w _ told) _ f (λ g. refl)

      pub output-done : (x y v : List ℕ) → w.refusal ≡ 0 → x ≡ answer_words w r.ticks → y ≡ meter_words r.meter
          → v ≡ cursor_words r.cursor →
          left 0 (x ∷ y ∷ v ∷ []) ≡ output_call head answer meter cursor slots postings p held cut
      unfolding output_call
      output-done x y v z ex ey ev =
          done-way output_left _ _ _ output-end _ (number w _ told) _ z
          (ap₂ (λ (a : List ℕ) (b : List (List ℕ)). a ∷ b) (answer-told w _ told x r.ticks ex)
          (ap₂ (λ (a b : List ℕ). a ∷ b ∷ []) ey ev))

module _ (answer : List ℕ) (n : ℕ) (held cut : List ℕ) (a value : ℕ) (r : DecideResult) (x y : List ℕ)
    (ends : decide_end r x y ≡ decide n held cut a (flag_in value)) (w : ReplyWords) (told : w ≡ reply_words (replied decide_reply r.answer)) where
  pub decide-refused : (w.refusal ≡ 0 → ⊥) → left w.refusal (answer ∷ x ∷ y ∷ []) ≡ decide_call answer n held cut a value
  unfolding decide_call
  decide-refused f =
      refused-way decide_left _ _ _ ends _ (number w _ told) _ f
      (λ g. ap (λ (ws : List (List ℕ)). answer ∷ ws) (ap decide_lends ends ∙ decide-keeps n held cut a _ g))

  pub decide-done : (v : List ℕ) → w.refusal ≡ 0 → v ≡ answer_words w r.ticks
      → left 0 (v ∷ x ∷ y ∷ []) ≡ decide_call answer n held cut a value
  unfolding decide_call
  decide-done v z e =
      done-way decide_left _ _ _ ends _ (number w _ told) _ z
      (ap (λ (b : List ℕ). b ∷ x ∷ y ∷ []) (answer-told w _ told v r.ticks e))
