-- Make, by the ways that it ends. Assumes nothing.
use mathlib.Core.Path.{◌≡◌}
use mathlib.Core.Bool.{true, false}
use mathlib.Core.List.{List}
use Prim.Native.Nat.{ℕ, ◌*◌}
use lib.ListN.{length}
use borrow.Author.Tests.{eq-eqb, ne_eqb}
use Rattle.lists.specs.Lists.{zeroed}
use Rattle.model.specs.declared.LearningLimits.{LearningLimits}
use Rattle.std.specs.Prelude.{Ok, Err}
use Rattle.model.specs.declared.Refusal.TheVariants.{Limits, Lengths}
use Rattle.model.specs.Records.{limits_ok, fresh, slot_words, posting_words}
use Rattle.model.specs.Refusals.{refusal}
use Rattle.model.specs.Operations.{make}
use Rattle.operations.specs.Ends.{make_end}

module _ (l : LearningLimits) (number : ℕ) (slots postings : List ℕ) where
  pub make-limits : limits_ok l ≡ false → make_end (record { answer = Err Limits; ticks = 0 }) slots postings ≡ make l number slots postings
  unfolding make refusal
  make-limits e = rw (e, make, refusal)

  pub make-slots : limits_ok l ≡ true → (length slots ≡ slot_words * l.tier_rows → ⊥) →
      make_end (record { answer = Err Lengths; ticks = 0 }) slots postings ≡ make l number slots postings
  unfolding make refusal
  make-slots e f = rw (e, ne_eqb (length slots) (slot_words * l.tier_rows) f, make, refusal)

  pub make-postings : limits_ok l ≡ true → length slots ≡ slot_words * l.tier_rows → (length postings ≡ posting_words * l.tier_rows → ⊥)
      →
      make_end (record { answer = Err Lengths; ticks = 0 }) slots postings ≡ make l number slots postings
  unfolding make refusal
  make-postings e s f =
      rw (
        e,
        eq-eqb (length slots) (slot_words * l.tier_rows) s,
        ne_eqb (length postings) (posting_words * l.tier_rows) f,
        make,
        refusal,
      )

  pub make-made : limits_ok l ≡ true → length slots ≡ slot_words * l.tier_rows → length postings ≡ posting_words * l.tier_rows →
      make_end (record { answer = Ok (fresh l number); ticks = 0 }) (zeroed slots) (zeroed postings) ≡ make l number slots postings
  unfolding make refusal
  make-made e s p =
      rw (
        e,
        eq-eqb (length slots) (slot_words * l.tier_rows) s,
        eq-eqb (length postings) (posting_words * l.tier_rows) p,
        make,
        refusal,
      )
