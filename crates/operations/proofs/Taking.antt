-- An accepted ledger is what it is read as; Begin, by the ways that it ends. Assumes nothing.
use mathlib.Core.Path.{◌≡◌, refl, ap}
use mathlib.Core.Bool.{true}
use mathlib.Core.List.{List, []}
use mathlib.Core.Option.{none, some}
use Prim.Native.Nat.{ℕ}
use Rattle.model.specs.declared.Header.{Header}
use Rattle.std.specs.Prelude.{Ok, Err}
use Rattle.model.specs.declared.Refusal.{Refusal}
use Rattle.model.specs.Answers.{number_of}
use Rattle.model.specs.Records.{with_full}
use Rattle.model.specs.Slots.{entries_in}
use Rattle.model.specs.Refusals.{Lent, refusal, accepts, ledger_in, lent_of}
use Rattle.model.specs.Answers.{begin_reply}
use Rattle.model.specs.Operations.{begin}
use Rattle.slots.proofs.Holding.{stands-under}
use Rattle.contents.specs.Lent.{lent}
use Rattle.contents.specs.Accepted.{Accepted}
use Rattle.contents.proofs.Accepting.{accepted}
use Rattle.contents.proofs.Lending.{stands-lent}
use Rattle.operations.specs.Ends.{begin_end}

module _ (h : Header) (slots postings : List ℕ) where
  full-lent : Accepted h slots postings →
      lent (with_full h true) slots postings ≡ lent_of (record { header = with_full h true; entries = entries_in h.rows slots })
  unfolding with_full ledger_in
  full-lent a =
      stands-lent (with_full h true) slots postings
      (stands-under h (with_full h true) slots postings postings a.stands refl refl a.stands.filing) a.founded

  pub begin-refused : (r : Refusal) → refusal (accepts (lent h slots postings) true []) ≡ some (number_of r) →
      begin_end (record { answer = Err r; header = h; ticks = 0 }) slots postings ≡ begin (lent h slots postings)
  unfolding begin
  begin-refused r e = rw (e, begin)

  pub begin-done : refusal (accepts (lent h slots postings) true []) ≡ none →
      begin_end (record { answer = Ok tt; header = with_full h true; ticks = 0 }) slots postings ≡ begin (lent h slots postings)
  unfolding begin ledger_in
  begin-done e =
      rw (e, begin, ledger_in)
      (ap (λ (l : Lent). record { answer = begin_reply tt; ledger = l; ticks = 0 }) (full-lent (accepted h slots postings true [] e)))
