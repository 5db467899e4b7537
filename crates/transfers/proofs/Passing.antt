-- After a retention the code's transfer is the definition's: the receiver as it was left, or with one row changed. Assumes nothing.
use mathlib.Core.Path.{◌≡◌, refl, sym, ap, ◌∙◌, subst}
use mathlib.Core.List.{List}
use Rattle.std.specs.Prelude.{Result, Ok}
use Rattle.meter.specs.declared.Purse.{Purse}
use Rattle.meter.specs.declared.Unpaid.{Unpaid}
use Rattle.model.specs.declared.Header.{Header}
use Prim.Native.Nat.{ℕ, suc, ◌+◌, ◌*◌, ◌≤◌, ◌<◌}
use native.Mathlib.Omega.{arith}
use lib.ListN.{length}
use Rattle.model.specs.Records.{Entry, slot_words, max_rows}
use Rattle.model.specs.Retention.{Retention}
use Rattle.model.specs.Transfers.{Progress, Transfer, received, change_at}
use Rattle.retain_keep.specs.Stood.{Stood}
use Rattle.retain.specs.declared.Kept.{Kept}
use Rattle.retain.specs.declared.Kept.TheVariants.{Subsumed, Added}
use Rattle.retain.specs.Ends.{outcome_of}
use Rattle.transfers.specs.declared.receiving.TransferState.{TransferState}
use Rattle.transfers.specs.Transfer.{Carried}
use Rattle.transfers.proofs.Positions.{Within}
use Rattle.transfers.proofs.Carrying.{Received, place-fits}

module _ {n c : ℕ} {p : TransferState} {v : Transfer} {o : Result Kept Unpaid} {k : Header} {ws ps : List ℕ} {b : Purse} {d : Retention}
    (r : Received n c p v o k ws ps b d) where
  pub told : {x : Result Kept Unpaid} → o ≡ x → outcome_of x ≡ d.outcome
  told a = sym (ap outcome_of a) ∙ r.outcome

  within : {x : Result Kept Unpaid} → o ≡ x → Within k.rows (outcome_of x)
  within a = subst (Within k.rows) (sym (told a)) r.within

  -- the position told is one of the receiver's
  module _ {i : ℕ} where
    pub added-in : o ≡ Ok (Added i) → i < k.rows
    added-in a = within a

    pub subsumed-in : o ≡ Ok (Subsumed i) → i < k.rows
    subsumed-in a = within a

    pub kept-fits : i < k.rows → (i < max_rows) × (slot_words * i + slot_words ≤ length ws)
    kept-fits l = place-fits k ws ps d.ledger r.stood i l

  -- as many rows more are Added: the receiver as it was left, and with a row changed
  module _ (x : Progress) (one a : ℕ) (most : one ≤ 1) (count : a ≡ p.added + one) where
    abbrev after : TransferState
    after = record { header = k; purse = b; added = a }

    summed : a ≡ v.added + one
    summed = count ∙ ap (λ (z : ℕ). z + one) r.added

    few : v.added + one ≤ suc c
    few = let f = r.few in omega arith

    pub left_as : {u : Transfer} → u ≡ received v d d.ledger one x → Carried n (suc c) x after ws ps u
    unfolding received
    left_as {u} f =
        subst (Carried n (suc c) x after ws ps) (sym f)
        (record { stood = r.stood; account = r.account; meter = r.meter; added = summed; progress = refl; over = r.over; few = few })

    pub changed-as : (i : ℕ) (g : Entry → Entry) {us : List ℕ} → Stood k us ps (change_at i g d.ledger) → {u : Transfer}
        → u ≡ received v d (change_at i g d.ledger) one x
        → Carried n (suc c) x after us ps u
    unfolding received change_at
    changed-as i g {us} t {u} f =
        subst (Carried n (suc c) x after us ps) (sym f)
        (record { stood = t; account = r.account; meter = r.meter; added = summed; progress = refl; over = r.over; few = few })
