-- 01, module 6, delivering: a row that is handed over, and the tier's words after it. Assumes nothing.
use Rattle.std.specs.Prelude.{◌≡◌, List, [], ◌∷◌, ◌++◌, ℕ, length}
use Rattle.model.specs.declared.LearningLimits.{LearningLimits}
use Rattle.model.specs.declared.Header.{Header}
use Rattle.model.specs.Records.{Entry, saturating_add, with_hits, with_delivered}
use Rattle.model.specs.Slots.{entries_in}
use Rattle.model.specs.Retention.{Stops, Declines, Subsumes, Adds, Retention}
use Rattle.model.specs.Transfers.{Progress, Transfer, Delivery, whole, declined, stopped, receive, received, change_at}
use Rattle.retain_keep.specs.Stood.{Stood}
use Rattle.transfers.specs.declared.receiving.TransferState.{TransferState}
use Rattle.transfers.specs.Transfer.{Carried}

-- a row of the tier that is not passed over, once its tick is made
unfoldable pub handed : LearningLimits → Entry → Transfer → Delivery
handed tier e v =
    let d : Retention = receive tier e.unshared e.source e.row v in
    elim d.outcome [
      | Stops ↦ (e ∷ [], received v d d.ledger 0 stopped)
      | Declines ↦ (e ∷ [], received v d d.ledger 0 declined)
      | Subsumes p ↦ (
        with_delivered 0 e ∷ [],
        received v d (change_at p (λ x. with_hits x (saturating_add x.hits e.unshared)) d.ledger) 0 whole,
      )
      | Adds p ↦ (with_delivered 0 e ∷ [], received v d d.ledger 1 whole)
    ]

-- words that were those of some entries are those of others
abbrev pub Keeps : List ℕ → List ℕ → List Entry → List Entry → Type 0
Keeps before after es fs =
    (t : Header) (postings : List ℕ) (h : Header) → Stood t before postings (record { header = h; entries = es })
    → Stood t after postings (record { header = h; entries = fs })

-- the entry e at position i, and what the definition leaves of it in d; the receiver's words are slots and postings
pub record Handed (n c : ℕ) (x : Progress) (p : TransferState) (slots postings : List ℕ) (i : ℕ) (before after : List ℕ) (e : Entry)
    (d : Delivery) : Type 0 where
  pub carried : Carried n c x p slots postings d.1
  pub one : length d.0 ≡ 1
  pub keeps : (done rest : List Entry) → length done ≡ i → Keeps before after (done ++ (e ∷ rest)) (done ++ (d.0 ++ rest))

-- the tier's slots are those of its rows, with some postings beside them
pub record Lends (t : Header) (slots : List ℕ) : Type 0 where
  pub postings : List ℕ
  pub stood : Stood t slots postings (record { header = t; entries = entries_in t.rows slots })

-- all rows
pub record Delivered (n c : ℕ) (x : Progress) (p : TransferState) (slots postings before after : List ℕ) (es : List Entry)
    (d : Delivery) : Type 0 where
  pub carried : Carried n c x p slots postings d.1
  pub keeps : Keeps before after es d.0
