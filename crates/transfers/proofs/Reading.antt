-- A row received, by the ways that it ends. Assumes nothing.
use mathlib.Core.Path.{◌≡◌, sym, ap, ap₂, ◌∙◌, subst}
use mathlib.Core.Bool.{true}
use mathlib.Core.List.{List}
use Rattle.std.specs.Prelude.{Result, Err}
use Prim.Native.Nat.{ℕ, max, ◌≤◌}
use native.Mathlib.Omega.{arith}
use lib.ListN.{get_or}
use Rattle.lists.proofs.Bools.{T_true}
use Rattle.words.specs.Region.{max_atoms}
use Rattle.meter.specs.declared.Purse.{Purse}
use Rattle.meter.specs.declared.Unpaid.{Unpaid}
use Rattle.meter.specs.declared.Unpaid.TheVariants.{Declined, Stopped}
use Rattle.meter.specs.Read.{Read}
use Rattle.meter.specs.Results.{unpaid_end}
use Rattle.model.specs.declared.Header.{Header}
use Rattle.model.specs.declared.Source.{Source}
use Rattle.model.specs.Records.{Row, is_row, max_outputs, outputs_at}
use Rattle.model.specs.Slots.{row_in}
use Rattle.model.specs.Retention.{Declines, Stops, retain, retained, untaken}
use Rattle.model.specs.Refusals.{Lent, ledger_in}
use Rattle.slots.specs.Layout.{Stored, proposal}
use Rattle.slots.proofs.Storing.{laid-stored, row-proposal}
use Rattle.row_propose.specs.Proposed.{Proposed}
use Rattle.contents.specs.Lent.{lent}
use Rattle.contents.specs.Accepted.{Accepted}
use Rattle.row_propose.proofs.Proposing.{proposed-over}
use Rattle.contents.proofs.Lending.{accepted-lent}
use Rattle.retain.specs.declared.Kept.{Kept}
use Rattle.retain.specs.Ends.{retain_end, end_of}
use Rattle.transfers.specs.Receiving.{received_end, source_of}

-- ---- a read is not paid: nothing changes
pub end-unpaid : (h : Header) (slots postings : List ℕ) (a : Accepted h slots postings) (source : Source) (t : Row) (outputs hits : ℕ)
    (r : Result Kept Unpaid) (p : Purse) {e : Unpaid} {run : Read} → r ≡ Err e → unpaid_end e p ≡ run
    → retain_end r h slots postings p ≡ received_end (lent h slots postings) source t outputs hits run
unfolding retain retained untaken
end-unpaid h slots postings a source t outputs hits r p {e} d f =
    rw d (go e ∙ ap (received_end (lent h slots postings) source t outputs hits) f)
  where
    go : (e : Unpaid)
        → retain_end (Err e) h slots postings p ≡ received_end (lent h slots postings) source t outputs hits (unpaid_end e p)
    go Declined =
        ap (λ (x : Lent). record { outcome = Declines; ledger = x; account = p.account; meter = p.meter })
        (accepted-lent h slots postings a)
    go Stopped =
        ap (λ (x : Lent). record { outcome = Stops; ledger = x; account = p.account; meter = p.meter })
        (accepted-lent h slots postings a)

-- ---- the row of a slot as a proposal
module _ (n : ℕ) (row : List ℕ) (s : Stored n row) (p : List ℕ) (q : p ≡ proposal (row_in row)) where
  proposal-row : row_in p ≡ row_in row
  proposal-row = ap row_in q ∙ row-proposal (row_in row)

  pub literals-proposed : n ≤ max_atoms → Proposed p
  literals-proposed l =
      subst Proposed (sym q) (proposed-over n (row_in row) l (T_true (is_row n (row_in row)) s.row))

  pub literals-row : is_row n (row_in p) ≡ true
  literals-row = ap (is_row n) proposal-row ∙ T_true (is_row n (row_in row)) s.row

  module _ (outputs : ℕ) (most : ℕ) (x : most ≡ max (get_or row outputs_at 0) outputs) where
    pub most-fits : outputs ≤ max_outputs → most ≤ max_outputs
    most-fits o = let k = (laid-stored n row s).counted.most in omega (arith, x)

    pub literals-kept : (w : Lent) (hits : ℕ) {run r : Read} {y : Source} → run ≡ r → y ≡ source_of row
        → end_of (retain (ledger_in w) most hits y (row_in p) run) ≡ received_end w (source_of row) (row_in row) outputs hits r
    literals-kept w hits {run} {r} e f =
        ap (λ (y : Source). end_of (retain (ledger_in w) most hits y (row_in p) run)) f
        ∙ ap₂ (λ (k : ℕ) (y : Row). end_of (retain (ledger_in w) k hits (source_of row) y run))
        (x ∙ ap (λ (k : ℕ). max k outputs) (sym (laid-stored n row s).output_count)) proposal-row
        ∙ ap (received_end w (source_of row) (row_in row) outputs hits) e
