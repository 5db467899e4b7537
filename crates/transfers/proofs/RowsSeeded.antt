-- The rows of the store in turn: what is left, from here, is what was left at the start. Assumes nothing.
use mathlib.Core.Path.{◌≡◌, refl, sym, ap, ◌∙◌, subst}
use mathlib.Core.List.{List, [], ◌∷◌}
use Prim.Native.Nat.{ℕ, suc, ◌+◌, ◌-◌, ◌*◌, ◌≤◌, ◌<◌}
use native.Mathlib.Omega.{arith}
use lib.ListN.{length, take, drop, drop_of_length-le}
use Rattle.std.specs.Prelude.{Result, Err}
use Rattle.meter.specs.declared.Meter.{Meter}
use Rattle.meter.specs.declared.Sharing.{Sharing}
use Rattle.meter.specs.declared.Unpaid.{Unpaid}
use Rattle.meter.specs.declared.Unpaid.TheVariants.{Declined, Stopped}
use Rattle.model.specs.declared.Header.{Header}
use Rattle.model.specs.declared.LearningLimits.{LearningLimits}
use Rattle.model.specs.Records.{Entry, slot_words, max_outputs}
use Rattle.model.specs.Transfers.{Progress, whole, Transfer, seed_rows}
use Rattle.model.specs.Refusals.{ledger_in}
use Rattle.contents.specs.Lent.{lent}
use Rattle.retain_keep.specs.Stood.{Stood}
use Rattle.slots.specs.Layout.{RowsOver}
use Rattle.slots.proofs.Rows.{slot-code}
use Rattle.transfers.specs.declared.receiving.TransferState.{TransferState}
use Rattle.transfers.specs.Transfer.{progress_of, start_by, start_of, Carried, Ready}
use Rattle.transfers.proofs.Seeds.{onward_by, seed-end, seed-split}
use Rattle.transfers.proofs.Carrying.{carried-up, carried-start, ready_at}

-- a row of the giver's slots, as the code lends it
pub row-ready : (n i rows : ℕ) (p : TransferState) (slots postings given : List ℕ) (v : Transfer) (o : ℕ)
    → Carried n i whole p slots postings v → RowsOver n rows given → o ≤ max_outputs → i < rows
    → Ready p slots postings (take ((slot_words * i + slot_words) - slot_words * i) (drop (slot_words * i) given)) o
row-ready n i rows p slots postings given v o h g m l =
    subst (λ (row : List ℕ). Ready p slots postings row o) (sym (slot-code given i)) (ready_at n i rows p slots postings given v o h g m l)

-- the definition's transfer at the start of the code's
pub carried_first : (h : Header) (slots postings : List ℕ) → Stood h slots postings (ledger_in (lent h slots postings))
    → (a : Sharing) (m : Meter) {p : TransferState} → p ≡ start_by h a m
    → Carried h.limits.atoms 0 whole p slots postings (start_of p slots postings)
carried_first h slots postings s a m e =
    subst (λ (p : TransferState). Carried h.limits.atoms 0 whole p slots postings (start_of p slots postings)) (sym e)
    (carried-start (start_by h a m) slots postings s refl)

-- a transfer that does not go on
pub ended : (u : Unpaid) (v : Transfer) (f : Transfer → Transfer) → onward_by (progress_of {A = Unit {0}} (Err u)) v f ≡ v
ended Declined v f = refl
ended Stopped v f = refl

pub record Seeding (limits : LearningLimits) (mark : ℕ) (es : List Entry) (v₀ : Transfer) (n i : ℕ) (p : TransferState)
    (slots postings : List ℕ) : Type 0 where
  pub state : Transfer
  pub carried : Carried n i whole p slots postings state
  pub rest : seed_rows limits mark (drop i es) state ≡ seed_rows limits mark es v₀

module _ (limits : LearningLimits) (mark : ℕ) (es : List Entry) (v₀ : Transfer) (n : ℕ) where
  pub seeding-start : (p : TransferState) (slots postings : List ℕ) → Carried n 0 whole p slots postings v₀
      → Seeding limits mark es v₀ n 0 p slots postings
  seeding-start p slots postings h = record { state = v₀; carried = h; rest = refl }

  module _ (i : ℕ) (p : TransferState) (slots postings : List ℕ) (s : Seeding limits mark es v₀ n i p slots postings) where
    pub seeding-end : length es ≤ i → Carried n i whole p slots postings (seed_rows limits mark es v₀)
    seeding-end l =
        subst (Carried n i whole p slots postings)
        (sym (seed-end limits mark s.state) ∙ ap (λ (x : List Entry). seed_rows limits mark x s.state) (sym (drop_of_length-le es l))
        ∙ s.rest) s.carried

    -- the next row is read
    module _ (e : Entry) (at : drop i es ≡ e ∷ drop (i + 1) es) (x : Progress) (r : TransferState) (ws ps : List ℕ)
        (h : Carried n (suc i) x r ws ps (seed_rows limits mark (e ∷ []) s.state)) where
      abbrev w : Transfer
      w = seed_rows limits mark (e ∷ []) s.state

      next : seed_rows limits mark es v₀ ≡ onward_by x w (seed_rows limits mark (drop (i + 1) es))
      next =
          sym s.rest ∙ ap (λ (x : List Entry). seed_rows limits mark x s.state) at
          ∙ seed-split limits mark e s.state (drop (i + 1) es)
          ∙ ap (λ y. onward_by y w (seed_rows limits mark (drop (i + 1) es))) (sym h.progress)

    module _ (e : Entry) (at : drop i es ≡ e ∷ drop (i + 1) es) (r : TransferState) (ws ps : List ℕ) where
      pub seeding-turn : Carried n (suc i) whole r ws ps (seed_rows limits mark (e ∷ []) s.state)
          → Seeding limits mark es v₀ n (i + 1) r ws ps
      seeding-turn h = record {
        state = seed_rows limits mark (e ∷ []) s.state;
        carried = carried-up n (suc i) r ws ps (seed_rows limits mark (e ∷ []) s.state) h (i + 1) (omega arith);
        rest = sym (next e at whole r ws ps h);
      }

      -- up to a row that is not taken
      pub seeding-stop : {A : Type 0} (y : Result A Unpaid) (u : Unpaid) → y ≡ Err u
          → Carried n (suc i) (progress_of {A = A} (Err u)) r ws ps (seed_rows limits mark (e ∷ []) s.state) → (rows : ℕ) → i < rows
          → Carried n rows (progress_of y) r ws ps (seed_rows limits mark es v₀)
      seeding-stop {A} y u q h rows l =
          let f = seed_rows limits mark (drop (i + 1) es) in
          let w = seed_rows limits mark (e ∷ []) s.state in
          let x : Progress = progress_of {A = A} (Err u) in
          rw q (subst (Carried n rows x r ws ps) (sym (next e at x r ws ps h ∙ ended u w f))
          (carried-up n (suc i) r ws ps w h rows (omega arith)))
