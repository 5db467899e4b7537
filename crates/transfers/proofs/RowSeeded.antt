-- One row of the store, by the ways that it ends. Assumes nothing.
use mathlib.Core.Path.{◌≡◌, refl, sym, ap, ◌∙◌, subst}
use mathlib.Core.List.{List, [], ◌∷◌}
use Rattle.std.specs.Prelude.{Result, Ok, Err}
use Rattle.meter.specs.declared.Meter.{Meter}
use Rattle.meter.specs.declared.Purse.{Purse}
use Rattle.meter.specs.declared.Unpaid.{Unpaid}
use Rattle.meter.specs.declared.Unpaid.TheVariants.{Declined, Stopped}
use Rattle.model.specs.declared.Header.{Header}
use Prim.Native.Nat.{ℕ, suc, ◌+◌, ◌*◌, ◌≤◌, ◌<◌}
use native.Mathlib.Omega.{arith}
use lib.ListN.{length, get_or}
use borrow.Author.Tests.{le-leb, lt-leb}
use Rattle.meter.specs.Tick.{Tick}
use Rattle.meter.specs.Tick as tick
use Rattle.meter.specs.Meter.{tick_of, pay}
use Rattle.model.specs.declared.LearningLimits.{LearningLimits}
use Rattle.model.specs.Records.{literals, with_delivered, slot_words, max_rows, max_outputs, hits_at, born_at}
use Rattle.model.specs.Slots.{row_in, entry_in}
use Rattle.model.specs.Retention.{Retention}
use Rattle.model.specs.Transfers.{Progress, whole, declined, stopped, Transfer, receive, change_at, seed_rows}
use Rattle.slots.specs.Layout.{Stored}
use Rattle.contents.specs.Lent.{lent}
use Rattle.tier.specs.Tier.{marked_delivered}
use Rattle.retain_keep.specs.Stood.{Stood}
use Rattle.retain_keep.proofs.Standing.{stood-marked}
use Rattle.retain.specs.declared.Kept.{Kept}
use Rattle.retain.specs.declared.Kept.TheVariants.{Subsumed, Added}
use Rattle.retain.specs.Ends.{retain_end}
use Rattle.transfers.specs.declared.receiving.TransferState.{TransferState}
use Rattle.transfers.specs.Receiving.{received_end, source_of}
use Rattle.transfers.specs.Transfer.{progress_of, Carried}
use Rattle.transfers.proofs.Seeds.{seed-past, seed-halted, seed-stops, seed-declines, seed-subsumed, seed-added}
use Rattle.transfers.proofs.Carrying.{Received, carried-ticked, carried-up, carried-received}
use Rattle.transfers.proofs.Passing.{told, added-in, kept-fits, left_as, changed-as}

module _ (n c : ℕ) (p : TransferState) (slots postings : List ℕ) (v : Transfer) (h : Carried n c whole p slots postings v) (row : List ℕ)
    (limits : LearningLimits) (mark : ℕ) where
  abbrev Ends : Progress → TransferState → List ℕ → List ℕ → Type 0
  Ends x r ws ps = Carried n (suc c) x r ws ps (seed_rows limits mark (entry_in row ∷ []) v)

  -- ---- born up to the mark: a tick, made or not
  module _ (early : get_or row born_at 0 ≤ mark) (m : Meter) where
    abbrev at : TransferState
    at = record { header = p.header; purse = record { account = p.purse.account; meter = m }; added = p.added }

    pub row-past : tick.Ticked m ≡ tick_of p.purse.meter → Ends whole at slots postings
    unfolding entry_in
    row-past e =
        subst (Carried n (suc c) whole at slots postings)
        (sym (seed-past limits mark (entry_in row) v (le-leb (get_or row born_at 0) mark early) m (ap tick_of (sym h.meter) ∙ sym e)))
        (carried-up n c _ slots postings _ (carried-ticked n c p slots postings v h m whole) (suc c) (omega arith))

    pub row-halted : {A : Type 0} (r : Result A Unpaid) → r ≡ Err Stopped → tick.Stopped m ≡ tick_of p.purse.meter
        → Ends (progress_of r) at slots postings
    unfolding entry_in
    row-halted r d e =
        rw d (subst (Carried n (suc c) stopped at slots postings)
        (sym (seed-halted limits mark (entry_in row) v (le-leb (get_or row born_at 0) mark early) m (ap tick_of (sym h.meter) ∙ sym e)))
        (carried-up n c _ slots postings _ (carried-ticked n c p slots postings v h m stopped) (suc c) (omega arith)))

  -- ---- born after it: the row is received, with the result o
  module _ (s : Stored p.header.limits.atoms row) (o : limits.founded_outputs ≤ max_outputs) (late : mark < get_or row born_at 0)
      (k : Header) (ws ps : List ℕ) (b : Purse) where
    abbrev Receives : Result Kept Unpaid → Type 0
    Receives y =
        retain_end y k ws ps b
        ≡ received_end (lent p.header slots postings) (source_of row) (row_in row) limits.founded_outputs (get_or row hits_at 0)
        (pay (suc (literals (row_in row))) p.purse.account p.purse.meter)

    abbrev d : Retention
    d = receive limits (get_or row hits_at 0) (source_of row) (row_in row) v

    r : (y : Result Kept Unpaid) → Receives y → Received n c p v y k ws ps b d
    r y e = carried-received n c p slots postings v h row s limits o (get_or row hits_at 0) y k ws ps b e

    abbrev after : ℕ → TransferState
    after a = record { header = k; purse = b; added = a }

    pub row-unpaid : {A : Type 0} (y : Result A Unpaid) (u : Unpaid) → y ≡ Err u → Receives (Err u)
        → Ends (progress_of y) (after p.added) ws ps
    unfolding entry_in
    row-unpaid {A} y u q e = rw q (go u e)
      where
        go : (u : Unpaid) → Receives (Err u) → Ends (progress_of {A = A} (Err u)) (after p.added) ws ps
        go Declined e =
            left_as (r (Err Declined) e) declined 0 p.added (omega arith) (omega arith)
            (seed-declines limits mark (entry_in row) v (lt-leb (get_or row born_at 0) mark late) (r (Err Declined) e).outcome)
        go Stopped e =
            left_as (r (Err Stopped) e) stopped 0 p.added (omega arith) (omega arith)
            (seed-stops limits mark (entry_in row) v (lt-leb (get_or row born_at 0) mark late) (r (Err Stopped) e).outcome)

    module _ (y : Kept) (e : Receives (Ok y)) where
      pub row-subsumed : (i : ℕ) → y ≡ Subsumed i → Ends whole (after p.added) ws ps
      unfolding entry_in
      row-subsumed i a =
          left_as (r (Ok y) e) whole 0 p.added (omega arith) (omega arith)
          (seed-subsumed limits mark (entry_in row) v (lt-leb (get_or row born_at 0) mark late) i (told (r (Ok y) e) (ap Ok a)))

      module _ (i : ℕ) (a : y ≡ Added i) where
        pub row_fits_lem : (i < max_rows) × (slot_words * i + slot_words ≤ length ws)
        row_fits_lem = kept-fits (r (Ok y) e) (added-in (r (Ok y) e) (ap Ok a))

        pub row-added : {us : List ℕ} → us ≡ marked_delivered i ws → Ends whole (after (p.added + 1)) us ps
        unfolding entry_in
        row-added m =
            changed-as (r (Ok y) e) whole 1 (p.added + 1) (omega arith) refl i (λ x. with_delivered x.unshared x)
            (subst
            (λ (us : List ℕ). Stood k us ps (change_at i (λ x. with_delivered x.unshared x) d.ledger))
            (sym m)
            (stood-marked k ws ps d.ledger (r (Ok y) e).stood i (added-in (r (Ok y) e) (ap Ok a))))
            (seed-added limits mark (entry_in row) v (lt-leb (get_or row born_at 0) mark late) i (told (r (Ok y) e) (ap Ok a)))
