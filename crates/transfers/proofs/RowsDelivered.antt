-- The rows of the tier in turn: what is left, from here, is what was left at the start. Assumes nothing.
use mathlib.Core.Path.{◌≡◌, refl, sym, ap, ◌∙◌, subst}
use mathlib.Core.List.{List, [], ◌∷◌, ◌++◌, append_assoc}
use Prim.Native.Nat.{ℕ, suc, ◌+◌, ◌*◌, ◌≤◌, ◌<◌}
use native.Mathlib.Omega.{arith}
use lib.ListN.{length, drop, length-append, length-drop, drop_of_length-le}
use lib.Seq.{drop-drop, drop_at}
use Rattle.std.specs.Prelude.{Result, Err}
use Rattle.meter.specs.declared.Unpaid.{Unpaid}
use Rattle.meter.specs.declared.Unpaid.TheVariants.{Declined, Stopped}
use Rattle.model.specs.declared.LearningLimits.{LearningLimits}
use Rattle.model.specs.declared.Header.{Header}
use Rattle.model.specs.Records.{Entry, Ledger, slot_words, max_rows}
use Rattle.model.specs.Slots.{entry_in, entries_in}
use Rattle.model.specs.Transfers.{Progress, whole, Transfer, Delivery, deliver_rows}
use Rattle.slots.specs.Layout.{slot_at}
use Rattle.retain_keep.specs.Stood.{Stood}
use Rattle.retain_keep.proofs.Standing.{stood-accepted, stood-rows, stood-entries}
use Rattle.transfers.specs.declared.receiving.TransferState.{TransferState}
use Rattle.transfers.specs.Transfer.{progress_of, Carried, Ready}
use Rattle.transfers.specs.Handing.{Keeps, Handed, Delivered}
use Rattle.transfers.proofs.Entries.{entries-drop}
use Rattle.transfers.proofs.Deliveries.{along_by, deliver-end, deliver-split}
use Rattle.transfers.proofs.Carrying.{ready_at, carried-up, place-fits, outputs-fit}

-- these entries are done, the rest as it ends
abbrev after : List Entry → Delivery → Delivery
after done d = (done ++ d.0, d.1)

-- ---- the entry at a position of the tier's words
module _ (t : Header) (ws ps : List ℕ) (h : Header) (done es : List Entry) (i : ℕ) (long : length done ≡ i)
    (s : Stood t ws ps (record { header = h; entries = done ++ drop i es })) (l : i < length es) where
  abbrev ledger : Ledger
  ledger = record { header = h; entries = done ++ drop i es }

  under : i < t.rows
  under = let r = stood-rows t ws ps ledger s in omega (arith, length-append done (drop i es), length-drop i es)

  pub tier-fits : slot_words * i + slot_words ≤ length ws
  tier-fits = (place-fits t ws ps ledger s i under).1

  pub tier-small : i < max_rows
  tier-small = (place-fits t ws ps ledger s i under).0

  tail : drop (i + 1) (done ++ drop i es) ≡ drop (i + 1) es
  tail = sym (drop-drop 1 i (done ++ drop i es)) ∙ ap (drop 1) (drop_at done (drop i es) i long) ∙ drop-drop 1 i es

  pub tier-entry : drop i es ≡ entry_in (slot_at ws i) ∷ drop (i + 1) es
  tier-entry =
      let e : entries_in t.rows ws ≡ done ++ drop i es = stood-entries t ws ps ledger s in
      sym (drop_at done (drop i es) i long) ∙ ap (drop i) (sym e) ∙ entries-drop t.rows ws i under
      ∙ ap (λ (xs : List Entry). entry_in (slot_at ws i) ∷ drop (i + 1) xs) e ∙ ap (λ (xs : List Entry). entry_in (slot_at ws i) ∷ xs) tail

  pub tier-ready : (p : TransferState) (slots postings : List ℕ) (v : Transfer) → Carried t.limits.atoms i whole p slots postings v
      → Ready p slots postings (slot_at ws i) t.limits.founded_outputs
  tier-ready p slots postings v k =
      ready_at t.limits.atoms i t.rows p slots postings ws v t.limits.founded_outputs k
      (stood-accepted t ws ps ledger s).stands.held.over (outputs-fit t ws ps ledger s) under

-- a transfer that does not go on
ended : (u : Unpaid) (es : List Entry) (f : Transfer → Delivery) (d : Delivery)
    → along_by (progress_of {A = Unit {0}} (Err u)) es f d ≡ (d.0 ++ es, d.1)
ended Declined es f d = refl
ended Stopped es f d = refl

pub record Delivering (limits : LearningLimits) (es : List Entry) (v₀ : Transfer) (n i : ℕ) (p : TransferState)
    (slots postings before now : List ℕ) : Type 0 where
  pub state : Transfer
  pub done : List Entry
  pub long : length done ≡ i
  pub carried : Carried n i whole p slots postings state
  pub keeps : Keeps before now es (done ++ drop i es)
  pub rest : after done (deliver_rows limits (drop i es) state) ≡ deliver_rows limits es v₀

module _ (limits : LearningLimits) (es : List Entry) (v₀ : Transfer) (n : ℕ) where
  pub delivering-start : (p : TransferState) (slots postings before : List ℕ) → Carried n 0 whole p slots postings v₀
      → Delivering limits es v₀ n 0 p slots postings before before
  delivering-start p slots postings before h =
      record { state = v₀; done = []; long = refl; carried = h; keeps = λ t ps k s. s; rest = refl }

  module _ (i : ℕ) (p : TransferState) (slots postings before now : List ℕ)
      (s : Delivering limits es v₀ n i p slots postings before now) where
    pub delivering-end : length es ≤ i → Delivered n i whole p slots postings before now es (deliver_rows limits es v₀)
    delivering-end l =
        let none : drop i es ≡ [] = drop_of_length-le es l in
        subst (Delivered n i whole p slots postings before now es)
        (sym (ap (after s.done) (ap (λ (x : List Entry). deliver_rows limits x s.state) none ∙ deliver-end limits s.state))
        ∙ s.rest)
        (record { carried = s.carried; keeps = subst (λ (x : List Entry). Keeps before now es (s.done ++ x)) none s.keeps })

    -- the next row is read
    module _ (e : Entry) (at : drop i es ≡ e ∷ drop (i + 1) es) (r : TransferState) (ws ps then : List ℕ) where
      abbrev w : Delivery
      w = deliver_rows limits (e ∷ []) s.state

      abbrev left : List Entry
      left = drop (i + 1) es

      module _ (x : Progress) (h : Handed n (suc i) x r ws ps i now then e w) where
        next : deliver_rows limits es v₀ ≡ after s.done (along_by x left (deliver_rows limits left) w)
        next =
            sym s.rest
            ∙ ap (after s.done)
            (ap (λ (x : List Entry). deliver_rows limits x s.state) at ∙ deliver-split limits e s.state left
            ∙ ap (λ y. along_by y left (deliver_rows limits left) w) (sym h.carried.progress))

        keeps_on : Keeps before then es (s.done ++ (w.0 ++ left))
        keeps_on t q k z =
            h.keeps s.done left s.long t q k
            (subst (λ (x : List Entry). Stood t now q (record { header = k; entries = s.done ++ x })) at (s.keeps t q k z))

      pub delivering-turn : Handed n (suc i) whole r ws ps i now then e w → Delivering limits es v₀ n (i + 1) r ws ps before then
      delivering-turn h = record {
        state = w.1;
        done = s.done ++ w.0;
        long = let a = s.long in let b = h.one in omega (arith, length-append s.done w.0);
        carried = carried-up n (suc i) r ws ps w.1 h.carried (i + 1) (omega arith);
        keeps = subst (λ (x : List Entry). Keeps before then es x) (sym (append_assoc s.done w.0 left)) (keeps_on whole h);
        rest = ap (λ (x : List Entry). (x, (deliver_rows limits left w.1).1))
            (append_assoc s.done w.0 (deliver_rows limits left w.1).0)
            ∙ sym (next whole h);
      }

      -- up to a row that is not taken
      pub delivering-stop : {A : Type 0} (y : Result A Unpaid) (u : Unpaid) → y ≡ Err u
          → Handed n (suc i) (progress_of {A = A} (Err u)) r ws ps i now then e w → (rows : ℕ) → i < rows
          → Delivered n rows (progress_of y) r ws ps before then es (deliver_rows limits es v₀)
      delivering-stop {A} y u q h rows l =
          let x : Progress = progress_of {A = A} (Err u) in
          rw q (subst (Delivered n rows x r ws ps before then es)
          (sym (next x h ∙ ap (after s.done) (ended u left (deliver_rows limits left) w)))
          (record { carried = carried-up n (suc i) r ws ps w.1 h.carried rows (omega arith); keeps = keeps_on x h }))
