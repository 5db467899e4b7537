-- The code's transfer stays the definition's, from one row to the next. Assumes nothing.
use mathlib.Core.Path.{◌≡◌, refl, sym, ap, ap₂, ◌∙◌, subst}
use mathlib.Core.List.{List}
use Rattle.std.specs.Prelude.{Result}
use Prim.Native.Nat.{ℕ, suc, ◌+◌, ◌*◌, max, ◌≤◌, ◌<◌}
use native.Mathlib.Omega.{arith}
use lib.ListN.{length}
use Rattle.lists.proofs.Bools.{T_true, T_of}
use Rattle.meter.specs.declared.Meter.{Meter}
use Rattle.meter.specs.declared.Account.{Account}
use Rattle.meter.specs.declared.Purse.{Purse}
use Rattle.meter.specs.declared.Unpaid.{Unpaid}
use Rattle.meter.specs.Read.{Read}
use Rattle.meter.specs.Meter.{pay}
use Rattle.model.specs.declared.LearningLimits.{LearningLimits}
use Rattle.model.specs.declared.Header.{Header}
use Rattle.model.specs.declared.Source.{Source}
use Rattle.model.specs.Records.{Row, Ledger, is_row, limits_ok, literals, slot_words, max_rows, max_outputs}
use Rattle.model.specs.Slots.{row_in}
use Rattle.model.specs.Retention.{Retention, retain}
use Rattle.model.specs.Refusals.{ledger_in}
use Rattle.model.specs.Transfers.{Progress, whole, Transfer, starting, ticked, receive}
use Rattle.model.proofs.Priority.Steps.{most-ok}
use Rattle.slots.specs.Layout.{Stored, slot_at, RowsOver}
use Rattle.slots.proofs.Storing.{laid-stored}
use Rattle.contents.specs.Lent.{lent}
use Rattle.contents.specs.Accepted.{Accepted}
use Rattle.retain_keep.specs.Stood.{Stood}
use Rattle.retain_keep.proofs.Standing.{stood-accepted, stood-rows, stood-limits, stood-outcome, stood-account, stood-meter, stood-retained}
use Rattle.retain.specs.declared.Kept.{Kept}
use Rattle.retain.specs.Ends.{End, outcome_of, retain_end}
use Rattle.transfers.specs.declared.receiving.TransferState.{TransferState}
use Rattle.transfers.specs.Receiving.{received_end, source_of}
use Rattle.transfers.specs.Transfer.{start_of, Carried, Ready}
use Rattle.transfers.proofs.Positions.{Within, retain-within, retain-limits}

-- what a retention of the code is, its result o with the header k and the purse b after it, beside the definition's, after the transfer v
-- with at most c rows Added
pub record Received (n c : ℕ) (p : TransferState) (v : Transfer) (o : Result Kept Unpaid) (k : Header) (slots postings : List ℕ) (b : Purse)
    (d : Retention) : Type 0 where
  pub stood : Stood k slots postings d.ledger
  pub outcome : outcome_of o ≡ d.outcome
  pub account : b.account ≡ d.account
  pub meter : b.meter ≡ d.meter
  pub over : d.ledger.header.limits.atoms ≡ n
  pub within : Within k.rows d.outcome
  pub added : p.added ≡ v.added
  pub few : v.added ≤ c

module _ (n c : ℕ) {x : Progress} (p : TransferState) (slots postings : List ℕ) (v : Transfer) (h : Carried n c x p slots postings v) where
  pub carried-accepted : Accepted p.header slots postings
  carried-accepted = stood-accepted p.header slots postings v.receiver h.stood

  pub carried-atoms : p.header.limits.atoms ≡ n
  carried-atoms = ap (λ (x : LearningLimits). x.atoms) (stood-limits p.header slots postings v.receiver h.stood) ∙ h.over

  -- a tick apart
  pub carried-ticked : (m : Meter) (y : Progress)
      → Carried n c y (record { header = p.header; purse = record { account = p.purse.account; meter = m }; added = p.added })
      slots postings (ticked v m y)
  unfolding ticked
  carried-ticked m y = record
      { stood = h.stood; account = h.account; meter = refl; added = h.added; progress = refl; over = h.over; few = h.few }

  pub carried-up : (k : ℕ) → c ≤ k → Carried n k x p slots postings v
  carried-up k l = record {
    stood = h.stood;
    account = h.account;
    meter = h.meter;
    added = h.added;
    progress = h.progress;
    over = h.over;
    few = let f = h.few in omega arith;
  }

  -- the row in a slot is received
  module _ (row : List ℕ) (s : Stored p.header.limits.atoms row) (tier : LearningLimits) (o : tier.founded_outputs ≤ max_outputs)
      (hits : ℕ) where
    abbrev t : Row
    t = row_in row

    abbrev source : Source
    source = source_of row

    abbrev most : ℕ
    most = max (length t.outputs) tier.founded_outputs

    abbrev run : Read
    run = pay (suc (literals t)) v.account v.meter

    pub carried-received : (y : Result Kept Unpaid) (k : Header) (ws ps : List ℕ) (b : Purse) →
        retain_end y k ws ps b ≡ received_end (lent p.header slots postings) source t tier.founded_outputs hits
        (pay (suc (literals t)) p.purse.account p.purse.meter) →
        Received n c p v y k ws ps b (receive tier hits source t v)
    unfolding receive
    carried-received y k ws ps b e =
        let q : retain_end y k ws ps b ≡ received_end (lent p.header slots postings) source t tier.founded_outputs hits run
        = e
        ∙ ap₂ (λ (a : Account) (m : Meter). received_end (lent p.header slots postings) source t tier.founded_outputs hits
        (pay (suc (literals t)) a m)) h.account h.meter in
        let g = laid-stored p.header.limits.atoms row s in
        let few : most ≤ max_outputs = let i = g.counted.most in let j = g.output_count in omega arith in
        let stood : Stood k ws ps (retain v.receiver most hits source t run).ledger
        = stood-retained p.header slots postings v.receiver h.stood most hits source t run k ws ps few
        (T_true (is_row p.header.limits.atoms t) s.row) (ap (λ (x : End). x.ledger) q) in
        record {
          stood = stood;
          outcome =
              ap (λ (x : End). x.outcome) q ∙ stood-outcome p.header slots postings v.receiver h.stood most hits source t run;
          account =
              ap (λ (x : End). x.account) q ∙ stood-account p.header slots postings v.receiver h.stood most hits source t run;
          meter = ap (λ (x : End). x.meter) q ∙ stood-meter p.header slots postings v.receiver h.stood most hits source t run;
          over = ap (λ (x : LearningLimits). x.atoms) (retain-limits v.receiver hits source t most run) ∙ h.over;
          within = subst (λ (i : ℕ). Within i (retain v.receiver most hits source t run).outcome)
              (sym (stood-rows k ws ps (retain v.receiver most hits source t run).ledger stood))
              (retain-within v.receiver hits source t most run);
          added = h.added;
          few = h.few;
        }

-- ---- at the start
pub carried-start : (p : TransferState) (slots postings : List ℕ) → Stood p.header slots postings (ledger_in (lent p.header slots postings))
    → p.added ≡ 0 → Carried p.header.limits.atoms 0 whole p slots postings (start_of p slots postings)
unfolding starting
carried-start p slots postings s z = record {
  stood = s;
  account = refl;
  meter = refl;
  added = z;
  progress = refl;
  over = ap (λ (x : LearningLimits). x.atoms) (sym (stood-limits p.header slots postings (ledger_in (lent p.header slots postings)) s));
  few = omega arith;
}

-- ---- a row of the giver's slots can be received
pub ready_at : (n i rows : ℕ) (p : TransferState) (slots postings given : List ℕ) (v : Transfer) (o : ℕ)
    → Carried n i whole p slots postings v → RowsOver n rows given → o ≤ max_outputs → i < rows → Ready p slots postings (slot_at given i) o
ready_at n i rows p slots postings given v o h g m l = record {
  atoms = n;
  count = i;
  state = v;
  carried = h;
  room = let f = g.few in omega arith;
  stored = subst (λ (k : ℕ). Stored k (slot_at given i)) (sym (carried-atoms n i p slots postings v h)) (g.stored i l);
  most = m;
}

-- ---- a position is within the words
pub place-fits : (h : Header) (slots postings : List ℕ) (l : Ledger) → Stood h slots postings l → (p : ℕ) → p < h.rows
    → (p < max_rows) × (slot_words * p + slot_words ≤ length slots)
place-fits h slots postings l s p q =
    let a = stood-accepted h slots postings l s in
    let f = a.stands.held.over.few in let n = a.stands.held.over.long in (omega arith, omega arith)

pub outputs-fit : (h : Header) (slots postings : List ℕ) (l : Ledger) → Stood h slots postings l → h.limits.founded_outputs ≤ max_outputs
outputs-fit h slots postings l s =
    subst (λ (x : LearningLimits). x.founded_outputs ≤ max_outputs) (sym (stood-limits h slots postings l s))
    (most-ok l.header.limits (T_of {x = limits_ok l.header.limits} s.good.limits)).1
