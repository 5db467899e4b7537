use native.Mathlib.Omega.{arith}
use mathlib.Core.Path.{◌≡◌, sym, subst}
use mathlib.Core.List.{List, ◌∷◌, ◌++◌}
use Prim.Native.Nat.{ℕ, ◌+◌, ◌<◌}
use lib.ListN.{length, drop}
use Rattle.meter.proofs.Payments.{passed}
use Rattle.model.specs.declared.Header.{Header}
use Rattle.model.specs.Records.{Entry}
use Rattle.model.specs.Slots.{entry_in, entries_in}
use Rattle.model.specs.Transfers.{Transfer, whole, deliver_rows}
use Rattle.model.proofs.Slots.{entries-length}
use Rattle.slots.specs.Layout.{slot_at}
use Rattle.retain_keep.specs.Stood.{Stood}
use Rattle.transfers.specs.Transfer.{start_of, Carried}
use Rattle.transfers.specs.Handing.{Delivered}
use Rattle.transfers.proofs.Carrying.{carried-start}
use Rattle.transfers.proofs.RowsDelivered.{tier-fits, tier-entry, tier-ready, Delivering, delivering-start}
use Rattle.transfers.proofs.RowsDelivered.{delivering-end, delivering-turn, delivering-stop}
use Rattle.transfers.proofs.delivering.deliver_rows.Goals.{At-loop-i}
use Rattle.transfers.proofs.delivering.deliver_rows.Goals as goal

module _ (l : At-loop-i) where
  abbrev h : Header
  h = l.args.tier

  abbrev es : List Entry
  es = entries_in h.rows l.args.tier_slots.now

  abbrev v₀ : Transfer
  v₀ = start_of l.args.transfer.now l.args.store_slots.now l.args.store_postings.now

  abbrev inv : Delivering h.limits es v₀ h.limits.atoms l.loop-i.i l.loop-i.transfer l.loop-i.store_slots
      l.loop-i.store_postings l.args.tier_slots.now l.loop-i.tier_slots
  inv = l.loop-i.invariant

  -- the tier as it is now
  stands : Stood h l.loop-i.tier_slots l.requires.fact_1.postings (record { header = h; entries = inv.done ++ drop l.loop-i.i es })
  stands = inv.keeps h l.requires.fact_1.postings h l.requires.fact_1.stood

  abbrev next : Entry
  next = entry_in (slot_at l.loop-i.tier_slots l.loop-i.i)

  -- a row is left
  module _ (r : l.loop-i.i < h.rows) where
    some : l.loop-i.i < length es
    some = subst (λ (n : ℕ). l.loop-i.i < n) (sym (entries-length h.rows l.args.tier_slots.now)) r

    at_next : drop l.loop-i.i es ≡ next ∷ drop (l.loop-i.i + 1) es
    at_next = tier-entry h l.loop-i.tier_slots l.requires.fact_1.postings h inv.done es l.loop-i.i inv.long stands some

pub loop-i-init : goal.loop-i-init
loop-i-init c =
    let h = c.args.tier in
    delivering-start h.limits (entries_in h.rows c.args.tier_slots.now) _ h.limits.atoms _ _ _ _
    (subst
    (λ (n : ℕ). Carried n 0 whole c.args.transfer.now c.args.store_slots.now c.args.store_postings.now
    (start_of c.args.transfer.now c.args.store_slots.now c.args.store_postings.now)) (sym c.requires.fact_3)
    (carried-start c.args.transfer.now _ _ c.requires.fact_2 c.requires.fact_4))

pub deliver_row-requires : goal.deliver_row-requires
deliver_row-requires c =
    let l = (goal.at.deliver_row-requires c).At-loop-i in
    let r = some l c.loop-i-test.true in
    let ps = c.requires.fact_1.postings in record {
      fact_1 = tier-ready (h l) c.loop-i.tier_slots ps (h l) (inv l).done (es l) c.loop-i.i (inv l).long (stands l) r
          c.loop-i.transfer c.loop-i.store_slots c.loop-i.store_postings (inv l).state (inv l).carried;
      fact_2 = tier-fits (h l) c.loop-i.tier_slots ps (h l) (inv l).done (es l) c.loop-i.i (inv l).long (stands l) r;
    }

pub returns-in_err-deliver_row : goal.returns-in_err-deliver_row
returns-in_err-deliver_row c =
    let l = (goal.at.returns-in_err-deliver_row c).At-loop-i in
    delivering-stop (h l).limits (es l) (v₀ l) (h l).limits.atoms c.loop-i.i c.loop-i.transfer _ _ _ _ (inv l)
    (next l) (at_next l c.loop-i-test.true) _ _ _ _ _ _ (passed c.from_residual.ensures.1)
    (c.in_err-deliver_row.ensures (h l).limits.atoms c.loop-i.i (inv l).state (inv l).carried) (h l).rows c.loop-i-test.true

pub loop-i-preserved : goal.loop-i-preserved
loop-i-preserved c =
    let l = (goal.at.loop-i-preserved c).At-loop-i in
    delivering-turn (h l).limits (es l) (v₀ l) (h l).limits.atoms c.loop-i.i c.loop-i.transfer _ _ _ _ (inv l)
    (next l) (at_next l c.loop-i-test.true) _ _ _ _
    (c.in_ok-deliver_row.ensures (h l).limits.atoms c.loop-i.i (inv l).state (inv l).carried)

pub returns : goal.returns
returns c =
    let l = (goal.at.returns c).At-loop-i in
    let e : c.loop-i.i ≡ c.args.tier.rows = omega arith in
    subst
    (λ (i : ℕ). Delivered (h l).limits.atoms i whole c.loop-i.transfer c.loop-i.store_slots c.loop-i.store_postings c.args.tier_slots.now
    c.loop-i.tier_slots (es l) (deliver_rows (h l).limits (es l) (v₀ l))) e
    (delivering-end (h l).limits (es l) (v₀ l) (h l).limits.atoms c.loop-i.i c.loop-i.transfer _ _ _ _ (inv l)
    (omega (arith, entries-length c.args.tier.rows c.args.tier_slots.now)))
