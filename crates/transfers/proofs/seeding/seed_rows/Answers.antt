use native.Mathlib.Omega.{arith}
use mathlib.Core.Path.{◌≡◌, subst}
use mathlib.Core.List.{List}
use Prim.Native.Nat.{ℕ}
use Rattle.meter.proofs.Payments.{passed}
use Rattle.model.specs.declared.Header.{Header}
use Rattle.model.specs.Records.{Entry}
use Rattle.model.specs.Slots.{entries_in}
use Rattle.model.specs.Transfers.{Transfer, whole, seed_rows}
use Rattle.model.proofs.Slots.{entries-length}
use Rattle.transfers.specs.Transfer.{start_of, Carried}
use Rattle.transfers.proofs.Entries.{entries-part}
use Rattle.transfers.proofs.Carrying.{carried-start, outputs-fit}
use Rattle.transfers.proofs.RowsSeeded.{row-ready, seeding-start, seeding-end, seeding-turn, seeding-stop}
use Rattle.transfers.proofs.seeding.seed_rows.Goals.{Start}
use Rattle.transfers.proofs.seeding.seed_rows.Goals as goal

module _ (t : Start) where
  abbrev h : Header
  h = t.args.transfer.now.header

  abbrev es : List Entry
  es = entries_in t.args.rows t.args.given.now

  abbrev v₀ : Transfer
  v₀ = start_of t.args.transfer.now t.args.slots.now t.args.postings.now

pub loop-i-init : goal.loop-i-init
loop-i-init c =
    let t = (goal.at.loop-i-init c).Start in
    seeding-start (h t).limits c.args.mark (es t) (v₀ t) (h t).limits.atoms _ _ _
    (carried-start c.args.transfer.now _ _ c.requires.fact_1 c.requires.fact_3)

pub seed_row-requires : goal.seed_row-requires
seed_row-requires c =
    let s = c.loop-i.invariant in
    row-ready c.args.transfer.now.header.limits.atoms c.loop-i.i c.args.rows c.loop-i.transfer _ _ c.args.given.now s.state _ s.carried
    c.requires.fact_2 (outputs-fit c.args.transfer.now.header _ _ _ c.requires.fact_1) c.loop-i-test.true

pub returns-in_err-seed_row : goal.returns-in_err-seed_row
returns-in_err-seed_row c =
    let t = (goal.at.returns-in_err-seed_row c).Start in
    let s = c.loop-i.invariant in
    seeding-stop (h t).limits c.args.mark (es t) (v₀ t) (h t).limits.atoms c.loop-i.i c.loop-i.transfer _ _ s _
    (entries-part c.args.rows c.args.given.now c.loop-i.i c.loop-i-test.true) _ _ _ _ _ (passed c.from_residual.ensures.1)
    (c.in_err-seed_row.ensures (h t).limits.atoms c.loop-i.i s.state s.carried) c.args.rows c.loop-i-test.true

pub loop-i-preserved : goal.loop-i-preserved
loop-i-preserved c =
    let t = (goal.at.loop-i-preserved c).Start in
    let s = c.loop-i.invariant in
    seeding-turn (h t).limits c.args.mark (es t) (v₀ t) (h t).limits.atoms c.loop-i.i c.loop-i.transfer _ _ s _
    (entries-part c.args.rows c.args.given.now c.loop-i.i c.loop-i-test.true) _ _ _
    (c.in_ok-seed_row.ensures (h t).limits.atoms c.loop-i.i s.state s.carried)

pub returns : goal.returns
returns c =
    let t = (goal.at.returns c).Start in
    let e : c.loop-i.i ≡ c.args.rows = omega arith in
    subst
    (λ (i : ℕ). Carried (h t).limits.atoms i whole c.loop-i.transfer c.loop-i.slots c.loop-i.postings
    (seed_rows (h t).limits c.args.mark (es t) (v₀ t))) e
    (seeding-end (h t).limits c.args.mark (es t) (v₀ t) (h t).limits.atoms c.loop-i.i c.loop-i.transfer _ _ c.loop-i.invariant
    (omega (arith, entries-length c.args.rows c.args.given.now)))
