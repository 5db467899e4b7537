-- `row_deduce::conditions`: the side that is read has the chunks of the row's conditions. Assumes nothing.
use mathlib.Core.Path.{◌≡◌, sym, ap, ◌∙◌, subst}
use mathlib.Core.Bool.{true}
use mathlib.Core.List.{List, []}
use Prim.Native.Nat.{ℕ}
use native.Mathlib.Omega.{arith}
use Rattle.words.specs.Region.{Region, region}
use Rattle.meter.proofs.Payments.{passed}
use Rattle.model.specs.Rows.{packed}
use Rattle.model.specs.Slots.{row_in}
use Rattle.model.specs.Deduction.{chunks}
use Rattle.slots.specs.declared.Side.{Side}
use Rattle.slots.proofs.Storing.{laid-stored}
use Rattle.row_deduce.specs.Chunks.{chunks_of, Walkable, OneSigned}
use Rattle.row_deduce.specs.declared.ConditionState.{ConditionState}
use Rattle.row_deduce.specs.Walks.{Walked, read_conditions}
use Rattle.row_deduce.proofs.Walks.{walked-on}
use Rattle.row_deduce.proofs.Turns.{walk_start, walk_end, turn_stopped, chunk-idle, chunk-second, chunk-holds, chunk-opens}
use Rattle.row_deduce.proofs.Stored.{condition-chunks, conditions-readable, conditions-walkable}
use Rattle.row_deduce.proofs.conditions.Goals.{After-conditions-side, in-Holds, in-Undecided+in-Holds-state}
use Rattle.row_deduce.proofs.conditions.Goals as goal

-- the side that was read
module _ (c : After-conditions-side) where
  abbrev r : Region
  r = region c.args.held.now c.args.cut.now

  whole : {w : Walked ConditionState}
      → w ≡ read_conditions (region c.args.held.now c.args.cut.now) [] (chunks_of c.args.slot.now c.conditions-side.result) c.args.meter.now
      → w ≡ read_conditions (region c.args.held.now c.args.cut.now) []
      (chunks (packed (row_in c.args.slot.now)) (row_in c.args.slot.now).conditions) c.args.meter.now
  whole e =
      e
      ∙ ap (λ (x : Side). read_conditions r [] (chunks_of c.args.slot.now x) c.args.meter.now) c.conditions-side.ensures
      ∙ ap (λ (ks : List (List ℕ)). read_conditions r [] ks c.args.meter.now)
      (condition-chunks c.requires.holds.atoms c.args.slot.now c.requires.holds.stored)

pub conditions-side-requires : goal.conditions-side-requires
conditions-side-requires c =
    let l = (laid-stored c.requires.holds.atoms c.args.slot.now c.requires.holds.stored).long in omega arith

pub loop-g-init : goal.loop-g-init
loop-g-init c = walk_start (region c.args.held.now c.args.cut.now) c.args.slot.now c.conditions-side.result c.args.meter.now

pub returns-in_err-tick : goal.returns-in_err-tick
returns-in_err-tick c =
    let l = c.loop-g in
    walked-on _ (passed c.from_residual.ensures.1)
    (whole (goal.at.returns-in_err-tick c).After-conditions-side
    (turn_stopped _ _ _ _ l.state l.g l.meter l.invariant c.loop-g-test.true c.in_err-tick.ensures))

pub chunk_state-requires : goal.chunk_state-requires
chunk_state-requires c =
    let a = c.args in record {
      fact_1 = subst (λ (x : Side). Walkable a.slot.now x a.held.now a.cut.now) (sym c.conditions-side.ensures)
          (conditions-walkable a.slot.now a.held.now a.cut.now c.requires);
      fact_2 = subst (λ (x : Side). x.packed ≡ true → OneSigned a.slot.now x) (sym c.conditions-side.ensures)
          (λ p. (conditions-readable a.slot.now a.held.now a.cut.now c.requires p).1);
      fact_3 = c.loop-g-test.true;
    }

pub returns-in-Idle : goal.returns-in-Idle
returns-in-Idle c =
    let l = c.loop-g in
    whole (goal.at.returns-in-Idle c).After-conditions-side
    (chunk-idle _ _ _ _ l.state l.g l.meter l.invariant c.loop-g-test.true c.in_ok-tick.ensures c.in-Idle.ensures)

pub returns-in_default : goal.returns-in_default
returns-in_default c =
    let l = c.loop-g in
    whole (goal.at.returns-in_default c).After-conditions-side
    (chunk-second _ _ _ _ l.state l.g l.meter l.invariant c.loop-g-test.true c.in_ok-tick.ensures c.in-Undecided.code
    c.in-Undecided.ensures c.in_default.not-Holds)

pub loop-g-preserved : goal.loop-g-preserved
loop-g-preserved c =
    let l = c.loop-g in
    elim c.match-chunk_state.branch [
      | in-Holds w ↦ rw w.state-is
          (chunk-holds _ _ _ _ l.state l.g l.meter l.invariant c.loop-g-test.true c.in_ok-tick.ensures w.in-Holds.ensures)
      | in-Undecided+in-Holds-state w ↦ rw w.state-is
          (chunk-opens _ _ _ _ l.state l.g l.meter l.invariant c.loop-g-test.true c.in_ok-tick.ensures w.in-Undecided.code
          w.in-Undecided.ensures w.in-Holds-state.is)
    ]

pub returns : goal.returns
returns c =
    let l = c.loop-g in
    whole (goal.at.returns c).After-conditions-side
    (walk_end _ _ _ _ l.state l.g l.meter l.invariant c.loop-g-test.false)
