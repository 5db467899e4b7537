-- `row_deduce::outputs`: the side that is read has the chunks of the row's outputs. Assumes nothing.
use mathlib.Core.Path.{◌≡◌, sym, ap, ◌∙◌, subst}
use mathlib.Core.List.{List}
use Prim.Native.Nat.{ℕ}
use native.Mathlib.Omega.{arith}
use Rattle.std.specs.Prelude.{Option}
use Rattle.words.specs.Region.{Region, region}
use Rattle.meter.proofs.Payments.{passed}
use Rattle.model.specs.Rows.{packed}
use Rattle.model.specs.Slots.{row_in}
use Rattle.model.specs.Deduction.{chunks}
use Rattle.slots.specs.declared.Side.{Side}
use Rattle.slots.proofs.Storing.{laid-stored}
use Rattle.row_deduce.specs.Chunks.{chunks_of, Walkable}
use Rattle.row_deduce.specs.Walks.{Walked, done, read_outputs}
use Rattle.row_deduce.proofs.Walks.{walked-on}
use Rattle.row_deduce.proofs.Turns.{pass-start, pass-end, pass-stopped, pass-hit, pass_on}
use Rattle.row_deduce.proofs.Stored.{output-chunks, outputs-walkable}
use Rattle.row_deduce.proofs.outputs.Goals.{After-outputs-side}
use Rattle.row_deduce.proofs.outputs.Goals as goal

-- the side that was read
module _ (c : After-outputs-side) where
  abbrev r : Region
  r = region c.args.held.now c.args.cut.now

  whole : {w : Walked (Option ℕ)}
      → w ≡ read_outputs (region c.args.held.now c.args.cut.now) (chunks_of c.args.slot.now c.outputs-side.result) c.args.meter.now
      → w ≡ read_outputs (region c.args.held.now c.args.cut.now)
      (chunks (packed (row_in c.args.slot.now)) (row_in c.args.slot.now).outputs) c.args.meter.now
  whole e =
      e
      ∙ ap (λ (x : Side). read_outputs r (chunks_of c.args.slot.now x) c.args.meter.now) c.outputs-side.ensures
      ∙ ap (λ (ks : List (List ℕ)). read_outputs r ks c.args.meter.now)
      (output-chunks c.requires.holds.atoms c.args.slot.now c.requires.holds.stored)

pub outputs-side-requires : goal.outputs-side-requires
outputs-side-requires c =
    let laid = laid-stored c.requires.holds.atoms c.args.slot.now c.requires.holds.stored in record {
      fact_1 = let l = laid.long in omega arith;
      fact_2 = laid.counted;
    }

pub loop-g-init : goal.loop-g-init
loop-g-init c = pass-start (region c.args.held.now c.args.cut.now) c.args.slot.now c.outputs-side.result c.args.meter.now

pub returns-in_err-tick : goal.returns-in_err-tick
returns-in_err-tick c =
    let l = c.loop-g in
    walked-on _ (passed c.from_residual.ensures.1)
    (whole (goal.at.returns-in_err-tick c).After-outputs-side
    (pass-stopped _ _ _ _ l.g l.meter l.invariant c.loop-g-test.true c.in_err-tick.ensures))

pub chunk_contradicted-found-requires : goal.chunk_contradicted-found-requires
chunk_contradicted-found-requires c =
    let a = c.args in record {
      fact_1 = subst (λ (x : Side). Walkable a.slot.now x a.held.now a.cut.now) (sym c.outputs-side.ensures)
          (outputs-walkable a.slot.now a.held.now a.cut.now c.requires);
      fact_2 = c.loop-g-test.true;
    }

pub returns-in-Some : goal.returns-in-Some
returns-in-Some c =
    let l = c.loop-g in
    whole (goal.at.returns-in-Some c).After-outputs-side
    (ap (λ (x : Option ℕ). done x c.tick.new.self) c.in-Some.is
    ∙ pass-hit _ _ _ _ l.g l.meter l.invariant c.loop-g-test.true c.in_ok-tick.ensures (sym c.in-Some.ensures))

pub loop-g-preserved : goal.loop-g-preserved
loop-g-preserved c =
    let l = c.loop-g in
    pass_on _ _ _ _ l.g l.meter l.invariant c.loop-g-test.true c.in_ok-tick.ensures (sym c.in_default.ensures)

pub returns : goal.returns
returns c =
    let l = c.loop-g in
    whole (goal.at.returns c).After-outputs-side (pass-end _ _ _ _ l.g l.meter l.invariant c.loop-g-test.false)
