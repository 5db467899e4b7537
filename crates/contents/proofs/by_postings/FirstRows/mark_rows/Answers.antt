use mathlib.Core.Path.{refl, subst}
use Prim.Native.Nat.{◌+◌}
use native.Mathlib.Omega.{arith}
use Rattle.contents.specs.Marked.{Form}
use Rattle.contents.proofs.Filing.{rows-some, holds-code, total-start, total-step, total-end}
use Rattle.contents.proofs.Marks.{marked-put, total-code}
use Rattle.contents.proofs.by_postings.FirstRows.mark_rows.Goals as goal

pub loop-p-init : goal.loop-p-init
loop-p-init c =
    let t = total-start _ _ (rows-some c.args.self.held) in
    (omega arith, omega arith, c.requires)

pub literal_count-count-requires : goal.literal_count-count-requires
literal_count-count-requires c =
    holds-code _ _ (rows-some c.args.self.held) c.loop-p.p c.slot_at-slot.ensures.slot c.loop-p-test.true

pub first_place-requires : goal.first_place-requires
first_place-requires c =
    holds-code _ _ (rows-some c.args.self.held) c.loop-p.p c.slot_at-slot.ensures.slot c.loop-p-test.true

pub loop-p-preserved : goal.loop-p-preserved
loop-p-preserved c =
    let l = c.loop-p-test.true in
    let n = c.literal_count-count.ensures in
    let t = total-step _ _ (rows-some c.args.self.held) c.loop-p.p _ c.slot_at-slot.ensures.slot l refl in
    let f = c.args.self.held.few in (
      omega arith,
      omega arith,
      marked-put c.loop-p.p (c.loop-p.p + 1) c.args.self.slots.now c.loop-p.places c.loop-p.p _ (omega arith)
          (omega arith)
          (omega arith) c.loop-p.invariant.2
          (subst (Form _) (total-code c.args.self.slots.now c.loop-p.p c.slot_at-slot.ensures.slot) c.first_place.ensures),
    )

pub returns-clause-lower_bound : goal.returns-clause-lower_bound
returns-clause-lower_bound c =
    let z = total-end _ _ (rows-some c.args.self.held) c.loop-p.p c.loop-p-test.false in
    (omega (arith, c.loop-p.invariant.1), omega (arith, c.loop-p.invariant.0, c.loop-p-test.false))
