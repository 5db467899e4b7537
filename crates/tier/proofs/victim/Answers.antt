use native.Mathlib.Omega.{arith}
use mathlib.Core.Path.{◌∙◌}
use Rattle.tier.proofs.Victims.{victim-step, victim-end, least-in}
use Rattle.tier.proofs.victim.Goals as goal

pub loop-i-preserved : goal.loop-i-preserved
loop-i-preserved c =
    let k = c.loop-i.invariant in
    let e = c.least_after-least.ensures in
    record {
      within = rw e (least-in _ _ c.requires c.args.guarded _ _ k.within (omega arith));
      same = rw e (victim-step _ _ c.requires c.args.guarded _ _ k.within (omega arith) ∙ k.same);
    }

pub returns : goal.returns
returns c = victim-end _ _ c.requires c.args.guarded _ c.loop-i.i (omega arith) c.loop-i.invariant.same
