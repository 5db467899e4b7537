use Rattle.std.proofs.Common.{◌∙◌, arith, not}
use Rattle.std.proofs.Math.Dec.{eqb}
use Rattle.contents.proofs.Walks.{group-next, group-end}
use Rattle.contents.proofs.by_postings.groups_have.Goals as goal

pub loop-group-preserved : goal.loop-group-preserved
loop-group-preserved c =
    let a = c.args in
    let l = c.loop-group in
    let s = c.in-Some.ensures.steps in record {
      size = s.0 ∙ l.invariant.size;
      met = group-next a.atom _ _ _ s.1.0 (s.1.1 ∙ l.invariant.size) l.bits _ c.group_mark-bits.ensures ∙ l.invariant.met;
    }

pub returns : goal.returns
returns c =
    let l = c.loop-group in
    group-end c.args.atom _ (not (eqb l.bits 0)) (omega (arith, c.in-None.ensures.steps.1.0, l.invariant.size)) ∙ l.invariant.met
