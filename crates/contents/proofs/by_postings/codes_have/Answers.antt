use Rattle.std.proofs.Common.{◌∙◌}
use Rattle.std.proofs.Math.Dec.{leb}
use Rattle.contents.specs.Lent.{top}
use Rattle.contents.proofs.Walks.{has-next, has_end}
use Rattle.contents.proofs.by_postings.codes_have.Goals as goal

pub loop-code-preserved : goal.loop-code-preserved
loop-code-preserved c =
    let a = c.args in
    let l = c.loop-code in
    has-next a.atom a.codes.now l.code-index l.bits _ c.loop-code-test.true c.code_mark-bits.ensures ∙ l.invariant

pub returns : goal.returns
returns c =
    let a = c.args in
    let l = c.loop-code in
    has_end a.atom a.codes.now l.code-index (leb top l.bits) c.loop-code-test.false ∙ l.invariant
