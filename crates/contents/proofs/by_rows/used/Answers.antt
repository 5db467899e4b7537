use Rattle.std.proofs.Common.{arith}
use Rattle.contents.proofs.Filing.{zero_one}
use Rattle.contents.proofs.by_rows.used.Goals as goal

pub loop-i-preserved : goal.loop-i-preserved
loop-i-preserved c =
    zero_one c.args.words.now c.loop-i.i c.loop-i-test.true (omega (arith, c.loop-i.auto.i, c.zeros_from-n.ensures.0))
    c.if-words-i-ne0.false c.loop-i.invariant
