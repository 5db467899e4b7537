-- `contents::by_postings::literal_count`. No more postings than literals. Assumes nothing.
use native.Mathlib.Omega.{arith}
use Rattle.contents.proofs.Holding.{held-most}
use Rattle.contents.proofs.by_postings.literal_count.Goals as goal

pub returns : goal.returns
returns c =
    let f = c.requires.laid.counted in
    let n = f.few in
    let m = f.most in
    (held-most c.args.slot.now c.requires, omega arith)
