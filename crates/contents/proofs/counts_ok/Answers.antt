-- `contents::counts_ok`. One law for each way out. Assumes nothing.
use Rattle.contents.proofs.Limits.{rows-over, epoch-over, counts-last}
use Rattle.contents.proofs.counts_ok.Goals as goal

pub returns-then-header : goal.returns-then-header
returns-then-header c = rows-over c.args.header c.if-header.true

pub returns-then-header-2 : goal.returns-then-header-2
returns-then-header-2 c = epoch-over c.args.header c.if-header-2.true

pub returns : goal.returns
returns c =
    counts-last c.args.header c.if-header.false c.if-header-2.false
