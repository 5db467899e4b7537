-- `wire::header_of`. The words in order. Assumes nothing.
use Rattle.wire.specs.Words.{limits_in}
use Rattle.wire.proofs.Reading.{header-parts}
use Rattle.wire.proofs.header_of.Goals as goal

pub returns : goal.returns
unfolding limits_in
returns c =
    header-parts _
    c.limits_of-limits.ensures c.mark_of-mark.ensures
