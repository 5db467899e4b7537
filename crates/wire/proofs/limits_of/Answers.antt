-- `wire::limits_of`. The words in order. Assumes nothing.
use mathlib.Core.Path.{refl}
use Rattle.wire.specs.Words.{limits_in}
use Rattle.wire.proofs.limits_of.Goals as goal

pub returns : goal.returns
unfolding limits_in
returns c = refl
