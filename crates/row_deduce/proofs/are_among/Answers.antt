-- `row_deduce::are_among`: the test is the definition's. Assumes nothing.
use mathlib.Core.Path.{refl}
use Rattle.model.specs.Operations.{bits_among}
use Rattle.row_deduce.proofs.are_among.Goals as goal

pub returns : goal.returns
unfolding bits_among
returns c = refl
