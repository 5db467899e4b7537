-- `operations::fresh_header`. The definition's header, field by field. Assumes nothing.
use mathlib.Core.Path.{refl}
use Rattle.model.specs.Records.{fresh}
use Rattle.operations.proofs.fresh_header.Goals as goal

pub returns : goal.returns
unfolding fresh
returns c = refl
