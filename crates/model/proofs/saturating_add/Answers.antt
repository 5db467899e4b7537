use native.Mathlib.Omega.{arith}
use Rattle.model.specs.Records.{saturating_add}
use Rattle.model.proofs.saturating_add.Goals as goal

pub returns : goal.returns
unfolding saturating_add
returns c = omega arith
