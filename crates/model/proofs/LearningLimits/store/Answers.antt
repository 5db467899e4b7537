-- `LearningLimits::store`. Assumes nothing.
use mathlib.Core.Path.{refl}
use Rattle.model.specs.Records.{limits_of, store_limits}
use Rattle.model.proofs.LearningLimits.store.Goals as goal

pub returns : goal.returns
unfolding limits_of store_limits
returns c = refl
