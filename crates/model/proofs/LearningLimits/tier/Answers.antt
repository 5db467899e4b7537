-- `LearningLimits::tier`. Assumes nothing.
use mathlib.Core.Path.{refl}
use Rattle.model.specs.Records.{limits_of, tier_limits}
use Rattle.model.proofs.LearningLimits.tier.Goals as goal

pub returns : goal.returns
unfolding limits_of tier_limits
returns c = refl
