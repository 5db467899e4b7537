use mathlib.Core.Path.{◌∙◌}
use Rattle.tier.proofs.Moving.{move_all}
use Rattle.tier.proofs.move_slot.Goals as goal

pub returns : goal.returns
returns c = c.copy_within.ensures.after ∙ move_all c.args.slots.now c.args.from c.args.to
