-- `words::contradicts`: by the sides exchanged. Assumes nothing.
use mathlib.Core.Path.{◌∙◌}
use Rattle.words.proofs.Deciding.{holds-turned}
use Rattle.words.proofs.contradicts.Goals as goal

pub returns : goal.returns
returns c = c.holds.ensures ∙ holds-turned c.args.held.now c.args.cut.now c.args.literal
