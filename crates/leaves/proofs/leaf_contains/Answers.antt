-- `leaf_contains` meets its contract: the flag of the test. Assumes nothing.
use mathlib.Core.Path.{ap, ◌∙◌}
use Rattle.model.specs.Answers.{flag_word}
use Rattle.leaves.proofs.leaf_contains.Goals as goal

pub returns : goal.returns
returns c = c.flag_word.ensures ∙ ap flag_word c.contains.ensures
