-- `model::source_of`. By the word. Assumes nothing.
use Rattle.model.proofs.Slots.{source-tip, source-founded}
use Rattle.model.proofs.source_of.Goals as goal

pub returns-then-word-eq1 : goal.returns-then-word-eq1
returns-then-word-eq1 c = source-tip _ c.if-word-eq1.true

pub returns : goal.returns
returns c = source-founded _ c.if-word-eq1.false
