-- `words::insert`: the word at the atom's place with its bit, or nothing changed. Assumes nothing.
use Rattle.words.proofs.Places.{insert-place, insert-out}
use Rattle.words.proofs.insert.Goals as goal

pub returns-then-word-words : goal.returns-then-word-words
returns-then-word-words c = insert-place _ _ _ c.locate-place.ensures

pub returns-else-word-words : goal.returns-else-word-words
returns-else-word-words c = insert-out _ _ _ c.locate-place.ensures c.if-word-words.false
