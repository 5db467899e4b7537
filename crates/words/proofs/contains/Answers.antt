-- `words::contains`: the bit at the atom's place, or an atom beyond the words. Assumes nothing.
use Rattle.words.proofs.Places.{contains-place, contains-out}
use Rattle.words.proofs.contains.Goals as goal

pub returns-then-word-words : goal.returns-then-word-words
returns-then-word-words c = contains-place _ _ _ c.locate-place.ensures

pub returns-else-word-words : goal.returns-else-word-words
returns-else-word-words c = contains-out _ _ _ c.locate-place.ensures c.if-word-words.false
