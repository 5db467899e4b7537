-- `words::next_from`. The loop: no atom of the words before `index` is at or after `from`, and the mask has the places of word `index` that
-- are. Assumes nothing.
use Rattle.words.proofs.Seeking.{Seeking}
use Rattle.words.proofs.next_from.Given as goal

abbrev pub invariant-loop-index : goal.invariant-loop-index
invariant-loop-index l = Seeking l.words l.from l.index l.mask
