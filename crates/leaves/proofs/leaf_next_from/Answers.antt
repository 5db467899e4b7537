-- `leaf_next_from` meets its contract: the words are those of what was found. Assumes nothing.
use Rattle.leaves.proofs.Leaving.{found_as}
use Rattle.leaves.proofs.leaf_next_from.Goals as goal

pub returns-in-Some : goal.returns-in-Some
returns-in-Some c =
    found_as c.args.words.now c.args.from c.next_from.ensures c.in-Some.is

pub returns-in-None : goal.returns-in-None
returns-in-None c =
    found_as c.args.words.now c.args.from c.next_from.ensures c.in-None.is
