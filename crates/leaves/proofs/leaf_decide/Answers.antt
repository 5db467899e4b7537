-- `leaf_decide` meets its contract: a region is decided as by `decide`; else nothing is written. Assumes nothing.
use Rattle.leaves.proofs.Fitting.{yes, no}
use Rattle.leaves.proofs.Leaving.{decide-unmarked, decide-done}
use Rattle.leaves.proofs.leaf_decide.Goals as goal

pub returns-then-not-is_region : goal.returns-then-not-is_region
returns-then-not-is_region c = decide-unmarked _ _ _ _ _ _ (no c.is_region.ensures c.if-not-is_region.true)

pub returns : goal.returns
returns c =
    decide-done c.args.atoms c.args.held.now c.args.cut.now c.args.atom c.args.value c.args.answer.now
    (yes c.is_region.ensures c.if-not-is_region.false) c.decide-done.ensures c.flag_word.ensures
