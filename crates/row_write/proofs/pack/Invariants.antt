-- `pack` meets its contract: zeros, then the groups of the codes passed, from the last one on. Assumes nothing.
use lib.ListN.{length}
use Rattle.row_write.proofs.Packing.{Packing, First}
use Rattle.row_write.proofs.pack.Given as goal

abbrev pub invariant-loop-code : goal.invariant-loop-code
invariant-loop-code l =
    First l.codes l.code-iterator.iter.rest.now × Packing l.codes l.at (length l.code-iterator.iter.rest.now) l.out
