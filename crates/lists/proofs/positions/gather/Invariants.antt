-- The invariant of `gather` is `Gathered`. Assumes nothing.
use Rattle.lists.proofs.positions.Gathering.{Gathered}
use Rattle.lists.proofs.positions.gather.Given as goal

abbrev pub invariant-loop-p : goal.invariant-loop-p
invariant-loop-p l = Gathered l.initial.out l.out l.k l.p
