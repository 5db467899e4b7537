use Rattle.words.specs.Region.{has}
use Rattle.tier.proofs.Closing.{Down}
use Rattle.tier.proofs.close_up.Given as goal

abbrev pub invariant-loop-i : goal.invariant-loop-i
invariant-loop-i l = Down (has l.replaced) l.rows l.first l.initial.slots l.slots l.to l.i
