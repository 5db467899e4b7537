use native.Mathlib.Omega.{arith}
use Rattle.tier.proofs.Closing.{down_turn, down-end}
use Rattle.tier.proofs.close_up.Goals as goal

pub loop-i-preserved : goal.loop-i-preserved
loop-i-preserved c = down_turn _ _ _ _ _ _ _ _ _ c.loop-i.invariant (omega arith) c.keep-to.ensures

pub returns : goal.returns
returns c =
    down-end _ _ _ _ _ _ _ _ c.requires.fact_1 c.requires.fact_2 (omega arith) c.loop-i.invariant (omega arith)
    c.fill_zero.ensures
