-- `contents::by_postings::code_steps`. A code of an atom other than 0 at a place of the body is one of the row's. Assumes nothing.
use Rattle.std.proofs.Common.{arith}
use Rattle.contents.proofs.Near.{codes-sure}
use Rattle.contents.proofs.Holding.{from-one, one-le}
use Rattle.contents.proofs.by_postings.code_steps.Goals as goal

pub returns : goal.returns
returns c =
    let x = from-one _ c.from-first.ensures in
    let y = from-one _ c.from-second.ensures in (
      omega (arith, x, y, one-le),
      codes-sure c.args.slot.now c.requires.fact_1 c.requires.fact_2 _ _ c.args.atom _ _ (omega arith) (omega (arith, c.requires.fact_3))
          x y,
    )
