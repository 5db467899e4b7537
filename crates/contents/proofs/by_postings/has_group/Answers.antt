-- `contents::by_postings::has_group`. A group with the atom at a place of the body is one of the row's. Assumes nothing.
use native.Mathlib.Omega.{arith}
use Rattle.contents.proofs.Near.{groups-sure}
use Rattle.contents.proofs.by_postings.has_group.Goals as goal

pub returns : goal.returns
returns c =
    groups-sure c.args.slot.now c.requires.fact_1 c.requires.fact_2 _ _ c.args.atom
    c.group_mark-first.result c.group_mark-second.result (omega arith) (omega (arith, c.requires.fact_3)) c.group_mark-first.ensures
    c.group_mark-second.ensures
