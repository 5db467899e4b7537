-- `write_row` meets its contract: eight words, then the body, then the source. Assumes nothing.
use native.Mathlib.Omega.{arith}
use Rattle.row_write.proofs.Laying.{slot-words}
use Rattle.row_write.proofs.Proposal.{counts}
use Rattle.row_write.proofs.write_row.Goals as goal

pub bounds-p-0 : goal.bounds-p-0
bounds-p-0 c = let k = counts c.requires.fact_2 in omega arith

pub bounds-p-1 : goal.bounds-p-1
bounds-p-1 c = let k = counts c.requires.fact_2 in omega arith

pub returns : goal.returns
returns c =
    let a = c.args in
    slot-words a.slot.now c.write_head.new.head c.write_body.new.body a.p.now a.form a.hits a.born
    c.source_word.result a.source c.requires.fact_1 c.requires.fact_2 c.requires.fact_3 c.write_head.ensures c.write_body.ensures
    c.source_word.ensures
