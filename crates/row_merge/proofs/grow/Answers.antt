-- `grow` meets its contract: the new count, then the outputs over the old ones. Assumes nothing.
use native.Mathlib.Omega.{arith}
use Rattle.row_merge.proofs.Growing.{grow-fits, grow-room, grow-is}
use Rattle.row_merge.proofs.grow.Goals as goal

pub slice_bounds-copy-count : goal.slice_bounds-copy-count
slice_bounds-copy-count c = let f = grow-fits c.args.p.now c.args.outputs.now c.requires.fact_1 c.requires.fact_2 in omega (arith, f.0, f.1)

pub slice_bounds-copy-start : goal.slice_bounds-copy-start
slice_bounds-copy-start c = let f = grow-fits c.args.p.now c.args.outputs.now c.requires.fact_1 c.requires.fact_2 in omega (arith, f.0, f.1)

pub copy-requires : goal.copy-requires
copy-requires c = grow-room c.args.p.now c.args.outputs.now c.requires.fact_1 c.requires.fact_2 c.requires.fact_3

pub returns : goal.returns
returns c = grow-is c.args.p.now c.args.outputs.now c.requires.fact_1 c.requires.fact_2 c.copy.ensures
