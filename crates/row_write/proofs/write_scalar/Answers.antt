-- `write_scalar` meets its contract. Assumes nothing.
use native.Mathlib.Omega.{arith}
use mathlib.Core.Path.{sym, ◌∙◌}
use Prim.Native.Nat.{◌-◌}
use lib.ListN.{take, drop}
use Rattle.lists.proofs.Puts.{put_whole}
use Rattle.model.specs.Records.{body_at, source_at}
use Rattle.row_write.proofs.Laying.{scalar-long, scalar-words}
use Rattle.row_write.proofs.Proposal.{counts}
use Rattle.row_write.proofs.write_scalar.Goals as goal

pub slice_bounds-copy-end : goal.slice_bounds-copy-end
slice_bounds-copy-end c = let k = counts c.requires.fact_2 in omega arith

pub returns : goal.returns
returns c =
    let ws = c.args.p.now in
    c.copy.ensures
    ∙ put_whole (take (source_at - body_at) (drop body_at ws)) c.args.body.now (c.requires.fact_1 ∙ sym (scalar-long ws c.requires.fact_2))
    ∙ scalar-words ws c.requires.fact_2 c.requires.fact_3
