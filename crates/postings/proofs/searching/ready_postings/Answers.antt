-- `ready_postings`: rebuilt, or as they were. Assumes nothing.
use mathlib.Core.Path.{sym, ap, ◌∙◌}
use lib.ListN.{length}
use Rattle.model.specs.Postings.{postings_of}
use Rattle.slots.specs.Layout.{rows_in}
use Rattle.postings.specs.Filling.{refiled}
use Rattle.postings.proofs.Filing.{ready-stale, ready-fresh}
use Rattle.postings.proofs.searching.ready_postings.Goals as goal

pub returns-then-header : goal.returns-then-header
returns-then-header c =
    let rs = rows_in c.args.header.rows c.args.slots.now in
    c.rebuild_postings.ensures
    ∙ ap (refiled c.args.header.limits.tier_rows rs)
    (sym (ready-stale c.args.header.stale (length (postings_of rs)) c.args.meter.now c.if-header.true))

pub returns : goal.returns
returns c =
    let rs = rows_in c.args.header.rows c.args.slots.now in
    ready-fresh c.args.header.limits.tier_rows c.args.header.stale rs c.count_postings.result c.args.postings.now
    c.args.meter.now c.if-header.false c.count_postings.ensures c.requires.fact_1.filing
