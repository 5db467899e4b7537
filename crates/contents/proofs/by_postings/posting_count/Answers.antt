-- `contents::by_postings::posting_count`. By the form of the slot. Assumes nothing.
use Rattle.contents.proofs.Holding.{held-few, count_scalar, count-packed}
use borrow.Author.Rules.{rules}
use Rattle.contents.proofs.by_postings.posting_count.Goals as goal

pub overflow_add-result : goal.overflow_add-result
overflow_add-result c =
    let ws = c.args.slot.now in
    let e = count_scalar ws c.requires c.if-slot-eq0.true _
    c.run_count.ensures in
    let f = held-few ws c.requires in
    search rules

pub returns-then-slot-eq0 : goal.returns-then-slot-eq0
returns-then-slot-eq0 c =
    count_scalar c.args.slot.now
    c.requires c.if-slot-eq0.true _ c.run_count.ensures

pub overflow_add-result-2 : goal.overflow_add-result-2
overflow_add-result-2 c =
    let ws = c.args.slot.now in
    let e = count-packed ws c.requires
    c.if-slot-eq0.false _ c.atom_count.ensures in
    let f = held-few ws c.requires in
    search rules

pub returns : goal.returns
returns c =
    count-packed c.args.slot.now
    c.requires c.if-slot-eq0.false _
    c.atom_count.ensures
