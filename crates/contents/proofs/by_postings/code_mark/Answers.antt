-- `contents::by_postings::code_mark`. Assumes nothing.
use Rattle.contents.proofs.Walks.{mark-fits}
use borrow.Author.Rules.{rules}
use Rattle.contents.proofs.by_postings.code_mark.Goals as goal

pub overflow_sub-result : goal.overflow_sub-result
overflow_sub-result c = let h = mark-fits c.args.code c.args.atom (search rules) c.requires in search rules
