-- `contents::by_postings::group_mark`. By the word of the atom. Assumes nothing.
use Rattle.contents.proofs.Walks.{group-other, group-bit}
use borrow.Author.Rules.{rules}
use Rattle.contents.proofs.by_postings.group_mark.Goals as goal

pub returns-then-x-atom : goal.returns-then-x-atom
returns-then-x-atom c =
    let a = c.args in
    group-other a.x a.present a.absent a.atom (search rules) (search rules) c.if-x-atom.true

pub returns : goal.returns
returns c =
    let a = c.args in
    group-bit a.x a.present a.absent a.atom (search rules) (search rules) c.if-x-atom.false
