-- `contents::by_rows::Search::finds_group`. The bits of both words are the atoms of the group. Assumes nothing.
use Rattle.std.proofs.Common.{rules}
use Rattle.contents.proofs.Places.{group-met}
use Rattle.contents.proofs.by_rows.Search.finds_group.Goals as goal

pub returns : goal.returns
returns c =
    let a = c.args in
    λ e. group-met a.self.words.now a.places.now _ a.self.position a.x a.present a.absent (search rules) (search rules)
    (c.finds_bits.ensures e)
