-- `contents::by_rows::Search::finds`. The posting stands there, or the answer is no. Assumes nothing.
use Rattle.std.proofs.Common.{refl, rules}
use Rattle.contents.proofs.Places.{filed-one}
use Rattle.contents.proofs.by_rows.Search.finds.Goals as goal

pub returns : goal.returns
returns c =
    λ e. filed-one c.args.self.words.now c.args.places.now c.args.atom c.args.self.position _ c.args.self.low (search rules) refl
    c.if-self-i.false c.if-self-i-2.false
