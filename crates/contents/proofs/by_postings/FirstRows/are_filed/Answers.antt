-- `contents::by_postings::FirstRows::are_filed`. The front, and the zeros after it. Assumes nothing.
use mathlib.Core.Path.{sym, ap, ◌∙◌}
use Rattle.lists.proofs.Pads.{rest_part}
use Rattle.slots.specs.Layout.{rows_in}
use Rattle.slots_check.specs.Check.{all_zero}
use Rattle.contents.proofs.Marks.{ended-no, ended-rest}
use Rattle.contents.proofs.by_postings.FirstRows.are_filed.Goals as goal

pub returns-then-not-are_ascending : goal.returns-then-not-are_ascending
returns-then-not-are_ascending c =
    ended-no c.args.words.now (rows_in c.args.self.rows c.args.self.slots.now) c.args.n c.requires.fact_1
    (sym c.are_ascending.ensures ∙ c.if-not-are_ascending.true)

pub returns : goal.returns
returns c =
    c.all_zero.ensures ∙ ap all_zero (rest_part c.args.words.now c.args.n)
    ∙ ended-rest c.args.words.now (rows_in c.args.self.rows c.args.self.slots.now) c.args.n c.requires.fact_1
    (sym c.are_ascending.ensures ∙ c.if-not-are_ascending.false)
