-- `contents::limits_ok`. One law for each way out. Assumes nothing.
use Rattle.contents.proofs.Limits.{limits-low, limits-high, tier-low, tier-high, conditions-high, limits-last}
use borrow.Author.Rules.{rules}
use Rattle.contents.proofs.limits_ok.Goals as goal

pub returns-then-limits-lt1 : goal.returns-then-limits-lt1
returns-then-limits-lt1 c = limits-low c.args.limits c.if-limits-lt1.true

pub returns-then-limits-gt-MAX_ATOMS : goal.returns-then-limits-gt-MAX_ATOMS
returns-then-limits-gt-MAX_ATOMS c = limits-high c.args.limits c.if-limits-gt-MAX_ATOMS.true

pub returns-then-limits-lt1-2 : goal.returns-then-limits-lt1-2
returns-then-limits-lt1-2 c = tier-low c.args.limits c.if-limits-lt1-2.true

pub returns-then-limits-gt-MAX_ROWS : goal.returns-then-limits-gt-MAX_ROWS
returns-then-limits-gt-MAX_ROWS c = tier-high c.args.limits c.if-limits-gt-MAX_ROWS.true

pub returns-then-limits-gt-MAX_CONDITIONS : goal.returns-then-limits-gt-MAX_CONDITIONS
returns-then-limits-gt-MAX_CONDITIONS c =
    conditions-high c.args.limits c.if-limits-gt-MAX_CONDITIONS.true

pub returns : goal.returns
returns c =
    limits-last c.args.limits (search rules)
    (search rules) (search rules) (search rules) (search rules)
