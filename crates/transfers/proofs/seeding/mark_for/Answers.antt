-- `mark_for` meets its contract. Assumes nothing.
use Rattle.transfers.proofs.Seeds.{mark-none, mark-same, mark-other}
use Rattle.transfers.proofs.seeding.mark_for.Goals as goal

pub returns-in-Some : goal.returns-in-Some
returns-in-Some c = mark-same _ _ _ c.in-Some.is c.if-mark-number.true

pub returns-in_default : goal.returns-in_default
returns-in_default c = mark-other _ _ _ c.in-Some.is c.if-mark-number.false

pub returns-in_default-2 : goal.returns-in_default-2
returns-in_default-2 c = mark-none _ _ c.in_default.is
