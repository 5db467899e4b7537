-- `account_of` meets its contract: the second word says which account. Assumes nothing.
use Rattle.leaves.proofs.Leaving.{account-capture, account-share}
use Rattle.leaves.proofs.account_of.Goals as goal

pub returns-then-paying-eq0 : goal.returns-then-paying-eq0
returns-then-paying-eq0 c = account-capture c.args.paying.now c.if-paying-eq0.true

pub returns-else-paying-eq0 : goal.returns-else-paying-eq0
returns-else-paying-eq0 c = account-share c.args.paying.now c.if-paying-eq0.false
