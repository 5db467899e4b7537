-- `delivered` meets its contract. Assumes nothing.
use Rattle.transfers.proofs.Ending.{delivered-is}
use Rattle.transfers.proofs.delivering.delivered.Goals as goal

pub returns : goal.returns
returns c =
    delivered-is c.args.transfer c.args.end c.args.tier c.args.work c.answer.ensures
    c.made.ensures c.put_account.ensures
    c.saturating_add-deliveries.ensures
