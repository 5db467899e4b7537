-- `seeded` meets its contract. Assumes nothing.
use Rattle.transfers.proofs.Ending.{seeded-is}
use Rattle.transfers.proofs.seeding.seeded.Goals as goal

pub returns : goal.returns
returns c =
    seeded-is c.args.transfer c.args.end c.args.store c.args.work
    c.answer.ensures c.made.ensures
    c.put_account.ensures
    c.mark_moved-tier.ensures c.saturating_add-seeded.ensures
