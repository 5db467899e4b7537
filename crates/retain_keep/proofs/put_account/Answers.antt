-- `retain_keep::put_account`. Assumes nothing.
use mathlib.Core.Path.{sym, ap, ◌∙◌}
use Rattle.model.specs.Records.{with_account}
use Rattle.model.proofs.Headers.{remaining-in, sharing-in}
use Rattle.retain_keep.proofs.put_account.Goals as goal

pub returns-in-Remaining : goal.returns-in-Remaining
returns-in-Remaining c =
    let h = c.args.header in
    remaining-in h _ ∙ ap (with_account h) (sym c.in-Remaining.is)

pub returns-in-Share : goal.returns-in-Share
returns-in-Share c =
    let h = c.args.header in
    sharing-in h _ ∙ ap (with_account h) (sym c.in-Share.is)
