-- `passes_over` meets its contract. Assumes nothing.
use mathlib.Core.Path.{sym, ◌∙◌}
use Rattle.transfers.proofs.RowDelivered.{passes-shared, passes-narrow}
use Rattle.transfers.proofs.delivering.passes_over.Goals as goal

pub returns-then-is_shared : goal.returns-then-is_shared
returns-then-is_shared c =
    let shared = sym c.is_shared.ensures ∙ c.if-is_shared.true in
    c.if-is_shared.true ∙ passes-shared c.args.row.now c.args.limits c.requires shared

pub returns-else-is_shared : goal.returns-else-is_shared
returns-else-is_shared c =
    c.fails_filter.ensures ∙ passes-narrow c.args.row.now c.args.limits c.requires
    (sym c.is_shared.ensures ∙ c.if-is_shared.false)
