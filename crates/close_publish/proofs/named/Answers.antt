-- `close_publish::named`. One way out for each deduction. Assumes nothing.
use mathlib.Core.Path.{sym, ap}
use Rattle.model.specs.declared.Deduction.{Deduction}
use Rattle.model.specs.Closing.{naming}
use Rattle.close_publish.proofs.named.Goals as goal

pub returns-in-Require : goal.returns-in-Require
returns-in-Require c =
    let a = c.args in
    ap (λ (d : Deduction). naming d a.before) (sym c.in-Require.is)
