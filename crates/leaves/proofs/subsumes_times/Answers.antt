-- `subsumes_times`: each call asks the same of the account and the meter that the last left. Assumes nothing.
use mathlib.Core.Path.{refl}
use Rattle.meter.specs.declared.Purse.{Purse}
use Rattle.meter.specs.Results.{judged_end}
use Rattle.model.specs.Rows.{subsumes, subsumes_reads}
use Rattle.model.specs.Slots.{row_in}
use Rattle.std.proofs.Common.{rules}
use Rattle.leaves.specs.Calls.{payer, asked}
use Rattle.leaves.proofs.Repeating.{again-repeats}
use Rattle.leaves.proofs.subsumes_times.Goals as goal

pub returns : goal.returns
returns c =
    let a = c.args in
    again-repeats _ _ (asked (subsumes (row_in a.r.now) (row_in a.s.now)) (subsumes_reads (row_in a.r.now) (row_in a.s.now))) payer
    (λ (p : Purse). (p.account, p.meter)) judged_end
    (λ x r y e. let m = e.met in let s = e.shows in let l = e.leaves in search rules) (λ r y. refl) _ _ _ _ c.repeated.ensures
