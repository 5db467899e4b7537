-- `deduction_times`: each call deduces with the meter that the last left. Assumes nothing.
use Rattle.std.proofs.Common.{rules}
use Rattle.words.specs.Region.{region}
use Rattle.meter.specs.declared.Meter.{Meter}
use Rattle.model.specs.Slots.{row_in}
use Rattle.row_deduce.specs.Walks.{walked}
use Rattle.leaves.specs.Calls.{deduce_once, meter_after}
use Rattle.leaves.proofs.Calling.{meter-walked}
use Rattle.leaves.proofs.Repeating.{again-repeats}
use Rattle.leaves.proofs.deduction_times.Goals as goal

pub returns : goal.returns
returns c =
    let a = c.args in
    again-repeats _ _ (deduce_once (region a.held.now a.cut.now) (row_in a.slot.now)) meter_after (λ (m : Meter). m) walked
    (λ x r y e. let m = e.met in let s = e.shows in let l = e.leaves in search rules) meter-walked _ _ _ _ c.repeated.ensures
