-- `slots_check::is_scalar`. One law for each way out. Assumes nothing.
use Rattle.slots_check.proofs.Climbs.{groups-fail, groups-pass}
use Rattle.slots_check.proofs.Ways.{scalar-groups, scalar-conditions, scalar-outputs, scalar-form, scalar-rest}
use Rattle.slots_check.proofs.is_scalar.Goals as goal

pub returns-then-slot-ne0 : goal.returns-then-slot-ne0
returns-then-slot-ne0 c = scalar-groups c.args.atoms c.args.slot.now c.if-slot-ne0.true

pub returns-in_default : goal.returns-in_default
returns-in_default c = scalar-conditions c.args.atoms c.args.slot.now (groups-fail _ _ _ c.in_default.ensures.groups)

pub returns-in_default-code_groups : goal.returns-in_default-code_groups
returns-in_default-code_groups c =
    scalar-outputs c.args.atoms c.args.slot.now (groups-fail _ _ _ c.in_default-code_groups.ensures.groups)

pub returns-then-w-nc : goal.returns-then-w-nc
returns-then-w-nc c =
    let f = groups-pass _ _ _ _ c.in-Some.ensures.groups in
    let g = groups-pass _ _ _ _ c.in-Some-code_groups.ensures.groups in
    scalar-form c.args.atoms c.args.slot.now _ _ f.1 g.1 c.if-w-nc.true

pub returns : goal.returns
returns c =
    let f = groups-pass _ _ _ _ c.in-Some.ensures.groups in
    let g = groups-pass _ _ _ _ c.in-Some-code_groups.ensures.groups in
    scalar-rest c.args.atoms c.args.slot.now _ _ f.1 g.1 _ c.if-slot-ne0.false f.0 g.0 c.if-w-nc.false c.all_zero.ensures
