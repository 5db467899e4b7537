-- `slots_check::is_packed`. One law for each way out. Assumes nothing.
use Rattle.slots_check.proofs.Ways.{packed-many, packed-parts, packed-form, packed-conditions, packed-outputs, packed-rest}
use Rattle.slots_check.proofs.is_packed.Goals as goal

pub returns-then-w-gt-MAX_GROUPS : goal.returns-then-w-gt-MAX_GROUPS
returns-then-w-gt-MAX_GROUPS c =
    packed-many c.args.atoms c.args.slot.now c.requires.fact_2 c.requires.fact_3 c.if-w-gt-MAX_GROUPS.true

pub returns-then-w-g : goal.returns-then-w-g
returns-then-w-g c = packed-parts c.args.atoms c.args.slot.now c.if-w-g.true

pub returns-then-nc-no : goal.returns-then-nc-no
returns-then-nc-no c = packed-form c.args.atoms c.args.slot.now c.if-nc-no.true

pub returns-then-ne : goal.returns-then-ne
returns-then-ne c = packed-conditions c.args.atoms c.args.slot.now _ c.group_codes.ensures c.if-ne.ensures

pub returns-then-ne-2 : goal.returns-then-ne-2
returns-then-ne-2 c =
    packed-outputs c.args.atoms c.args.slot.now _ c.group_codes.ensures _ c.if-w-g.false c.group_codes-2.ensures c.if-ne-2.ensures

pub returns : goal.returns
returns c =
    packed-rest c.args.atoms c.args.slot.now _ c.group_codes.ensures _ c.if-w-g.false c.group_codes-2.ensures _ c.if-nc-no.false
    c.if-ne.ensures c.if-ne-2.ensures c.all_zero.ensures
