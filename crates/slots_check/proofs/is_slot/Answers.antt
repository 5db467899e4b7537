-- `slots_check::is_slot`. One law for each way out. Assumes nothing.
use Rattle.slots_check.proofs.Ways.{slot-conditions, slot-outputs, slot-unborn, slot-late, slot-flag, slot-source}
use Rattle.slots_check.proofs.Ways.{slot-scalar, slot-packed}
use Rattle.slots_check.proofs.is_slot.Goals as goal

pub returns-then-slot-gt-MAX_CONDITIONS : goal.returns-then-slot-gt-MAX_CONDITIONS
returns-then-slot-gt-MAX_CONDITIONS c =
    slot-conditions c.args.atoms c.args.born c.args.slot.now c.requires.fact_1 c.if-slot-gt-MAX_CONDITIONS.true

pub returns-then-slot-gt-MAX_OUTPUTS : goal.returns-then-slot-gt-MAX_OUTPUTS
returns-then-slot-gt-MAX_OUTPUTS c =
    slot-outputs c.args.atoms c.args.born c.args.slot.now c.requires.fact_1 c.if-slot-gt-MAX_OUTPUTS.true

pub returns-then-slot-lt1 : goal.returns-then-slot-lt1
returns-then-slot-lt1 c =
    slot-unborn c.args.atoms c.args.born c.args.slot.now c.requires.fact_1 c.if-slot-lt1.true

pub returns-then-born-slot : goal.returns-then-born-slot
returns-then-born-slot c =
    slot-late c.args.atoms c.args.born c.args.slot.now c.requires.fact_1 c.if-born-slot.true

pub returns-then-slot-gt1 : goal.returns-then-slot-gt1
returns-then-slot-gt1 c =
    slot-flag c.args.atoms c.args.born c.args.slot.now c.requires.fact_1 c.if-slot-gt1.true

pub returns-then-slot-gt1-2 : goal.returns-then-slot-gt1-2
returns-then-slot-gt1-2 c =
    slot-source c.args.atoms c.args.born c.args.slot.now c.requires.fact_1 c.if-slot-gt1-2.true

pub returns-then-slot-eq0 : goal.returns-then-slot-eq0
returns-then-slot-eq0 c =
    slot-scalar c.args.atoms c.args.born c.args.slot.now c.requires.fact_1
    c.if-slot-gt-MAX_CONDITIONS.false
    c.if-slot-gt-MAX_OUTPUTS.false
    c.if-slot-lt1.false c.if-born-slot.false
    c.if-slot-gt1.false c.if-slot-gt1-2.false _ c.if-slot-eq0.true c.is_scalar.ensures

pub returns : goal.returns
returns c =
    slot-packed c.args.atoms c.args.born c.args.slot.now c.requires.fact_1
    c.if-slot-gt-MAX_CONDITIONS.false
    c.if-slot-gt-MAX_OUTPUTS.false
    c.if-slot-lt1.false c.if-born-slot.false
    c.if-slot-gt1.false c.if-slot-gt1-2.false _ c.if-slot-eq0.false c.is_packed.ensures
