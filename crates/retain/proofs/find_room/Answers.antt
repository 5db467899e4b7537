-- `find_room` meets its contract, test by test. Assumes nothing.
use Rattle.model.proofs.Slots.{entries-length}
use Rattle.retain.proofs.Places.{room-first, room_after, room-full}
use Rattle.retain.proofs.find_room.Goals as goal

pub returns-in-Some : goal.returns-in-Some
returns-in-Some c = room-first _ _ _ _ (entries-length c.args.rows c.args.slots.now) _ c.in-Some.ensures

pub returns-then-rows-limits : goal.returns-then-rows-limits
returns-then-rows-limits c =
    room_after _ _ _ _ (entries-length c.args.rows c.args.slots.now) c.in-None.ensures c.if-rows-limits.true

pub returns-in-Some-victim : goal.returns-in-Some-victim
returns-in-Some-victim c =
    room-full _ _ _ _ (entries-length c.args.rows c.args.slots.now) c.in-None.ensures c.if-rows-limits.false _
    c.requires.fact_2 _ c.in-Some-victim.ensures

pub returns-in_default : goal.returns-in_default
returns-in_default c =
    room-full _ _ _ _ (entries-length c.args.rows c.args.slots.now) c.in-None.ensures c.if-rows-limits.false _
    c.requires.fact_2 _ c.in_default.ensures
