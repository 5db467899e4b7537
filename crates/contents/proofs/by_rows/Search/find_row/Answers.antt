-- `contents::by_rows::Search::find_row`. By the form of the slot, its conditions and then its outputs. Assumes nothing.
use Rattle.std.proofs.Common.{◌≡◌, refl, arith, ◌+◌, length, get_or}
use Rattle.model.specs.Slots.{row_in}
use Rattle.contents.specs.Lent.{posted_atoms}
use Rattle.contents.proofs.Holding.{held-few, scalar-under, count_scalar, count-packed}
use Rattle.contents.proofs.Places.{scalar-met, packed-met}
use Rattle.contents.proofs.by_rows.Search.find_row.Goals.{In_ok-n, After-atom_count}
use Rattle.contents.proofs.by_rows.Search.find_row.Goals as goal

-- the number that is returned
counted-scalar : (c : In_ok-n) → let ws = c.args.slot.now in
    get_or ws 0 0 + c.in_ok-n.n ≡ length (posted_atoms (row_in ws))
counted-scalar c = count_scalar c.args.slot.now c.requires c.if-slot-eq0.true _ c.in_ok-n.ensures.0

counted-packed : (c : After-atom_count) → let ws = c.args.slot.now in
    get_or ws 0 0 + c.atom_count.result ≡ length (posted_atoms (row_in ws))
counted-packed c = count-packed c.args.slot.now c.requires c.if-slot-eq0.false _ c.atom_count.ensures

pub find_codes-requires : goal.find_codes-requires
find_codes-requires c = (scalar-under c.args.slot.now c.requires c.if-slot-eq0.true).0

pub find_codes-requires-then-slot-eq0 : goal.find_codes-requires-then-slot-eq0
find_codes-requires-then-slot-eq0 c = (scalar-under c.args.slot.now c.requires c.if-slot-eq0.true).1

pub overflow_add-result : goal.overflow_add-result
overflow_add-result c = omega (arith, counted-scalar c, held-few c.args.slot.now c.requires)

pub returns-then-slot-eq0 : goal.returns-then-slot-eq0
returns-then-slot-eq0 c =
    let a = c.args in (
      counted-scalar c,
      scalar-met a.self.words.now a.places.now _ _ a.self.position a.slot.now c.requires c.if-slot-eq0.true
          c.in_ok-find_codes.ensures.1 c.in_ok-n.ensures.1,
    )

pub overflow_add-result-2 : goal.overflow_add-result-2
overflow_add-result-2 c = omega (arith, counted-packed c, held-few c.args.slot.now c.requires)

pub returns : goal.returns
returns c =
    let a = c.args in (
      counted-packed c,
      packed-met a.self.words.now a.places.now _ _ a.self.position a.slot.now c.requires c.if-slot-eq0.false
          (c.if-not-finds_groups.ensures refl) (c.if-not-finds_groups-2.ensures refl),
    )
