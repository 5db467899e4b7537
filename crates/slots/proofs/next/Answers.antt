use native.Mathlib.Omega.{arith}
use mathlib.Core.Path.{sym, ◌∙◌}
use Prim.Native.Nat.{◌<◌}
use Rattle.slots.proofs.Cursors.{rest-taken, placed-taken, rest_end, rest-load, rest-code, loaded}
use Rattle.slots.proofs.next.Goals as goal

pub returns-then-cursor-ne0 : goal.returns-then-cursor-ne0
returns-then-cursor-ne0 c = (
  rest-taken c.args.slot.now c.args.side c.args.cursor c.taken.result c.taken.ensures,
  placed-taken c.args.slot.now c.args.side c.args.cursor c.taken.result c.taken.ensures c.requires.fact_2,
)

pub returns-then-side-cursor : goal.returns-then-side-cursor
returns-then-side-cursor c =
    (sym (rest_end c.args.slot.now c.args.side c.args.cursor c.if-cursor-ne0.false c.if-side-cursor.true), tt)

pub returns-then-side : goal.returns-then-side
returns-then-side c =
    let ws = c.args.slot.now in
    let z = c.if-cursor-ne0.false in
    let k = loaded ws c.args.side c.args.cursor z in
    let more : c.args.cursor.next < c.args.side.count = omega arith in (
      rest-taken ws c.args.side k c.taken-then-side.result c.taken-then-side.ensures
          ∙ rest-load ws c.args.side c.args.cursor z more c.if-side.true (c.requires.fact_1.whole c.if-side.true),
      placed-taken ws c.args.side k c.taken-then-side.result c.taken-then-side.ensures
          (omega (arith, more), c.requires.fact_1.small c.if-side.true c.args.cursor.next more),
    )

pub returns : goal.returns
returns c =
    let more : c.args.cursor.next < c.args.side.count = omega arith in (
      rest-code c.args.slot.now c.args.side c.args.cursor c.if-cursor-ne0.false more c.if-side.false
          (c.requires.fact_1.single c.if-side.false),
      (omega (arith, more), c.requires.fact_2.1),
    )
