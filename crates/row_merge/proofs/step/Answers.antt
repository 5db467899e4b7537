-- `step` meets its contract: the least literal of the two that come next is the first of the union. Assumes nothing.
use native.Mathlib.Omega.{arith}
use mathlib.Core.Path.{sym}
use Prim.Native.Nat.{◌<◌}
use lib.ListN.{get_or, drop_of_length-le}
use Rattle.lists.proofs.Concats.{drop-next}
use Rattle.row_merge.proofs.Union.{first-none, first-right, first_left, first-less, first-equal, first-greater}
use Rattle.row_merge.proofs.step.Goals as goal

pub returns-then-b-i : goal.returns-then-b-i
returns-then-b-i c =
    (first-none c.in_default.ensures.0 (sym (drop_of_length-le c.args.b.now {i = c.args.i} c.if-b-i.true)), tt)

pub returns-in_default : goal.returns-in_default
returns-in_default c = (
  first-right _ _ c.in_default.ensures.0 (sym (drop-next c.args.b.now c.args.i c.if-b-i.false)),
  (c.requires.fact_2.0, omega arith),
)

pub returns-then-b-i-2 : goal.returns-then-b-i-2
returns-then-b-i-2 c = (
  first_left _ _ c.in-Some.ensures.0 (sym (drop_of_length-le c.args.b.now {i = c.args.i} c.if-b-i-2.true)),
  (c.in-Some.ensures.1, c.requires.fact_2.1),
)

pub returns-then-x-y : goal.returns-then-x-y
returns-then-x-y c = (
  first-less c.in-Some.ensures.0 (sym (drop-next c.args.b.now c.args.i c.if-b-i-2.false)) c.if-x-y.true,
  (c.in-Some.ensures.1, c.requires.fact_2.1),
)

pub returns-then-x-y-2 : goal.returns-then-x-y-2
returns-then-x-y-2 c = (
  first-equal c.in-Some.ensures.0 (sym (drop-next c.args.b.now c.args.i c.if-b-i-2.false)) c.if-x-y-2.true,
  (c.in-Some.ensures.1, omega arith),
)

pub returns : goal.returns
returns c =
    let less = c.if-x-y.false in
    let other = c.if-x-y-2.false in
    let greater : get_or c.args.b.now c.args.i 0 < c.in-Some.x = omega arith in (
      first-greater c.in-Some.ensures.0 (sym (drop-next c.args.b.now c.args.i c.if-b-i-2.false)) greater,
      (c.requires.fact_2.0, omega arith),
    )
