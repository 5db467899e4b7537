-- `slots_check::codes_in`. The bits are counted once, and those that stand in both words once more. Assumes nothing.
use Prim.Native.Nat.{◌≤◌}
use native.Mathlib.Omega.{arith}
use lib.Bits.{bit_and, bit_or, and_lt, or_lt}
use lib.Count.{ones, ones-le}
use Rattle.slots_check.proofs.Codes.{ones-both, ones-apart}
use Rattle.slots_check.proofs.codes_in.Goals.{Start}
use borrow.Author.Rules.{rules}
use Rattle.slots_check.proofs.codes_in.Goals as goal

either-few : (c : Start) → ones (bit_or c.args.present c.args.absent) ≤ 64
either-few c = ones-le 64 _ (or_lt 64 c.args.present c.args.absent c.ranges.present.fits c.ranges.absent.fits)

both-few : (c : Start) → ones (bit_and c.args.present c.args.absent) ≤ 64
both-few c = ones-le 64 _ (and_lt 64 c.args.present c.args.absent c.ranges.present.fits c.ranges.absent.fits)

pub overflow_cast-count : goal.overflow_cast-count
overflow_cast-count c = let e = either-few c in search rules

pub returns-then-both-eq0 : goal.returns-then-both-eq0
returns-then-both-eq0 c = (ones-apart c.args.present c.args.absent c.if-both-eq0.true, omega (arith, either-few (goal.at.returns-then-both-eq0 c).Start))

pub overflow_add-result : goal.overflow_add-result
overflow_add-result c =
    let at_start = (goal.at.overflow_add-result c).Start in
    let e = either-few at_start in
    let b = both-few at_start in
    search rules

pub returns : goal.returns
returns c =
    let at_start = (goal.at.returns c).Start in
    (ones-both c.args.present c.args.absent, omega (arith, either-few at_start, both-few at_start))
