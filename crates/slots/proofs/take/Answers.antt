use Prim.Native.Nat.{ℕ, ◌<◌}
use lib.Bits.{bit_or}
use Rattle.words.specs.Bit.{first_bit}
use Rattle.words.proofs.Bits.{shl_one}
use Rattle.words.proofs.Masks.{mask-hit, mask-miss}
use Rattle.slots.proofs.Codes.{first-place, first_absent, first-present}
use Rattle.slots.proofs.take.Goals.{Start}
use Rattle.slots.proofs.take.Goals as goal

-- the next place is below 64
place : (c : Start) → first_bit (bit_or c.args.absent c.args.present) < 64
place c = first-place c.args.word c.args.present c.args.absent c.ranges.present.fits c.ranges.absent.fits c.requires.fact_2

pub overflow_shl-mask : goal.overflow_shl-mask
overflow_shl-mask c = place c

pub returns-then-absent-mask-ne0 : goal.returns-then-absent-mask-ne0
returns-then-absent-mask-ne0 c =
    let at_start = (goal.at.returns-then-absent-mask-ne0 c).Start in
    let t : ℕ = first_bit (bit_or c.args.absent c.args.present) in
    let e = mask-hit c.args.absent t (place at_start) c.if-absent-mask-ne0.true in
    rw (shl_one 64 t (place at_start)) (first_absent c.args.word c.args.present c.args.absent c.ranges.present.fits
    c.ranges.absent.fits c.requires.fact_2 e)

pub returns-else-absent-mask-ne0 : goal.returns-else-absent-mask-ne0
returns-else-absent-mask-ne0 c =
    let at_start = (goal.at.returns-else-absent-mask-ne0 c).Start in
    let t : ℕ = first_bit (bit_or c.args.absent c.args.present) in
    let e = mask-miss c.args.absent t (place at_start) c.if-absent-mask-ne0.false in
    rw (shl_one 64 t (place at_start)) (first-present c.args.word c.args.present c.args.absent c.ranges.present.fits
    c.ranges.absent.fits c.requires.fact_2 e)
