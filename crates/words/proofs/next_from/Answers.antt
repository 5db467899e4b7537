use native.Mathlib.Omega.{arith}
use Rattle.words.proofs.Seeking.{seek-start, seek-on, seek-none, seek_found, seek-past}
use Rattle.words.proofs.next_from.Goals as goal

pub loop-index-init : goal.loop-index-init
loop-index-init c = seek-start c.args.words.now c.args.from

pub returns-then-atom-atoms : goal.returns-then-atom-atoms
returns-then-atom-atoms c =
    let s = c.args in
    let l = c.loop-index in
    rw c.first_bit.ensures
    (seek_found s.words.now s.from l.index l.mask s.atoms l.invariant (λ i. (c.type_inv.words i).fits) (omega arith)
    (rw c.first_bit.ensures at c.if-atom-atoms.true))

pub returns-then-selected-ne0 : goal.returns-then-selected-ne0
returns-then-selected-ne0 c =
    let s = c.args in
    let l = c.loop-index in
    seek-past s.words.now s.from l.index l.mask s.atoms l.invariant (λ i. (c.type_inv.words i).fits) (omega arith)
    (rw c.first_bit.ensures at c.if-atom-atoms.false)

pub loop-index-preserved : goal.loop-index-preserved
loop-index-preserved c =
    let l = c.loop-index in
    seek-on c.args.words.now c.args.from l.index l.mask l.invariant l.auto.index c.if-selected-ne0.false

pub returns : goal.returns
returns c =
    let s = c.args in
    let l = c.loop-index in
    seek-none s.words.now s.from l.index l.mask s.atoms l.invariant (rw c.reach-end.ensures at c.loop-index-test.false)
