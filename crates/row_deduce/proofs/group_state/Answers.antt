-- `row_deduce::group_state`: the masks of the conditions that fail, by the test that the code makes. Assumes nothing.
use native.Mathlib.Omega.{arith}
use Rattle.words.specs.Region.{region}
use Rattle.row_deduce.proofs.Groups.{group-all, group-idle-clash, group-idle-two, group-open}
use Rattle.row_deduce.proofs.group_state.Goals.{then-clash-ne0-via-then-clash-ne0, then-clash-ne0-via-else-clash-ne0+then-fails-ne0}
use Rattle.row_deduce.proofs.group_state.Goals as goal

pub returns-then-fails-eq0 : goal.returns-then-fails-eq0
returns-then-fails-eq0 c =
    let k = c.args.k in
    group-all (region c.args.held.now c.args.cut.now) k.index k.present k.absent (omega arith) (omega arith)
    (c.type_inv.held k.index).fits (c.type_inv.cut k.index).fits c.if-fails-eq0.true

pub returns-then-clash-ne0 : goal.returns-then-clash-ne0
returns-then-clash-ne0 c =
    let k = c.args.k in
    let r = region c.args.held.now c.args.cut.now in
    elim c.then-clash-ne0.branch [
      | then-clash-ne0-via-then-clash-ne0 w ↦ group-idle-clash r k.index k.present k.absent (omega arith) (omega arith)
          (c.type_inv.held k.index).fits (c.type_inv.cut k.index).fits w.if-clash-ne0.true
      | then-clash-ne0-via-else-clash-ne0+then-fails-ne0 w ↦ group-idle-two r k.index k.present k.absent (omega arith) (omega arith)
          (c.type_inv.held k.index).fits (c.type_inv.cut k.index).fits c.requires.fact_2 c.if-fails-eq0.false w.if-fails-ne0.true
    ]

pub returns : goal.returns
returns c =
    let k = c.args.k in
    group-open (region c.args.held.now c.args.cut.now) k.index k.present k.absent (omega arith) (omega arith)
    (c.type_inv.held k.index).fits (c.type_inv.cut k.index).fits c.requires.fact_2 c.if-fails-eq0.false c.if-fails-ne0.false
    c.if-clash-ne0.false c.take-p.result.code _ c.take-p.ensures
