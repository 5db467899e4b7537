use mathlib.Core.Path.{◌≡◌, sym, ap, ◌∙◌}
use Prim.Native.Nat.{◌*◌}
use native.Mathlib.Omega.{arith}
use Rattle.lists.proofs.Pads.{rest_part}
use Rattle.model.specs.Records.{slot_words, founded_rows}
use Rattle.model.specs.Slots.{entries_in}
use Rattle.slots_check.specs.Check.{all_zero}
use Rattle.contents.proofs.Walks.{slots-bad, slots-good, slots_end}
use Rattle.contents.proofs.Slots.{founded-most, founded-next, founded-last, counted-bad, counted-other}
use Rattle.contents.proofs.Slots.{counted_same}
use Rattle.contents.proofs.slots_ok.Goals.{After-loop-p}
use Rattle.contents.proofs.slots_ok.Goals as goal

pub returns-then-not-is_slot : goal.returns-then-not-is_slot
returns-then-not-is_slot c =
    let a = c.args in
    let ws = a.slots.now in
    let l = c.loop-p in
    counted-bad a.rows ws a.atoms a.born a.founded
    (slots-bad a.atoms a.born a.rows ws l.p _ c.slot_at-slot.ensures.slot c.loop-p-test.true (sym c.if-not-is_slot.ensures) ∙ l.invariant.0)

pub overflow_sub-count : goal.overflow_sub-count
overflow_sub-count c =
    let a = c.args in
    founded-most a.rows a.slots.now a.atoms a.born c.loop-p.p _ c.slot_at-slot.ensures.slot (sym c.if-not-is_slot.ensures)

pub loop-p-preserved : goal.loop-p-preserved
loop-p-preserved c =
    let a = c.args in
    let ws = a.slots.now in
    let l = c.loop-p in
    let d = c.slot_at-slot.ensures.slot in
    let ok = sym c.if-not-is_slot.ensures in
    let n = founded-next a.rows ws a.atoms a.born l.p _ d ok c.loop-p-test.true in
    let h = l.invariant.2 in
    (slots-good a.atoms a.born a.rows ws l.p _ d c.loop-p-test.true ok ∙ l.invariant.0, omega arith, omega arith)

-- the rows met are all
all-met : (c : After-loop-p) → let a = c.args in
    c.loop-p.count ≡ founded_rows (entries_in a.rows a.slots.now)
all-met c =
    let a = c.args in
    let n = founded-last a.rows a.slots.now c.loop-p.p (omega arith) in
    let h = c.loop-p.invariant.2 in
    omega arith

pub returns-then-count-founded : goal.returns-then-count-founded
returns-then-count-founded c =
    let a = c.args in
    let e = all-met (goal.at.returns-then-count-founded c).After-loop-p in
    counted-other a.rows a.slots.now a.atoms a.born a.founded (λ q. c.if-count-founded.true (e ∙ sym q))

pub returns : goal.returns
returns c =
    let a = c.args in
    let ws = a.slots.now in
    let l = c.loop-p in
    counted_same a.rows ws a.atoms a.born a.founded (sym c.if-count-founded.false ∙ all-met (goal.at.returns c).After-loop-p)
    (c.all_zero.ensures ∙ ap all_zero (rest_part ws (slot_words * a.rows))
    ∙ slots_end a.atoms a.born a.rows ws l.p (omega arith) ∙ l.invariant.0)
