-- `row_deduce::packed_next`: groups are loaded up to one that has an output, which is given. Assumes nothing.
use mathlib.Core.Path.{◌≡◌, refl}
use Prim.Native.Nat.{ℕ, ◌+◌, ◌*◌, ◌<◌}
use native.Mathlib.Omega.{arith}
use lib.ListN.{get_or}
use Rattle.words.specs.Literal.{code_bits, words_wide}
use Rattle.meter.proofs.Payments.{passed}
use Rattle.model.specs.Records.{group_length}
use Rattle.model.specs.Slots.{index_of}
use Rattle.row_deduce.specs.Chunks.{chunk_at}
use Rattle.row_deduce.proofs.Publishing.{chunk-index, code_lt, stops-on, given-stopped, given-ticked, load-end, load-stopped, load-on}
use Rattle.row_deduce.proofs.packed_next.Goals.{At-loop-cursor}
use Rattle.row_deduce.proofs.packed_next.Goals as goal

-- the index of a group is that of a word of the region
index-lt : (l : At-loop-cursor) (g : ℕ) → g < l.args.side.count
    → index_of (chunk_at l.args.slot.now l.args.side g) < words_wide code_bits
index-lt l g h =
    let p = l.requires.fact_1 in
    let a = l.args in
    let e : index_of (chunk_at a.slot.now a.side g) ≡ get_or a.slot.now (a.side.base + group_length * g) 0
    = chunk-index a.slot.now a.side g p.readable.packed (l.type_inv.slot _).fits
    (l.type_inv.slot _).fits (p.some g h) in
    omega (arith, p.readable.index g h, p.readable.few)

pub loop-cursor-init : goal.loop-cursor-init
loop-cursor-init c = record { within = c.requires.fact_2; small = c.requires.fact_3; same = refl }

pub returns-then-side-cursor : goal.returns-then-side-cursor
returns-then-side-cursor c =
    load-end _ _ _ _ _ _ _ c.loop-cursor.invariant c.loop-cursor-test.true c.if-side-cursor.true

pub returns-in_err-tick : goal.returns-in_err-tick
returns-in_err-tick c =
    stops-on _ _ (passed c.from_residual.ensures.1)
    (load-stopped _ _ _ _ _ _ _ c.loop-cursor.invariant c.loop-cursor-test.true c.if-side-cursor.false c.in_err-tick.ensures)

pub loop-cursor-preserved : goal.loop-cursor-preserved
loop-cursor-preserved c =
    load-on _ _ _ _ _ c.loop-cursor.cursor _ c.loop-cursor.invariant c.loop-cursor-test.true c.if-side-cursor.false
    c.loaded.result c.in_ok-tick.ensures c.loaded.ensures
    (index-lt (goal.at.loop-cursor-preserved c).At-loop-cursor c.loop-cursor.cursor.next c.if-side-cursor.false)

pub returns-in_err-tick-2 : goal.returns-in_err-tick-2
returns-in_err-tick-2 c =
    stops-on _ _ (passed c.from_residual-in_err-tick-2.ensures.1)
    (given-stopped _ _ _ _ _ _ _ c.loop-cursor.invariant c.take-p.result.code _ c.take-p.ensures c.in_err-tick-2.ensures)

pub overflow_cast-code : goal.overflow_cast-code
overflow_cast-code c =
    omega (
      arith,
      code_lt c.loop-cursor.cursor c.take-p.result.code c.take-p.result.present c.take-p.result.absent c.take-p.ensures
          code_bits (omega arith) c.loop-cursor.invariant.small,
    )

pub returns : goal.returns
returns c =
    given-ticked _ _ _ _ _ c.loop-cursor.cursor _ c.loop-cursor.invariant c.take-p.result.code c.take-p.result.present
    c.take-p.result.absent
    (omega arith) (omega arith) c.take-p.ensures c.in_ok-tick-2.ensures
