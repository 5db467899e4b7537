use Rattle.std.proofs.Common.{◌≡◌, arith, ◌+◌, ◌≤◌, length}
use Rattle.model.specs.Records.{posting_words}
use Rattle.model.specs.Postings.{postings_from}
use Rattle.slots.proofs.Rows.{rows_from}
use Rattle.contents.proofs.Filing.{holds-code, total-start, total-step, total-end}
use Rattle.contents.proofs.Places.{rows_more, rows-all-placed}
use Rattle.contents.proofs.by_rows.find_rows.Goals.{In_ok-found}
use Rattle.contents.proofs.by_rows.find_rows.Goals as goal

-- the row whose postings were found
step : (c : In_ok-found) → let a = c.args in
    let p = c.loop-p.p in
    let n = c.in_ok-found.found in
    (n ≤ posting_words)
    × (length (postings_from p (rows_from a.rows a.slots.now p))
    ≡ n + length (postings_from (p + 1) (rows_from a.rows a.slots.now (p + 1))))
step c =
    total-step c.args.rows c.args.slots.now c.requires.fact_2 c.loop-p.p _ c.slot_at.ensures.slot c.loop-p-test.true c.in_ok-found.ensures.0

pub loop-p-init : goal.loop-p-init
loop-p-init c = record {
  few = omega arith;
  sum = omega (arith, total-start c.args.rows c.args.slots.now c.requires.fact_2);
  met = λ v h. absurd (omega arith);
}

pub find_row-requires : goal.find_row-requires
find_row-requires c =
    holds-code c.args.rows c.args.slots.now c.requires.fact_2 c.loop-p.p c.slot_at.ensures.slot c.loop-p-test.true

pub overflow_add-count : goal.overflow_add-count
overflow_add-count c = omega (arith, (step c).0, c.loop-p-test.true, c.loop-p.invariant.few, c.requires.fact_2.over.few)

pub loop-p-preserved : goal.loop-p-preserved
loop-p-preserved c =
    let a = c.args in
    let v = c.loop-p.invariant in
    let n = step c in record {
      few = omega (arith, n.0, v.few);
      sum = omega (arith, n.1, v.sum);
      met =
          rows_more a.words.now a.slots.now a.rows c.requires.fact_2 c.loop-p.places _ c.loop-p.p c.slot_at.ensures.slot
          c.loop-p-test.true c.in_ok-found.ensures.1 v.met;
    }

pub returns : goal.returns
returns c =
    let a = c.args in
    let v = c.loop-p.invariant in
    let t = c.loop-p-test.false in (
      omega (arith, total-end a.rows a.slots.now c.requires.fact_2 c.loop-p.p t, v.sum),
      rows-all-placed a.words.now a.slots.now a.rows c.requires.fact_2 c.loop-p.places c.loop-p.p t v.met,
    )
