use mathlib.Core.Path.{◌≡◌}
use Prim.Native.Nat.{◌+◌, ◌≤◌}
use native.Mathlib.Omega.{arith}
use lib.ListN.{length}
use Rattle.model.specs.Records.{posting_words}
use Rattle.model.specs.Postings.{postings_from}
use Rattle.slots.proofs.Rows.{rows_from}
use Rattle.contents.proofs.Filing.{rows-some, holds-code, total-start, total-step, total-end}
use Rattle.contents.proofs.by_postings.FirstRows.posting_total.Goals.{After-posting_count-count}
use borrow.Author.Rules.{rules}
use Rattle.contents.proofs.by_postings.FirstRows.posting_total.Goals as goal

-- the postings of the row that was counted
step : (c : After-posting_count-count) → let a = c.args in
    let p = c.loop-p.p in let n = c.posting_count-count.result in
    (n ≤ posting_words)
    × (length (postings_from p (rows_from a.self.rows a.self.slots.now p))
    ≡ n + length (postings_from (p + 1) (rows_from a.self.rows a.self.slots.now (p + 1))))
step c =
    total-step _ _ (rows-some c.args.self.held) c.loop-p.p _ c.slot_at.ensures.slot c.loop-p-test.true
    c.posting_count-count.ensures

pub loop-p-init : goal.loop-p-init
loop-p-init c =
    let a = c.args in
    (search rules, omega (arith, total-start _ _ (rows-some a.self.held)))

pub posting_count-count-requires : goal.posting_count-count-requires
posting_count-count-requires c =
    holds-code _ _ (rows-some c.args.self.held) c.loop-p.p c.slot_at.ensures.slot c.loop-p-test.true

pub overflow_add-count : goal.overflow_add-count
overflow_add-count c =
    let k = (step c).0 in
    let f = c.args.self.held.few in
    search rules

pub loop-p-preserved : goal.loop-p-preserved
loop-p-preserved c =
    let n = step c in
    (omega arith, omega arith)

pub returns : goal.returns
returns c =
    let a = c.args in
    let l = c.loop-p in
    omega (arith, total-end _ _ (rows-some a.self.held) l.p c.loop-p-test.false, l.invariant.1)
