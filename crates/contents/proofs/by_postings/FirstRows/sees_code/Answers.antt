-- `contents::by_postings::FirstRows::sees_code`. By the place the row is laid out code by code. Assumes nothing.
use Rattle.std.proofs.Common.{arith, ◌/◌, ◌≤◌}
use Rattle.std.proofs.lemmas.Bool.{ltb-true}
use Rattle.lists.specs.Counts.{times}
use Rattle.model.specs.Records.{max_rows}
use Rattle.model.specs.Slots.{row_in}
use Rattle.model.specs.Postings.{postings_of}
use Rattle.slots.specs.Layout.{rows_in}
use Rattle.contents.specs.Lent.{posted_atoms, LaidOut}
use Rattle.contents.proofs.Filing.{rows-some}
use Rattle.contents.proofs.Marks.{lent-row, posted-once}
use Rattle.contents.proofs.by_postings.FirstRows.sees_code.Goals.{After-slot_at-slot}
use Rattle.contents.proofs.by_postings.FirstRows.sees_code.Goals as goal

-- the row's slot
lies : (c : After-slot_at-slot) → LaidOut c.slot_at-slot.result.now
lies c =
    let a = c.args in
    let r = c.requires in
    lent-row _ _ _ (rows-some a.self.held) r.fact_1 a.posting a.place r.fact_2 (omega (arith, r.fact_3)) _
    c.slot_at-slot.ensures.slot

once : (c : After-slot_at-slot) → let a = c.args in
    1 ≤ times (a.posting / max_rows) (posted_atoms (row_in c.slot_at-slot.result.now))
    → 1 ≤ times a.posting (postings_of (rows_in a.self.rows a.self.slots.now))
once c =
    let a = c.args in
    let r = c.requires in
    posted-once _ _ _ (rows-some a.self.held) r.fact_1 a.posting a.place r.fact_2 (omega (arith, r.fact_3)) _
    c.slot_at-slot.ensures.slot

pub code_steps-steps-requires-clause-fact_1 : goal.code_steps-steps-requires-clause-fact_1
code_steps-steps-requires-clause-fact_1 c = lies (goal.at.code_steps-steps-requires-clause-fact_1 c).After-slot_at-slot

pub returns-then-steps-gt0-clause-bound : goal.returns-then-steps-gt0-clause-bound
returns-then-steps-gt0-clause-bound c =
    λ t m. once (goal.at.returns-then-steps-gt0-clause-bound c).After-slot_at-slot
    (c.code_steps-steps.ensures.1 (omega arith) (omega (arith, c.if-steps-gt0.true)))

pub code_steps-more-requires-clause-fact_1 : goal.code_steps-more-requires-clause-fact_1
code_steps-more-requires-clause-fact_1 c = lies (goal.at.code_steps-more-requires-clause-fact_1 c).After-slot_at-slot

pub returns-clause-bound : goal.returns-clause-bound
returns-clause-bound c =
    λ t m. once (goal.at.returns-clause-bound c).After-slot_at-slot
    (c.code_steps-more.ensures.1 (omega arith) (ltb-true 0 c.code_steps-more.result t))
