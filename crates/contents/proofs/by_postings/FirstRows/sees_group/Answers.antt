-- `contents::by_postings::FirstRows::sees_group`. By the place the row is packed. Assumes nothing.
use Rattle.std.proofs.Common.{◌/◌, ◌≤◌}
use Rattle.lists.specs.Counts.{times}
use Rattle.model.specs.Records.{max_rows}
use Rattle.model.specs.Slots.{row_in}
use Rattle.model.specs.Postings.{postings_of}
use Rattle.slots.specs.Layout.{rows_in}
use Rattle.contents.specs.Lent.{posted_atoms, LaidOut}
use Rattle.contents.proofs.Filing.{rows-some}
use Rattle.contents.proofs.Marks.{lent-row, posted-once}
use Rattle.contents.proofs.by_postings.FirstRows.sees_group.Goals.{After-slot_at-slot}
use Rattle.contents.proofs.by_postings.FirstRows.sees_group.Goals as goal

-- the row's slot
lies : (c : After-slot_at-slot) → LaidOut c.slot_at-slot.result.now
lies c =
    let a = c.args in
    let r = c.requires in
    lent-row _ _ _ (rows-some a.self.held) r.fact_1 a.posting a.place r.fact_2 r.fact_3.1 _ c.slot_at-slot.ensures.slot

once : (c : After-slot_at-slot) → let a = c.args in
    1 ≤ times (a.posting / max_rows) (posted_atoms (row_in c.slot_at-slot.result.now))
    → 1 ≤ times a.posting (postings_of (rows_in a.self.rows a.self.slots.now))
once c =
    let a = c.args in
    let r = c.requires in
    posted-once _ _ _ (rows-some a.self.held) r.fact_1 a.posting a.place r.fact_2 r.fact_3.1 _ c.slot_at-slot.ensures.slot

pub has_group-requires-clause-fact_1 : goal.has_group-requires-clause-fact_1
has_group-requires-clause-fact_1 c = lies (goal.at.has_group-requires-clause-fact_1 c).After-slot_at-slot

pub returns-then-has_group-clause-bound : goal.returns-then-has_group-clause-bound
returns-then-has_group-clause-bound c =
    λ t. once (goal.at.returns-then-has_group-clause-bound c).After-slot_at-slot (c.has_group.ensures c.if-has_group.true)

pub group_steps-requires-clause-fact_1 : goal.group_steps-requires-clause-fact_1
group_steps-requires-clause-fact_1 c = lies (goal.at.group_steps-requires-clause-fact_1 c).After-slot_at-slot

pub has_group-requires-2-clause-fact_1 : goal.has_group-requires-2-clause-fact_1
has_group-requires-2-clause-fact_1 c = lies (goal.at.has_group-requires-2-clause-fact_1 c).After-slot_at-slot

pub returns-clause-bound : goal.returns-clause-bound
returns-clause-bound c = λ t. once (goal.at.returns-clause-bound c).After-slot_at-slot (c.has_group-2.ensures t)
