-- `settle` meets its contract: the epoch is over, or goes on. Assumes nothing.
use mathlib.Core.Path.{◌≡◌, sym, ap, ◌∙◌}
use mathlib.Core.List.{List}
use Prim.Native.Nat.{ℕ}
use lib.ListN.{length}
use Rattle.model.specs.Records.{Entry}
use Rattle.model.specs.Slots.{slots_of, entries_in}
use Rattle.model.specs.Retention.{halved}
use Rattle.model.proofs.Slots.{entries-length}
use Rattle.retain.proofs.Settling.{settle-over, settle-on}
use Rattle.retain.proofs.settle.Goals.{Start}
use Rattle.retain.proofs.settle.Goals as goal

module _ (t : Start) where
  abbrev es : List Entry
  es = entries_in t.args.rows t.args.slots.now

  rows_are : length es ≡ t.args.rows
  rows_are = entries-length t.args.rows t.args.slots.now

pub returns-then-header : goal.returns-then-header
returns-then-header c =
    let at_start = (goal.at.returns-then-header c).Start in
    settle-over c.args.header c.args.rows c.args.evicted _ c.args.postings.now c.requires.fact_4 (es at_start) (rows_are at_start)
    (sym c.count_founded-founded.ensures) _ c.saturating_add-born.ensures c.requires.fact_3
    c.if-header.true (c.halve.ensures ∙ ap (λ (k : ℕ). slots_of k (halved (es at_start))) c.requires.fact_2)
    c.clear_postings.ensures

pub returns : goal.returns
returns c =
    let at_start = (goal.at.returns c).Start in
    settle-on c.args.header c.args.rows c.args.evicted _ c.args.postings.now c.requires.fact_4 (es at_start) (rows_are at_start)
    (sym c.count_founded-founded.ensures) _ c.saturating_add-born.ensures c.requires.fact_3
    c.if-header.false (sym c.requires.fact_1.same ∙ ap (λ (k : ℕ). slots_of k (es at_start)) c.requires.fact_2)
    c.clear_postings.ensures
