-- `publish` meets its contract: the row is placed, then the ledger is settled. Assumes nothing.
use mathlib.Core.Path.{ap₂, ◌∙◌}
use mathlib.Core.Bool.{Bool}
use mathlib.Core.List.{List}
use Prim.Native.Nat.{ℕ}
use Rattle.words.specs.Region.{has}
use Rattle.model.specs.Records.{Entry}
use Rattle.model.specs.Retention.{settle}
use Rattle.model.specs.Refusals.{lent_of}
use Rattle.retain.proofs.Publishing.{stale-zero, new-held, new-tier, new-entries}
use Rattle.retain.proofs.add.Goals.{After-place-rows}
use Rattle.retain.proofs.add.Goals as goal

module _ (c : After-place-rows) where
  abbrev f : ℕ → Bool
  f = has c.args.replaced.now

pub settle-requires : goal.settle-requires
settle-requires c =
    let at_after_place_rows = (goal.at.settle-requires c).After-place-rows in
    let a = c.requires.fact_1 in record {
      fact_1 = new-held _ _ _ a _ _ c.requires.fact_2 (f at_after_place_rows) _ _ _ _ _ c.place-rows.ensures.0 c.place-rows.ensures.1;
      fact_2 = new-tier _ _ _ a _ _ c.requires.fact_2 (f at_after_place_rows) _ _ _ _ _ c.place-rows.ensures.0 c.place-rows.ensures.1;
      fact_3 = a.some;
      fact_4 = a.wide;
      fact_5 = stale-zero _ _ _ a;
    }

pub returns : goal.returns
returns c =
    c.settle.ensures
    ∙ ap₂ (λ (x : List Entry) (n : ℕ). lent_of (settle c.args.header x n))
    (new-entries _ _ _ c.requires.fact_1 _ _ c.requires.fact_2 (f (goal.at.returns c).After-place-rows) _ _ _ _ _
    c.place-rows.ensures.0 c.place-rows.ensures.1 c.saturating_add-born.ensures) c.evictions-evicted.ensures
