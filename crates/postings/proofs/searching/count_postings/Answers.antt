-- `count_postings`. The zeros are counted off row 0, and the end is found by halves. Assumes nothing.
use mathlib.Core.Path.{◌≡◌, ap, ap₂, ◌∙◌}
use mathlib.Core.List.{List, map}
use Prim.Native.Nat.{ℕ, ◌+◌}
use native.Mathlib.Omega.{arith}
use lib.Dec.{ltb}
use lib.ListN.{length}
use borrow.Author.Rules.{rules}
use Rattle.std.proofs.lemmas.List.Sorted.{IsPartitionPoint-from_clause}
use Rattle.lists.specs.Counts.{times}
use Rattle.lists.proofs.Counts.{times-le}
use Rattle.words.specs.Literal.{atom}
use Rattle.model.specs.Postings.{postings_of}
use Rattle.slots.specs.declared.Side.{Side}
use Rattle.slots.specs.Cursor.{list_of}
use Rattle.slots.specs.Layout.{Laid, slot_at, rows_in}
use Rattle.slots.proofs.Storing.{laid-stored}
use Rattle.postings.specs.Searching.{zero_first}
use Rattle.postings.proofs.Cuts.{cut-long}
use Rattle.postings.proofs.Ends.{EndsAt, ends-parted, ends-at}
use Rattle.postings.proofs.Standing.{here-zeros, here-short, postings-long, posted-some, posted-none}
use Rattle.postings.proofs.searching.count_postings.Goals.{After-zero_first-outputs, Start}
use Rattle.postings.proofs.searching.count_postings.Goals as goal

laid : (c : Start) → Laid (slot_at c.args.slots.now 0)
laid c = laid-stored c.args.header.limits.atoms (slot_at c.args.slots.now 0) (c.requires.fact_1.held.over.stored 0 c.requires.fact_3)

module _ (c : After-zero_first-outputs) where
  abbrev ps : List ℕ
  ps = postings_of (rows_in c.args.header.rows c.args.slots.now)

  -- the postings that are 0
  zeros : c.zero_first-conditions.result + c.zero_first-outputs.result ≡ times 0 ps
  zeros =
      let w = slot_at c.args.slots.now 0 in
      ap₂ ◌+◌
      (c.zero_first-conditions.ensures
      ∙ ap (λ (s : Side). zero_first (map atom (list_of w s))) c.conditions.ensures)
      (c.zero_first-outputs.ensures ∙ ap (λ (s : Side). zero_first (map atom (list_of w s))) c.outputs.ensures)
      ∙ here-zeros c.requires.fact_1 c.requires.fact_3

  ends : EndsAt c.args.postings.now (c.zero_first-conditions.result + c.zero_first-outputs.result) (length ps)
  ends =
      let t = c.requires in
      record {
        order = omega (arith, zeros, times-le 0 ps);
        within = omega (arith, here-short t.fact_1, postings-long t.fact_1);
        some = λ k h l. posted-some t.fact_1 t.fact_2 k (omega (arith, zeros)) l;
        none = posted-none t.fact_1 t.fact_2;
      }

pub zero_first-conditions-requires : goal.zero_first-conditions-requires
zero_first-conditions-requires c = rw c.conditions.ensures (laid (goal.at.zero_first-conditions-requires c).Start).first

pub outputs-requires-clause-fact_2 : goal.outputs-requires-clause-fact_2
outputs-requires-clause-fact_2 c = (laid (goal.at.outputs-requires-clause-fact_2 c).Start).counted

pub zero_first-outputs-requires : goal.zero_first-outputs-requires
zero_first-outputs-requires c =
    rw c.outputs.ensures (laid (goal.at.zero_first-outputs-requires c).Start).second

pub overflow_add-zeros : goal.overflow_add-zeros
overflow_add-zeros c = omega (arith, (ends c).order, (ends c).within)

pub offset_bounds-postings-zeros : goal.offset_bounds-postings-zeros
offset_bounds-postings-zeros c = omega (arith, (ends c).order, (ends c).within)

pub slice_bounds-partition_point-count : goal.slice_bounds-partition_point-count
slice_bounds-partition_point-count c = omega (arith, (ends c).order, (ends c).within)

pub slice_bounds-partition_point-start : goal.slice_bounds-partition_point-start
slice_bounds-partition_point-start c = omega (arith, (ends c).order, (ends c).within)

pub overflow_add-result : goal.overflow_add-result
overflow_add-result c =
    let e = ends (goal.at.overflow_add-result c).After-zero_first-outputs in
    let long = cut-long (c.zero_first-conditions.result + c.zero_first-outputs.result) c.args.postings.now in
    omega (arith, c.partition_point.ensures.bound, e.order, e.within, long)

pub returns : goal.returns
returns c =
    let e = ends (goal.at.returns c).After-zero_first-outputs in
    ends-at e _ c.partition_point.ensures.bound
    (IsPartitionPoint-from_clause (ltb 0) _ _ c.partition_point.ensures.partitioned (ends-parted e) (λ a r q k. search rules))
