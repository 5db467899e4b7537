use Rattle.std.proofs.Common.{refl, ◌∙◌, arith}
use Rattle.std.specs.Slice.Iter.{chunks_exact_rest}
use Rattle.contents.proofs.Places.{groups-step, groups-done}
use Rattle.contents.proofs.by_rows.Search.finds_groups.Goals as goal

pub loop-group-preserved : goal.loop-group-preserved
loop-group-preserved c =
    let a = c.args in
    let l = c.loop-group in
    let s = c.in-Some.ensures.steps in record {
      size = s.0 ∙ l.invariant.size;
      grown =
          groups-step a.self.words.now a.places.now l.places a.self.position a.groups.now (chunks_exact_rest l.group-iterator) _ _ _ s.1.0
          (s.1.1 ∙ l.invariant.size) l.invariant.grown (c.if-not-finds_group.ensures refl);
    }

pub returns : goal.returns
returns c =
    let a = c.args in
    let l = c.loop-group in
    λ e. groups-done a.self.words.now a.places.now l.places a.self.position a.groups.now (chunks_exact_rest l.group-iterator)
    (omega (arith, c.in-None.ensures.steps.1.0, l.invariant.size)) l.invariant.grown
