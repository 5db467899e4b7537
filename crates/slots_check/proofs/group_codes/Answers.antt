use Rattle.std.proofs.Common.{◌≡◌, ◌++◌, sym, ap, ◌∙◌, arith, rules, length, ℕ, length-append}
use Rattle.std.specs.Slice.Iter.{chunks_exact_rest}
use Rattle.model.specs.Records.{group_length}
use Rattle.slots_check.proofs.Loops.{group_index, groups-low, groups-bad, groups-next, groups-end, count_next, count-end, side-no, side-yes}
use Rattle.slots_check.proofs.group_codes.Goals.{In-Some}
use Rattle.slots_check.proofs.group_codes.Goals as goal

-- the group at hand stands before those left
cut : (c : In-Some) → chunks_exact_rest c.loop-group.group-iterator ≡ c.in-Some.group.now ++ chunks_exact_rest c.next.new.self
cut c = c.in-Some.ensures.steps.1.0

three : (c : In-Some) → length c.in-Some.group.now ≡ group_length
three c = c.in-Some.ensures.steps.1.1 ∙ c.loop-group.invariant.size

pub returns-then-x-least : goal.returns-then-x-least
returns-then-x-least c =
    let a = c.args in
    let s = (goal.at.returns-then-x-least c).In-Some in
    side-no a.apart a.atoms a.words.now
    (sym c.loop-group.invariant.order ∙ groups-low a.apart a.atoms c.loop-group.least _ _ _ (cut s) (three s) c.if-x-least.true)

pub returns-then-not-is_group : goal.returns-then-not-is_group
returns-then-not-is_group c =
    let a = c.args in
    let s = (goal.at.returns-then-not-is_group c).In-Some in
    side-no a.apart a.atoms a.words.now
    (sym c.loop-group.invariant.order
    ∙ groups-bad a.apart a.atoms c.loop-group.least _ _ _ (cut s) (three s) c.if-x-least.false (sym c.if-not-is_group.ensures))

pub overflow_add-least : goal.overflow_add-least
overflow_add-least c =
    let a = c.args in
    let h = group_index a.apart a.atoms _ _ _ (sym c.if-not-is_group.ensures) in
    search rules

pub loop-group-preserved : goal.loop-group-preserved
loop-group-preserved c =
    let a = c.args in
    let s = (goal.at.loop-group-preserved c).In-Some in
    let v = c.loop-group.invariant in
    let n = count_next _ _ _ (cut s) (three s) in record {
      size = c.in-Some.ensures.steps.0 ∙ v.size;
      whole = omega (arith, ap length (cut s), length-append {A = ℕ}, three s, v.whole);
      order =
          sym (groups-next a.apart a.atoms c.loop-group.least _ _ _ (cut s) (three s) c.if-x-least.false (sym c.if-not-is_group.ensures))
          ∙ v.order;
      few = omega (arith, ap length (cut s), length-append {A = ℕ}, three s, v.few, c.codes_in-count.ensures.1);
      sum = omega (arith, n, v.sum, c.codes_in-count.ensures.0);
    }

pub returns : goal.returns
returns c =
    let a = c.args in
    let v = c.loop-group.invariant in
    let z : length (chunks_exact_rest c.loop-group.group-iterator) ≡ 0 = omega (arith, c.in-None.ensures.steps.1.0, v.size, v.whole) in
    side-yes a.apart a.atoms a.words.now c.loop-group.count
    (sym v.order ∙ groups-end a.apart a.atoms c.loop-group.least _ z) (omega (arith, v.sum, count-end _ z))
