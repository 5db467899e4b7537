use Rattle.std.proofs.Common.{◌≡◌, true, sym, ap, ◌∙◌, subst, arith, ℕ, ◌-◌, ◌<◌, length, drop}
use Rattle.words.specs.Codes.{climbs, runs}
use Rattle.slots_check.proofs.Climbs.{last-there, last-none, groups_none, groups-yes, last-high, last-low}
use Rattle.slots_check.proofs.Climbs.{down-fall, down-more, down-same, down-other}
use Rattle.slots_check.proofs.code_groups.Goals as goal

pub returns-in_default-clause-groups : goal.returns-in_default-clause-groups
returns-in_default-clause-groups c =
    let a = c.args in
    groups_none a.atoms a.shift a.codes.now (last-none a.codes.now (sym c.in_default.ensures.value))

pub returns-then-atoms-last-clause-groups : goal.returns-then-atoms-last-clause-groups
returns-then-atoms-last-clause-groups c =
    let a = c.args in
    let l = last-there a.codes.now c.in-Some.last.now (sym c.in-Some.ensures.value) in
    last-high a.atoms a.shift a.codes.now (length a.codes.now - 1) (omega (arith, l.0)) (omega (arith, l.0))
    (omega (arith, l.1, c.if-atoms-last.true))

pub loop-i-init : goal.loop-i-init
loop-i-init c =
    let a = c.args in
    let l = last-there a.codes.now c.in-Some.last.now (sym c.in-Some.ensures.value) in
    let h = last-low a.atoms a.shift a.codes.now (length a.codes.now - 1) (omega (arith, l.0)) (omega (arith, l.0))
    (omega (arith, l.1, c.if-atoms-last.false)) in
    record { some = omega (arith, l.0); few = omega arith; order = h.0; groups = h.1 }

pub returns-then-y-shift-clause-groups : goal.returns-then-y-shift-clause-groups
returns-then-y-shift-clause-groups c =
    let a = c.args in
    let i : ℕ = c.loop-i.i - 1 in
    let l : i < length a.codes.now = omega (arith, c.loop-i-test.true, c.loop-i.auto.i) in
    down-fall a.atoms a.shift a.codes.now i l (omega (arith, c.loop-i-test.true)) c.if-y-shift.true

pub loop-i-preserved-then-x-y : goal.loop-i-preserved-then-x-y
loop-i-preserved-then-x-y c =
    let a = c.args in
    let v = c.loop-i.invariant in
    let i : ℕ = c.loop-i.i - 1 in
    let l : i < length a.codes.now = omega (arith, c.loop-i-test.true, c.loop-i.auto.i) in
    let s : 0 < i = omega (arith, c.loop-i-test.true) in
    let t = down-other a.atoms a.shift a.codes.now i l s c.if-x-y.true in record {
      some = omega arith;
      few = omega (arith, v.few);
      order = down-more a.atoms a.shift a.codes.now i l s c.if-y-shift.false v.order;
      groups = omega (arith, v.groups, t);
    }

pub loop-i-preserved : goal.loop-i-preserved
loop-i-preserved c =
    let a = c.args in
    let v = c.loop-i.invariant in
    let i : ℕ = c.loop-i.i - 1 in
    let l : i < length a.codes.now = omega (arith, c.loop-i-test.true, c.loop-i.auto.i) in
    let s : 0 < i = omega (arith, c.loop-i-test.true) in
    let t = down-same a.atoms a.shift a.codes.now i l s c.if-x-y.false in record {
      some = omega arith;
      few = omega (arith, v.few);
      order = down-more a.atoms a.shift a.codes.now i l s c.if-y-shift.false v.order;
      groups = omega (arith, v.groups, t);
    }

pub returns-clause-groups : goal.returns-clause-groups
returns-clause-groups c =
    let a = c.args in
    let v = c.loop-i.invariant in
    let e : c.loop-i.i - 1 ≡ 0 = omega (arith, c.loop-i-test.false) in
    groups-yes a.atoms a.shift a.codes.now c.loop-i.count (subst (λ (k : ℕ). climbs a.atoms a.shift (drop k a.codes.now) ≡ true) e v.order)
    (v.groups ∙ ap (λ (k : ℕ). runs 7 (drop k a.codes.now)) e)
