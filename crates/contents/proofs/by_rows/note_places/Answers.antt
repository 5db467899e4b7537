use Rattle.std.proofs.Common.{◌≡◌, subst, arith, ℕ, ◌+◌, ◌-◌, ◌≤◌, ◌<◌, length, drop}
use Rattle.lists.specs.Counts.{Each, Sorted}
use Rattle.contents.proofs.Places.{sorted_more, least_more}
use Rattle.contents.proofs.by_rows.note_places.Goals as goal

pub loop-i-preserved : goal.loop-i-preserved
loop-i-preserved c =
    let l = c.loop-i in
    let w = c.args.words.now in
    let i : ℕ = l.i - 1 in
    let e : l.i ≡ i + 1 = omega (arith, c.loop-i-test.true) in
    let k : i < length w = omega (arith, c.loop-i-test.true, l.auto.i) in
    let s = subst (λ (n : ℕ). Sorted (drop n w)) e l.invariant.sorted in
    let o = subst (λ (n : ℕ). Each (λ v. l.least ≤ v) (drop n w)) e l.invariant.least in
    record { sorted = sorted_more w i l.least k c.if-least-x.false s o; least = least_more w i l.least k c.if-least-x.false o }
