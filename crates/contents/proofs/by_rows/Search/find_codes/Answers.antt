use Rattle.std.proofs.Common.{subst, arith, rules, List, ℕ, ◌/◌, ◌≤◌, ◌<◌, get_or, take}
use Rattle.std.proofs.Math.Seq.{take_all}
use Rattle.lists.proofs.Counts.{each_at}
use Rattle.words.specs.Literal.{code_bits, codes_wide}
use Rattle.contents.specs.Lent.{has_atom, one_if}
use Rattle.contents.specs.Placed.{Grown}
use Rattle.contents.proofs.Places.{grown-none, has-nothing, last_has, codes-step, new_count-le, later-start, later-at, later-end}
use Rattle.contents.proofs.by_rows.Search.find_codes.Goals.{In_ok-found}
use Rattle.contents.proofs.by_rows.Search.find_codes.Goals as goal

one-here : (c : In_ok-found) → c.in_ok-found.found ≤ 1
one-here c =
    omega (arith, c.in_ok-found.ensures.0, new_count-le c.loop-code.last (get_or c.args.codes.now c.loop-code.code-index 0 / 2))

pub loop-code-init : goal.loop-code-init
loop-code-init c =
    let a = c.args in record {
      met = tt;
      few = omega arith;
      sum = omega (arith, later-start a.codes.now);
      grown =
          grown-none a.self.words.now a.self.position a.places.now (λ k. one_if (has_atom k (take 0 a.codes.now)))
          (λ k. has-nothing k a.codes.now);
    }

pub find_new-requires : goal.find_new-requires
find_new-requires c =
    let a = c.args in
    let i = c.loop-code.code-index in
    let b : get_or a.codes.now i 0 < codes_wide code_bits =
    each_at (λ v. v < codes_wide code_bits) a.codes.now i c.requires c.loop-code-test.true in
    omega arith

pub overflow_add-count : goal.overflow_add-count
overflow_add-count c =
    let k = one-here c in
    let b = c.loop-code.invariant.few in
    search rules

pub loop-code-preserved : goal.loop-code-preserved
loop-code-preserved c =
    let a = c.args in
    let v = c.loop-code.invariant in
    let i = c.loop-code.code-index in
    let t = c.loop-code-test.true in
    let w = c.in_ok-found.ensures in record {
      met = last_has a.codes.now i t;
      few = omega (arith, one-here c, v.few);
      sum = omega (arith, w.0, later-at c.loop-code.last a.codes.now i t, v.sum);
      grown =
          codes-step a.codes.now i t a.self.words.now a.places.now c.loop-code.places _ a.self.position c.loop-code.last
          v.met v.grown w.1;
    }

pub returns : goal.returns
returns c =
    let a = c.args in
    let l = c.loop-code in (
      omega (arith, later-end l.last a.codes.now l.code-index c.loop-code-test.false, l.invariant.sum),
      subst (λ (cs : List ℕ). Grown a.self.words.now a.places.now l.places a.self.position (λ k. one_if (has_atom k cs)))
          (take_all l.code-index a.codes.now c.loop-code-test.false) l.invariant.grown,
    )
