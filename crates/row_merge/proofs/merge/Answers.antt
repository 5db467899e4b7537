use native.Mathlib.Omega.{arith}
use native.Mathlib.Nat.{sub-zero}
use mathlib.Core.Path.{◌≡◌, ap, ◌∙◌}
use mathlib.Core.List.{List, ◌++◌}
use Prim.Native.Nat.{ℕ, ◌+◌, ◌-◌, ◌<◌}
use lib.ListN.{length, take}
use Rattle.slots.specs.Cursor.{rest-start}
use Rattle.meter.proofs.Payments.{passed}
use Rattle.row_merge.specs.Merge.{left_of, has_room}
use Rattle.row_merge.proofs.Union.{take_more}
use Rattle.row_merge.proofs.Asking.{count-unpaid, count-end, count-full, count-more}
use Rattle.row_merge.proofs.merge.Goals as goal

pub loop-k-init : goal.loop-k-init
loop-k-init c = record {
  placed = (rw c.start-cursor.ensures (omega arith, omega arith), omega arith);
  within = omega arith;
  written = simp (c.start-cursor.ensures, rest-start);
  counted = simp (c.start-cursor.ensures, rest-start, sub-zero);
}

pub returns-in_err-pay-clause-counted : goal.returns-in_err-pay-clause-counted
returns-in_err-pay-clause-counted c =
    let e = passed c.from_residual.ensures.1 in
    count-unpaid _ _ (left_of c.args.a.now c.args.sa c.args.b.now c.loop-k.cursor c.loop-k.i) _ _ (ap has_room e) c.in_err-pay.ensures
    ∙ c.loop-k.invariant.counted

pub returns-in_default-clause-counted : goal.returns-in_default-clause-counted
returns-in_default-clause-counted c =
    count-end _ _ c.in_ok-pay.ensures _ c.in_default.ensures.0 ∙ c.loop-k.invariant.counted

pub returns-then-n-out-clause-counted : goal.returns-then-n-out-clause-counted
returns-then-n-out-clause-counted c =
    let full : length c.args.out.now - c.loop-k.n ≡ 0 = omega arith in
    count-full _ _ c.in_ok-pay.ensures _ _ _ c.in-Some.ensures.0 full ∙ c.loop-k.invariant.counted

pub loop-k-preserved : goal.loop-k-preserved
loop-k-preserved c =
    let n = c.loop-k.n in
    let h = c.if-n-out.false in
    let w = c.loop-k.invariant.within in
    let room : n < length c.loop-k.out = omega arith in
    let s : length c.args.out.now - (n + 1) ≡ length c.args.out.now - n - 1 = omega arith in record {
      placed = c.in-Some.ensures.1;
      within = omega arith;
      written = take_more n c.in-Some.k _ c.loop-k.out room ∙ ap (λ (q : List ℕ). take n c.loop-k.out ++ q) c.in-Some.ensures.0
          ∙ c.loop-k.invariant.written;
      counted = rw s (count-more _ _ c.in_ok-pay.ensures _ _ _ c.in-Some.ensures.0 (omega arith)) ∙ c.loop-k.invariant.counted;
    }
