use native.Mathlib.Omega.{arith}
use mathlib.Core.Path.{◌≡◌, sym, ap, ◌∙◌}
use mathlib.Core.List.{List}
use Prim.Native.Nat.{ℕ, ◌<◌}
use lib.ListN.{length, length-set}
use Rattle.lists.specs.Lists.{put}
use Rattle.lists.proofs.Puts.{put-more}
use Rattle.meter.specs.Meter.{pay}
use Rattle.meter.proofs.Laws.{pay-none}
use Rattle.meter.proofs.Payments.{passed, read-one, paid-one}
use Rattle.slots.specs.Cursor.{rest, rest-start}
use Rattle.row_propose.proofs.copy_side.Goals as goal

pub loop-word-init : goal.loop-word-init
loop-word-init c = record {
  placed = rw c.start-cursor.ensures (omega arith, omega arith);
  room = simp (c.start-cursor.ensures, rest-start) (omega (arith, c.requires.fact_2));
  written = simp (c.start-cursor.ensures, rest-start);
  paid = simp (c.start-cursor.ensures, rest-start);
}

pub returns-in_err-pay-clause-paid : goal.returns-in_err-pay-clause-paid
returns-in_err-pay-clause-paid c =
    let some : 0 < length (rest c.args.slot.now c.args.side c.loop-word.cursor) = omega (arith, ap length c.in-Some.ensures.0) in
    read-one _ _ _ _ (passed c.from_residual.ensures.1) some c.in_err-pay.ensures ∙ c.loop-word.invariant.paid

pub loop-word-preserved : goal.loop-word-preserved
loop-word-preserved c =
    let more = rest c.args.slot.now c.args.side c.in-Some.past in record {
      placed = c.in-Some.ensures.1;
      room = simp length-set (omega (arith, ap length c.in-Some.ensures.0));
      written = put-more c.loop-word.word-index c.in-Some.literal more c.loop-word.out (omega arith)
          ∙ ap (λ (l : List ℕ). put c.loop-word.word-index l c.loop-word.out) c.in-Some.ensures.0 ∙ c.loop-word.invariant.written;
      paid = paid-one (length more) _ _ c.in_ok-pay.ensures
          ∙ ap (λ (l : List ℕ). pay (length l) c.loop-word.purse.account c.loop-word.purse.meter) c.in-Some.ensures.0
          ∙ c.loop-word.invariant.paid;
    }

pub returns-after-loop-word-clause-paid : goal.returns-after-loop-word-clause-paid
returns-after-loop-word-clause-paid c =
    let none : length (rest c.args.slot.now c.args.side c.loop-word.cursor) ≡ 0 = omega arith in
    sym (rw none (pay-none _ _)) ∙ c.loop-word.invariant.paid

pub returns-in_default-clause-paid : goal.returns-in_default-clause-paid
returns-in_default-clause-paid c =
    sym (rw (sym c.in_default.ensures.0) (pay-none _ _)) ∙ c.loop-word.invariant.paid
