-- `to_literals` meets its contract: the counts, then the literals of one side after the other. Assumes nothing.
use native.Mathlib.Omega.{arith}
use mathlib.Core.Path.{◌≡◌, sym, ap, ap₂, ◌∙◌}
use mathlib.Core.List.{List}
use Prim.Native.Nat.{ℕ, ◌+◌, ◌≤◌}
use lib.ListN.{length, get_or}
use Rattle.std.proofs.lemmas.Result.{on_ok_weaker}
use Rattle.meter.specs.Meter.{pay}
use Rattle.meter.proofs.Payments.{passed, read-more, paid-more}
use Rattle.model.specs.Records.{Row, literals, max_conditions, max_outputs, conditions_at, body_at}
use Rattle.model.specs.Slots.{row_in}
use Rattle.slots.specs.Cursor.{list_of}
use Rattle.row_propose.specs.Parts.{blank_of}
use Rattle.row_propose.proofs.Parts.{two-parts}
use Rattle.row_propose.proofs.to_literals.Goals.{After-copy_side}
use Rattle.row_propose.proofs.to_literals.Goals as goal

module _ (c : After-copy_side) where
  abbrev S : List ℕ
  S = c.args.slot.now

  abbrev R : Row
  R = row_in S

  blanks : c.blank.new.p ≡ blank_of (length R.conditions) (length R.outputs)
  blanks =
      c.blank.ensures
      ∙ ap₂ blank_of (sym c.requires.fact_1.condition_count) (sym c.requires.fact_1.output_count)

  conditions : list_of S c.conditions.result ≡ R.conditions
  conditions = ap (list_of S) c.conditions.ensures ∙ c.requires.fact_1.conditions

pub returns-in_err-copy_side-clause-paid : goal.returns-in_err-copy_side-clause-paid
unfolding literals
returns-in_err-copy_side-clause-paid c =
    let few = ap length (conditions (goal.at.returns-in_err-copy_side-clause-paid c).After-copy_side) in
    read-more _ (literals (row_in c.args.slot.now)) _ _ _ (passed c.from_residual.ensures.1) (omega arith)
    c.in_err-copy_side.ensures.paid

pub returns-clause-paid : goal.returns-clause-paid
unfolding literals
returns-clause-paid c =
    let s = (goal.at.returns-clause-paid c).After-copy_side in
    let outputs = ap (list_of c.args.slot.now) c.outputs.ensures ∙ c.requires.fact_1.outputs in
    c.copy_side-2.ensures.paid ∙ paid-more _ _ _ _ c.in_ok-copy_side.ensures.paid
    ∙ ap₂ (λ (x y : List ℕ). pay (length x + length y) c.args.purse.now.account c.args.purse.now.meter) (conditions s) outputs

pub returns-clause-written : goal.returns-clause-written
returns-clause-written c =
    let s = (goal.at.returns-clause-written c).After-copy_side in
    let few : length (R s).conditions ≤ max_conditions = omega (arith, c.requires.fact_1.counted.few) in
    let many : length (R s).outputs ≤ max_outputs = omega (arith, c.requires.fact_1.counted.most) in
    let start : body_at + get_or (S s) conditions_at 0 ≡ body_at + length (R s).conditions = omega arith in
    on_ok_weaker c.copy_side-2.result
    (two-parts c.blank.new.p c.copy_side.new.out (R s).conditions (R s).outputs _ few many (blanks s) start
    (rw (conditions s) at c.in_ok-copy_side.ensures.written)
    (ap (list_of (S s)) c.outputs.ensures ∙ c.requires.fact_1.outputs))
    c.copy_side-2.ensures.written
