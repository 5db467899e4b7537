-- `row_deduce::deduction`: one law for each end of the walks. Assumes nothing.
use mathlib.Core.Path.{◌≡◌, sym, ap, ◌∙◌}
use mathlib.Core.Bool.{true}
use mathlib.Core.List.{[]}
use Prim.Native.Nat.{ℕ, ◌*◌, ◌≤◌, ◌<◌}
use Rattle.std.specs.Prelude.{Option, Some, None}
use native.Mathlib.Omega.{arith}
use Rattle.lists.specs.Lists.{ascending}
use Rattle.lists.proofs.Bools.{T_true}
use Rattle.words.specs.Literal.{code_bits, atoms_wide}
use Rattle.words.specs.Region.{Region, region}
use Rattle.meter.proofs.Payments.{passed}
use Rattle.model.specs.declared.Deduction.TheVariants.{Require}
use Rattle.model.specs.declared.Literal.{Literal}
use Rattle.model.specs.Records.{Row, is_row}
use Rattle.model.specs.Rows.{packed}
use Rattle.model.specs.Slots.{row_in}
use Rattle.model.specs.Deduction.{chunks}
use Rattle.model.proofs.Rows.{row-parts}
use Rattle.slots.proofs.Storing.{row_under}
use Rattle.row_deduce.specs.declared.ConditionState.{ConditionState}
use Rattle.row_deduce.specs.declared.ConditionState.TheVariants.{Idle, Holds, Undecided}
use Rattle.row_deduce.specs.Walks.{done, literal, read_conditions, read_outputs}
use Rattle.row_deduce.proofs.Walks.{walked-on, deduced-stopped, deduced-halted, deduced-idle, deduced-force, deduced-open, undecided-under}
use Rattle.row_deduce.proofs.Walks.{contradicted-under}
use Rattle.row_deduce.proofs.deduction.Goals.{After-conditions, In_ok-conditions, In_ok-outputs}
use Rattle.row_deduce.proofs.deduction.Goals as goal

-- the conditions were looked at
module _ (c : After-conditions) where
  abbrev r : Region
  r = region c.args.held.now c.args.cut.now

  abbrev row : Row
  row = row_in c.args.slot.now

  abbrev atoms : ℕ
  atoms = c.requires.holds.atoms

  rise : ascending (row_in c.args.slot.now).outputs ≡ true
  rise = (row-parts atoms row (T_true (is_row atoms row) c.requires.holds.stored.row)).outputs_rise

-- how they stand
module _ (c : In_ok-conditions) where
  abbrev before : After-conditions
  before = (goal.at.In_ok-conditions c).After-conditions

  seen : (l : ConditionState) → c.in_ok-conditions.field-0 ≡ l
      → done l c.conditions.new.meter
      ≡ read_conditions (region c.args.held.now c.args.cut.now) []
      (chunks (packed (row_in c.args.slot.now)) (row_in c.args.slot.now).conditions) c.tick.new.self
  seen l e = ap (λ (x : ConditionState). done x c.conditions.new.meter) (sym e) ∙ c.in_ok-conditions.ensures

-- one is undecided, and outputs were looked at
module _ (c : In_ok-outputs) where
  abbrev stood : In_ok-conditions
  stood = (goal.at.In_ok-outputs c).In_ok-conditions

  found : (x : Option ℕ) → c.in_ok-outputs.field-0 ≡ x
      → done x c.outputs.new.meter
      ≡ read_outputs (region c.args.held.now c.args.cut.now)
      (chunks (packed (row_in c.args.slot.now)) (row_in c.args.slot.now).outputs) c.conditions.new.meter
  found x e = ap (λ (y : Option ℕ). done y c.outputs.new.meter) (sym e) ∙ c.in_ok-outputs.ensures

  open_one : done (Undecided c.in-Undecided.code) c.conditions.new.meter
      ≡ read_conditions (region c.args.held.now c.args.cut.now) []
      (chunks (packed (row_in c.args.slot.now)) (row_in c.args.slot.now).conditions) c.tick.new.self
  open_one = seen stood (Undecided c.in-Undecided.code) c.in-Undecided.is

pub returns-in_err-tick : goal.returns-in_err-tick
returns-in_err-tick c = walked-on _ (passed c.from_residual.ensures.1) (deduced-stopped _ _ _ c.in_err-tick.ensures)

pub returns-in_err-conditions : goal.returns-in_err-conditions
returns-in_err-conditions c =
    let at = (goal.at.returns-in_err-conditions c).After-conditions in
    walked-on _ (passed c.from_residual-in_err-conditions.ensures.1)
    (deduced-halted (r at) (row at) c.args.meter.now c.tick.new.self c.in_ok-tick.ensures (rise at) c.in_err-conditions.ensures)

pub returns-in-Idle : goal.returns-in-Idle
returns-in-Idle c =
    let stood = (goal.at.returns-in-Idle c).In_ok-conditions in
    let at = before stood in
    deduced-idle (r at) (row at) c.args.meter.now c.tick.new.self c.in_ok-tick.ensures (rise at) (seen stood Idle c.in-Idle.is)

pub returns-in-Holds : goal.returns-in-Holds
returns-in-Holds c =
    let stood = (goal.at.returns-in-Holds c).In_ok-conditions in
    let at = before stood in
    deduced-force (r at) (row at) c.args.meter.now c.tick.new.self c.in_ok-tick.ensures (rise at) (seen stood Holds c.in-Holds.is)

pub returns-in_err-outputs : goal.returns-in_err-outputs
returns-in_err-outputs c =
    let stood = (goal.at.returns-in_err-outputs c).In_ok-conditions in
    let at = before stood in
    let code = c.in-Undecided.code in
    walked-on _ (passed c.from_residual-in_err-outputs.ensures.1)
    (deduced-open (r at) (row at) c.args.meter.now c.tick.new.self c.in_ok-tick.ensures (rise at) code c.conditions.new.meter
    (seen stood (Undecided code) c.in-Undecided.is) _ c.in_err-outputs.ensures)

pub overflow_cast-named : goal.overflow_cast-named
overflow_cast-named c =
    let looked = (goal.at.overflow_cast-named c).In_ok-outputs in
    let at = before (stood looked) in
    let under : c.in-Some.output < 2 * c.requires.holds.atoms
    = contradicted-under (r at) (2 * atoms at) (row at) c.conditions.new.meter c.in-Some.output c.outputs.new.meter
    (row_under (atoms at) (row at) c.requires.holds.stored.row).1
    (found looked (Some c.in-Some.output) c.in-Some.is) in
    let most : c.requires.holds.atoms ≤ atoms_wide code_bits = c.requires.holds.stored.atoms in
    omega arith

pub negation-requires : goal.negation-requires
negation-requires c =
    let looked = (goal.at.negation-requires c).In_ok-outputs in
    let at = before (stood looked) in
    let under : c.in-Undecided.code < 2 * c.requires.holds.atoms
    = undecided-under (r at) (2 * atoms at) (row at) c.tick.new.self c.in-Undecided.code c.conditions.new.meter
    (row_under (atoms at) (row at) c.requires.holds.stored.row).0 (open_one looked) in
    let most : c.requires.holds.atoms ≤ atoms_wide code_bits = c.requires.holds.stored.atoms in
    omega arith

pub returns-in-None : goal.returns-in-None
returns-in-None c =
    let looked = (goal.at.returns-in-None c).In_ok-outputs in
    let at = before (stood looked) in
    deduced-open (r at) (row at) c.args.meter.now c.tick.new.self c.in_ok-tick.ensures (rise at) c.in-Undecided.code
    c.conditions.new.meter (open_one looked) _ (found looked None c.in-None.is)

pub returns-in-Some : goal.returns-in-Some
returns-in-Some c =
    let looked = (goal.at.returns-in-Some c).In_ok-outputs in
    let at = before (stood looked) in
    let output = c.in-Some.output in
    ap (λ (x : Literal). done (Require x (literal output)) c.outputs.new.meter) c.negation.ensures
    ∙ deduced-open (r at) (row at) c.args.meter.now c.tick.new.self c.in_ok-tick.ensures (rise at) c.in-Undecided.code
    c.conditions.new.meter (open_one looked) _ (found looked (Some output) c.in-Some.is)
