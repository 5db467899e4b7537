-- `subsumes` meets its contract: the length tests, then one inclusion after the other. Assumes nothing.
use native.Mathlib.Omega.{arith}
use mathlib.Core.Path.{◌≡◌, sym, ap, ap₂, ◌∙◌}
use mathlib.Core.Bool.{Bool}
use mathlib.Core.List.{List}
use Prim.Native.Nat.{ℕ}
use Rattle.std.specs.Prelude.{Result, Ok}
use Rattle.meter.specs.declared.Unpaid.{Unpaid}
use Rattle.meter.specs.Judged.{Judged}
use Rattle.meter.specs.Results.{judged_end}
use Rattle.model.specs.Slots.{row_in}
use Rattle.slots.specs.Cursor.{list_of}
use Rattle.meter.proofs.Payments.{passed, on_yes, unpaid-first}
use Rattle.row_subsume.proofs.Including.{included}
use Rattle.row_subsume.proofs.Subsuming.{subsumed, subsumes-longer, subsumes-poorer, subsumes-both}
use Rattle.row_subsume.proofs.subsumes.Goals.{After-includes}
use Rattle.row_subsume.proofs.subsumes.Goals as goal

-- what the first inclusion gave, then the second
module _ (c : After-includes) where
  both : {r : Result Bool Unpaid} → c.includes.result ≡ r → let i : Judged = judged_end r c.includes.new.purse in
      on_yes i.verdict i (included (row_in c.args.r.now).outputs (row_in c.args.s.now).outputs i.account i.meter)
      ≡ subsumed (row_in c.args.r.now) (row_in c.args.s.now) c.args.purse.now.account c.args.purse.now.meter
  both e =
      subsumes-both (row_in c.args.r.now) (row_in c.args.s.now) _ _
      (ap (λ (r : Result Bool Unpaid). judged_end r c.includes.new.purse) (sym e) ∙ c.includes.ensures
      ∙ ap₂ (λ (x y : List ℕ). included x y c.args.purse.now.account c.args.purse.now.meter)
      (ap (list_of c.args.s.now) c.conditions.ensures ∙ c.requires.fact_2.conditions)
      (ap (list_of c.args.r.now) c.conditions-2.ensures ∙ c.requires.fact_1.conditions))
      (omega arith) (omega arith)

pub returns-then-s-r : goal.returns-then-s-r
returns-then-s-r c = subsumes-longer (row_in c.args.r.now) (row_in c.args.s.now) _ _ (omega arith)

pub returns-then-r-s : goal.returns-then-r-s
returns-then-r-s c = subsumes-poorer (row_in c.args.r.now) (row_in c.args.s.now) _ _ (omega arith)

pub returns-in_err-includes : goal.returns-in_err-includes
returns-in_err-includes c =
    rw (passed c.from_residual.ensures.1)
    (unpaid-first c.in_err-includes.field-0.0 _ _ ∙ both (goal.at.returns-in_err-includes c).After-includes c.in_err-includes.was)

pub returns-then-not-branch : goal.returns-then-not-branch
returns-then-not-branch c =
    both (goal.at.returns-then-not-branch c).After-includes (c.in_ok-includes.was ∙ ap Ok c.if-not-branch.true)

pub returns : goal.returns
returns c =
    let p = c.includes.new.purse in
    c.includes-2.ensures
    ∙ ap₂ (λ (x y : List ℕ). included x y p.account p.meter)
    (ap (list_of c.args.r.now) c.outputs.ensures ∙ c.requires.fact_1.outputs)
    (ap (list_of c.args.s.now) c.outputs-2.ensures ∙ c.requires.fact_2.outputs)
    ∙ both (goal.at.returns c).After-includes (c.in_ok-includes.was ∙ ap Ok c.if-not-branch.false)
