-- `union_outputs` meets its contract: the unpaid tests, then equal conditions, then the union. Assumes nothing.
use native.Mathlib.Omega.{arith}
use mathlib.Core.Path.{◌≡◌, sym, ap, ap₂, ◌∙◌, subst}
use mathlib.Core.Bool.{Bool}
use mathlib.Core.List.{List}
use Prim.Native.Nat.{ℕ}
use lib.ListN.{length}
use Rattle.std.specs.Prelude.{Result, Ok}
use Rattle.meter.specs.declared.Unpaid.{Unpaid}
use Rattle.meter.specs.Judged.{Judged}
use Rattle.meter.specs.Results.{judged_end}
use Rattle.meter.proofs.Payments.{passed, on_yes, unpaid-first}
use Rattle.model.specs.Records.{Row}
use Rattle.model.specs.Union.{grown}
use Rattle.model.specs.Slots.{row_in}
use Rattle.slots.specs.Cursor.{Sound, list_of}
use Rattle.slots.specs.Layout.{Laid}
use Rattle.row_propose.proofs.Proposing.{proposed-laid}
use Rattle.row_merge.proofs.Asking.{alike, united, joined, join-other, join-left, join-right, join-both}
use Rattle.row_merge.proofs.union_outputs.Goals.{After-conditions-2, After-same_literals, Else-r-p, Start}
use Rattle.row_merge.proofs.union_outputs.Goals as goal

module _ (c : Start) where
  abbrev held : Row
  held = row_in c.args.r.now

  abbrev offered : Row
  offered = row_in c.args.p.now

  right : Laid c.args.p.now
  right = proposed-laid c.args.p.now c.requires.fact_2

-- as many conditions
alike-long : (c : Else-r-p) → length (held (goal.at.Else-r-p c).Start).conditions ≡ length (offered (goal.at.Else-r-p c).Start).conditions
alike-long c =
    c.requires.fact_1.condition_count ∙ c.if-r-p.false ∙ sym (right (goal.at.Else-r-p c).Start).condition_count

module _ (c : After-conditions-2) where
  listed-left : list_of c.args.r.now c.conditions.result ≡ (row_in c.args.r.now).conditions
  listed-left = ap (list_of c.args.r.now) c.conditions.ensures ∙ c.requires.fact_1.conditions

  listed-right : list_of c.args.p.now c.conditions-2.result ≡ (row_in c.args.p.now).conditions
  listed-right =
      ap (list_of c.args.p.now) c.conditions-2.ensures ∙ (right (goal.at.After-conditions-2 c).Start).conditions

-- what the conditions gave, then the union
module _ (c : After-same_literals) where
  both : {s : Result Bool Unpaid} → c.same_literals.result ≡ s → let i : Judged = judged_end s c.same_literals.new.purse in
      on_yes i.verdict i
      (united c.args.most (grown (row_in c.args.r.now) (row_in c.args.p.now)).outputs (length (row_in c.args.p.now).outputs) i.account
      i.meter)
      ≡ joined c.args.most (row_in c.args.r.now) (row_in c.args.p.now) c.args.purse.now.account c.args.purse.now.meter
  both e =
      let t = (goal.at.After-same_literals c).Start in
      let l = (goal.at.After-same_literals c).After-conditions-2 in
      join-both c.args.most (held t) (offered t) _ _ (alike-long (goal.at.After-same_literals c).Else-r-p)
      (omega (arith, c.requires.fact_1.output_count, c.if-most-r.false))
      (ap (λ (s : Result Bool Unpaid). judged_end s c.same_literals.new.purse) (sym e) ∙ c.same_literals.ensures
      ∙ ap₂ (λ (x y : List ℕ). alike x y c.args.purse.now.account c.args.purse.now.meter) (listed-left l) (listed-right l))
      (omega (arith, (right t).output_count, c.if-most-p.false))

pub returns-then-r-p-clause-asked : goal.returns-then-r-p-clause-asked
returns-then-r-p-clause-asked c =
    let t = (goal.at.returns-then-r-p-clause-asked c).Start in
    join-other c.args.most (held t) (offered t) _ _
    (λ e. c.if-r-p.true (sym c.requires.fact_1.condition_count ∙ e ∙ (right t).condition_count))

pub returns-then-most-r-clause-asked : goal.returns-then-most-r-clause-asked
returns-then-most-r-clause-asked c =
    let t = (goal.at.returns-then-most-r-clause-asked c).Start in
    join-left c.args.most (held t) (offered t) _ _ (alike-long (goal.at.returns-then-most-r-clause-asked c).Else-r-p)
    (omega (arith, c.requires.fact_1.output_count, c.if-most-r.true))

pub returns-then-most-p-clause-asked : goal.returns-then-most-p-clause-asked
returns-then-most-p-clause-asked c =
    let t = (goal.at.returns-then-most-p-clause-asked c).Start in
    join-right c.args.most (held t) (offered t) _ _ (alike-long (goal.at.returns-then-most-p-clause-asked c).Else-r-p)
    (omega (arith, c.requires.fact_1.output_count, c.if-most-r.false)) (omega (arith, (right t).output_count, c.if-most-p.true))

pub same_literals-requires-clause-fact_2 : goal.same_literals-requires-clause-fact_2
same_literals-requires-clause-fact_2 c =
    subst (Sound c.args.p.now) (sym c.conditions-2.ensures) (right (goal.at.same_literals-requires-clause-fact_2 c).Start).first

pub same_literals-requires-clause-fact_3 : goal.same_literals-requires-clause-fact_3
same_literals-requires-clause-fact_3 c =
    let l = (goal.at.same_literals-requires-clause-fact_3 c).After-conditions-2 in
    ap length (listed-left l) ∙ alike-long (goal.at.same_literals-requires-clause-fact_3 c).Else-r-p ∙ sym (ap length (listed-right l))

pub returns-in_err-same_literals-clause-asked : goal.returns-in_err-same_literals-clause-asked
returns-in_err-same_literals-clause-asked c =
    rw (passed c.from_residual.ensures.1)
    (unpaid-first c.in_err-same_literals.field-0.0 _ _
    ∙ both (goal.at.returns-in_err-same_literals-clause-asked c).After-same_literals c.in_err-same_literals.was)

pub returns-then-not-branch-clause-asked : goal.returns-then-not-branch-clause-asked
returns-then-not-branch-clause-asked c =
    both (goal.at.returns-then-not-branch-clause-asked c).After-same_literals (c.in_ok-same_literals.was ∙ ap Ok c.if-not-branch.true)

pub returns-clause-asked : goal.returns-clause-asked
returns-clause-asked c =
    c.unite.ensures.asked
    ∙ both (goal.at.returns-clause-asked c).After-same_literals (c.in_ok-same_literals.was ∙ ap Ok c.if-not-branch.false)
