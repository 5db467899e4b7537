-- `compare` meets its contract: the first pass ends it, or the second does. Assumes nothing.
use mathlib.Core.Path.{◌≡◌}
use Rattle.words.specs.Region.{has}
use Rattle.meter.proofs.Payments.{passed as refused}
use Rattle.model.specs.Retention.{first_pass, passed}
use Rattle.model.specs.Slots.{row_in, entries_in}
use Rattle.row_propose.specs.Proposed.{Proposed}
use Rattle.row_propose.proofs.Proposing.{proposed-laid}
use Rattle.retain_compare.specs.Passes.{examined_by}
use Rattle.retain_compare.proofs.Outcomes.{untold}
use Rattle.retain_compare.proofs.Both.{both-unpaid, both-found, second-unpaid, second-paid, second-passes}
use Rattle.retain_compare.proofs.compare.Goals.{In_default}
use Rattle.retain_compare.proofs.compare.Goals as goal

-- no row subsumes the proposal
told : (c : In_default)
    → (first_pass c.args.most (row_in c.args.p.now) (entries_in c.args.rows c.args.slots.now)
    ≡ passed (examined_by (has c.first_pass.new.replaced) 0 (entries_in c.args.rows c.args.slots.now)) (row_in c.first_pass.new.p))
    × Proposed c.first_pass.new.p
told c = (rw c.in_default.is at c.in_ok-position.ensures).1

pub returns-in_err-position : goal.returns-in_err-position
returns-in_err-position c =
    let e = refused c.from_residual.ensures.1 in
    (rw e (both-unpaid _ _ _ _ _ _ _ c.in_err-position.ensures.0), untold _ e)

pub returns-in-Some : goal.returns-in-Some
returns-in-Some c =
    let h = rw c.in-Some.is at c.in_ok-position.ensures in
    (both-found _ _ _ _ _ _ _ h.0, tt)

pub second_pass-requires-clause-fact_2 : goal.second_pass-requires-clause-fact_2
second_pass-requires-clause-fact_2 c =
    proposed-laid c.first_pass.new.p (told (goal.at.second_pass-requires-clause-fact_2 c).In_default).1

pub returns-in_err-second_pass : goal.returns-in_err-second_pass
returns-in_err-second_pass c =
    let t = told (goal.at.returns-in_err-second_pass c).In_default in
    let h = rw c.in_default.is at c.in_ok-position.ensures in
    let e = refused c.from_residual-in_err-second_pass.ensures.1 in
    (rw e (second-unpaid _ _ _ _ _ _ _ _ h.0 t.0 _ _ c.in_err-second_pass.ensures.paid), untold _ e)

pub returns : goal.returns
returns c =
    let t = told (goal.at.returns c).In_default in
    let h = rw c.in_default.is at c.in_ok-position.ensures in (
      second-paid _ _ _ _ _ _ _ _ h.0 t.0 _ c.in_ok-second_pass.ensures.paid,
      (second-passes _ _ _ _ _ _ _ _ h.0 t.0 c.in_ok-second_pass.ensures.marked, t.1),
    )
