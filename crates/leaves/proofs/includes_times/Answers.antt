-- `includes_times`: each call asks the same of the account and the meter that the last left. Assumes nothing.
use mathlib.Core.Path.{◌≡◌, refl, ap₂, ◌∙◌}
use mathlib.Core.List.{List}
use Prim.Native.Nat.{ℕ}
use Rattle.std.proofs.Common.{rules}
use Rattle.meter.specs.declared.Purse.{Purse}
use Rattle.meter.specs.Results.{judged_end}
use Rattle.model.specs.Slots.{row_in}
use Rattle.meter.specs.declared.Meter.{Meter}
use Rattle.meter.specs.declared.Account.{Account}
use Rattle.meter.specs.Judged.{Judged}
use Rattle.meter.specs.Meter.{pay, judged}
use Rattle.model.specs.Rows.{includes, includes_reads}
use Rattle.slots.specs.Cursor.{list_of}
use Rattle.leaves.specs.Calls.{payer, asked}
use Rattle.leaves.proofs.Repeating.{again-repeats}
use Rattle.leaves.proofs.Fitting.{outputs-list}
use Rattle.leaves.proofs.includes_times.Goals.{After-outputs-wanted}
use Rattle.leaves.proofs.includes_times.Goals as goal

abbrev asks : List ℕ → List ℕ → Account × Meter → Judged
asks a b = asked (includes (row_in a).outputs (row_in b).outputs) (includes_reads (row_in a).outputs (row_in b).outputs)

-- the answer of a call, of the rows
module _ (c : After-outputs-wanted) where
  of-rows : (x : Account) (y : Meter) {j : Judged}
      → j ≡ judged (includes (list_of c.args.a.now c.outputs-candidates.result) (list_of c.args.b.now c.outputs-wanted.result))
      (pay (includes_reads (list_of c.args.a.now c.outputs-candidates.result) (list_of c.args.b.now c.outputs-wanted.result)) x y)
      → j ≡ asks c.args.a.now c.args.b.now (x, y)
  of-rows x y e =
      e ∙ ap₂ (λ (l k : List ℕ). judged (includes l k) (pay (includes_reads l k) x y))
      (outputs-list _ c.requires.fact_1 c.outputs-candidates.ensures) (outputs-list _ c.requires.fact_2 c.outputs-wanted.ensures)

pub returns : goal.returns
returns c =
    again-repeats _ _ (asks c.args.a.now c.args.b.now) payer (λ (p : Purse). (p.account, p.meter)) judged_end
    (λ x r y e. of-rows (goal.at.returns c).After-outputs-wanted x.account x.meter
    (let m = e.met in let s = e.shows in let l = e.leaves in search rules)) (λ r y. refl) _ _ _ _ c.repeated.ensures
