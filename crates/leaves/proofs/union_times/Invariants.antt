-- `union_times` meets its contract: each turn unites anew with the account and the meter that the last left. Assumes nothing.
use mathlib.Core.Path.{◌≡◌}
use Prim.Native.Nat.{ℕ, ◌-◌}
use Rattle.leaves.specs.Calls.{again, payer, asked}
use mathlib.Core.List.{List}
use Rattle.meter.specs.declared.Meter.{Meter}
use Rattle.meter.specs.declared.Account.{Account}
use Rattle.meter.specs.Judged.{Judged}
use Rattle.model.specs.Union.{joins, join_reads}
use Rattle.model.specs.Slots.{row_in}
use Rattle.slots.specs.Layout.{row_of}
use Rattle.leaves.proofs.union_times.Given as goal

abbrev pub asks : List ℕ → List ℕ → List ℕ → ℕ → Account × Meter → Judged
asks r conditions outputs most =
    asked (joins most (row_in r) (row_of conditions outputs)) (join_reads most (row_in r) (row_of conditions outputs))

abbrev pub invariant-loop : goal.invariant-loop
invariant-loop l =
    again (asks l.r l.conditions l.outputs l.most) payer (l.times - l.counter) (l.purse.account, l.purse.meter)
    ≡ again (asks l.r l.conditions l.outputs l.most) payer (l.times - 1) (l.initial.purse.account, l.initial.purse.meter)
