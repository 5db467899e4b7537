-- `unite` meets its contract: the count, and where there is room and more the growth. Assumes nothing.
use native.Mathlib.Omega.{arith}
use mathlib.Core.Path.{◌≡◌, refl, ap, ap₂, ◌∙◌}
use mathlib.Core.Bool.{true}
use mathlib.Core.List.{List}
use Prim.Native.Nat.{ℕ, ◌+◌, ◌-◌, ◌≤◌}
use lib.ListN.{length, get_or, take}
use borrow.Rule.Slice.PartMut.{put_mid, mid_of}
use Rattle.std.specs.Prelude.{Ok}
use Rattle.meter.specs.Judged.{Judged}
use Rattle.meter.specs.Meter.{pay, judged}
use Rattle.meter.specs.Results.{judged_end}
use Rattle.meter.proofs.Payments.{passed, ask-more, unpaid-first}
use Rattle.model.specs.Records.{max_outputs, conditions_at, outputs_at, body_at}
use Rattle.model.specs.Union.{union, grown}
use Rattle.model.specs.Slots.{row_in}
use Rattle.slots.specs.Cursor.{list_of}
use Rattle.row_propose.proofs.Parts.{zeros}
use Rattle.row_propose.proofs.Proposing.{proposed-outputs}
use Rattle.row_merge.proofs.Asking.{counting, united, unite-both, unite-fits, unite-same, unite-grows}
use Rattle.row_merge.proofs.Growing.{sides-union, front_long, front_of, grown-long, grown-by, grown-same}
use Rattle.row_merge.proofs.unite.Goals.{After-merge, In-Some, After-pay_all}
use Rattle.row_merge.proofs.unite.Goals as goal

module _ (c : After-merge) where
  abbrev P : List ℕ
  P = c.args.p.now

  -- the outputs of the union, and how many the proposal has
  abbrev os : List ℕ
  os = (grown (row_in c.args.r.now) (row_in P)).outputs

  abbrev before : ℕ
  before = length (row_in P).outputs

  abbrev start : ℕ
  start = body_at + get_or P conditions_at 0

  -- what `merge` is asked for, and the room that it is lent
  abbrev asked : List ℕ
  asked = union (list_of c.args.r.now c.outputs.result) (mid_of start (start + get_or P outputs_at 0 - start) P)

  abbrev room : List ℕ
  room = mid_of 0 (c.args.most - 0) (zeros max_outputs)

  unites : asked ≡ os
  unites = sides-union c.args.r.now P c.requires.fact_1 c.requires.fact_2 c.outputs.ensures

  room-long : length room ≡ c.args.most
  room-long = front_long c.args.most (zeros max_outputs) c.requires.fact_3

  counts : {i : Judged} → i ≡ counting asked (length room) c.args.purse.now.account c.args.purse.now.meter
      → i ≡ counting os c.args.most c.args.purse.now.account c.args.purse.now.meter
  counts e = e ∙ ap₂ (λ (q : List ℕ) (k : ℕ). counting q k c.args.purse.now.account c.args.purse.now.meter) unites room-long

pub returns-in_err-n-clause-asked : goal.returns-in_err-n-clause-asked
returns-in_err-n-clause-asked c =
    let s = (goal.at.returns-in_err-n-clause-asked c).After-merge in
    rw (passed c.from_residual.ensures.1)
    (unpaid-first c.in_err-n.field-0.0 _ _
    ∙ unite-both c.args.most (os s) (before s) _ _ _ (counts s c.in_err-n.ensures.counted))

pub returns-in_default-clause-asked : goal.returns-in_default-clause-asked
returns-in_default-clause-asked c =
    let s = (goal.at.returns-in_default-clause-asked c).After-merge in
    unite-both c.args.most (os s) (before s) _ _ _ (counts s (rw c.in_default.is at c.in_ok-n.ensures.counted))

-- there is room for the union
module _ (c : In-Some) where
  abbrev union_of : List ℕ
  union_of = os (goal.at.In-Some c).After-merge

  abbrev length_before : ℕ
  length_before = before (goal.at.In-Some c).After-merge

  counted : judged_end (Ok true) c.merge.new.purse ≡ counting union_of c.args.most c.args.purse.now.account c.args.purse.now.meter
  counted = counts (goal.at.In-Some c).After-merge (rw c.in-Some.is at c.in_ok-n.ensures.counted)

  written : (c.in-Some.n ≡ length union_of) × (take c.in-Some.n c.merge.new.out ≡ union_of)
  written = rw (unites (goal.at.In-Some c).After-merge) at (rw c.in-Some.is at c.in_ok-n.ensures.written)

  fits : length union_of ≤ c.args.most
  fits = unite-fits c.args.most union_of length_before _ _ _ counted refl

  -- the part of the words that are kept for it which is the union
  part : mid_of 0 (c.in-Some.n - 0) (put_mid 0 (c.args.most - 0) (zeros max_outputs) c.merge.new.out) ≡ union_of
  part =
      front_of c.in-Some.n (c.args.most - 0) (zeros max_outputs) c.merge.new.out
      (omega (arith, fits, written.0, c.merge.auto.out, room-long (goal.at.In-Some c).After-merge)) ∙ written.1

pub returns-then-n-end-clause-asked : goal.returns-then-n-end-clause-asked
returns-then-n-end-clause-asked c =
    let s = (goal.at.returns-then-n-end-clause-asked c).In-Some in
    let same : length (union_of s) ≡ length_before s = omega (arith, (written s).0, proposed-outputs c.args.p.now c.requires.fact_2) in
    unite-same c.args.most (union_of s) (length_before s) _ _ _ (counted s) refl same

pub returns-then-n-end-clause-grows : goal.returns-then-n-end-clause-grows
returns-then-n-end-clause-grows c =
    let s = (goal.at.returns-then-n-end-clause-grows c).In-Some in
    let same : length (union_of s) ≡ length_before s = omega (arith, (written s).0, proposed-outputs c.args.p.now c.requires.fact_2) in
    grown-same (row_in c.args.r.now) c.args.p.now c.requires.fact_2 same

-- as many reads as the union has outputs, where it has more than the proposal
module _ (c : After-pay_all) where
  grows : judged true (pay c.in-Some.n c.merge.new.purse.account c.merge.new.purse.meter)
      ≡ united c.args.most (union_of (goal.at.After-pay_all c).In-Some) (length_before (goal.at.After-pay_all c).In-Some)
      c.args.purse.now.account c.args.purse.now.meter
  grows =
      let s = (goal.at.After-pay_all c).In-Some in
      let more : length (union_of s) ≡ length_before s → ⊥
      = λ e. c.if-n-end.false (omega (arith, e, (written s).0, proposed-outputs c.args.p.now c.requires.fact_2)) in
      rw (written s).0 (unite-grows c.args.most (union_of s) (length_before s) _ _ _ (counted s) refl more)

pub returns-in_err-pay_all-clause-asked : goal.returns-in_err-pay_all-clause-asked
returns-in_err-pay_all-clause-asked c =
    ask-more true _ c.in-Some.n _ _ _ (passed c.from_residual-in_err-pay_all.ensures.1) (omega arith) c.in_err-pay_all.ensures
    ∙ grows (goal.at.returns-in_err-pay_all-clause-asked c).After-pay_all

pub grow-requires-clause-fact_2 : goal.grow-requires-clause-fact_2
grow-requires-clause-fact_2 c =
    let s = (goal.at.grow-requires-clause-fact_2 c).In-Some in
    omega (arith, ap length (part s), grown-long (row_in c.args.r.now) (row_in c.args.p.now))

pub returns-clause-asked : goal.returns-clause-asked
returns-clause-asked c = ap (judged true) c.in_ok-pay_all.ensures ∙ grows (goal.at.returns-clause-asked c).After-pay_all

pub returns-clause-grows : goal.returns-clause-grows
returns-clause-grows c =
    c.grow.ensures ∙ grown-by (row_in c.args.r.now) (row_in c.args.p.now) (part (goal.at.returns-clause-grows c).In-Some)
