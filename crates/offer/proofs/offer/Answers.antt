-- `offer::offer`. Assumes nothing.
use mathlib.Core.Path.{◌≡◌, sym, ◌∙◌}
use mathlib.Core.Bool.{true}
use mathlib.Core.List.{[]}
use mathlib.Core.Option.{none}
use Rattle.model.specs.declared.Refusal.TheVariants.{Row, Source}
use Rattle.model.specs.Refusals.{refusal, accepts}
use Rattle.model.specs.Operations.{fits_offer, offer_tests}
use Rattle.slots.specs.Layout.{row_of}
use Rattle.contents.specs.Lent.{lent}
use Rattle.contents.proofs.Accepting.{accepted, accept-refused, accept-passed}
use Rattle.offer.proofs.Fitting.{may-attempts, limits-passed}
use Rattle.offer.proofs.Offering.{offer-refused, offer-shut, offer-captured, unfit, fit, unsourced}
use Rattle.offer.proofs.Offering.{fit-passes}
use Rattle.offer.proofs.offer.Goals.{Else-source-gt1}
use Rattle.offer.proofs.offer.Goals as goal

pub returns-in-Err : goal.returns-in-Err
returns-in-Err c =
    let a = c.args in
    let s = lent a.header a.slots.now a.postings.now in
    let ts = offer_tests a.header.limits (row_of a.conditions.now a.outputs.now) a.source in
    offer-refused a.header a.slots.now a.postings.now a.conditions.now a.outputs.now a.source a.work _ _
    c.unoffered.ensures (accept-refused s true ts _ c.in-Err.ensures)

pub returns-then-not-is_row : goal.returns-then-not-is_row
returns-then-not-is_row c =
    let a = c.args in
    let s = lent a.header a.slots.now a.postings.now in
    let ts = offer_tests a.header.limits (row_of a.conditions.now a.outputs.now) a.source in
    offer-refused a.header a.slots.now a.postings.now a.conditions.now a.outputs.now a.source a.work Row _
    c.unoffered-then-not-is_row.ensures
    (accept-passed s true ts c.in_default.ensures
    ∙ unfit a.header a.slots.now a.postings.now a.conditions.now a.outputs.now a.source a.work _
    c.is_row.ensures (c.if-not-is_row.true))

-- what the tests of the row and of the source left
module _ (c : Else-source-gt1) where
  fits : fits_offer c.args.header.limits (row_of c.args.conditions.now c.args.outputs.now) ≡ true
  fits =
      let a = c.args in
      fit a.header a.slots.now a.postings.now a.conditions.now a.outputs.now a.source a.work _
      c.is_row.ensures (c.if-not-is_row.false)

  passes : refusal (accepts (lent c.args.header c.args.slots.now c.args.postings.now) true
      (offer_tests c.args.header.limits (row_of c.args.conditions.now c.args.outputs.now) c.args.source))
      ≡ none
  passes =
      let a = c.args in
      accept-passed (lent a.header a.slots.now a.postings.now) true _ c.in_default.ensures
      ∙ fit-passes a.header a.slots.now a.postings.now a.conditions.now a.outputs.now a.source a.work fits
      c.if-source-gt1.false

pub returns-then-source-gt1 : goal.returns-then-source-gt1
returns-then-source-gt1 c =
    let a = c.args in
    let s = lent a.header a.slots.now a.postings.now in
    let ts = offer_tests a.header.limits (row_of a.conditions.now a.outputs.now) a.source in
    offer-refused a.header a.slots.now a.postings.now a.conditions.now a.outputs.now a.source a.work Source _
    c.unoffered-then-source-gt1.ensures
    (accept-passed s true ts c.in_default.ensures
    ∙ unsourced a.header a.slots.now a.postings.now a.conditions.now a.outputs.now a.source a.work
    (fit a.header a.slots.now a.postings.now a.conditions.now a.outputs.now a.source a.work _
    c.is_row.ensures (c.if-not-is_row.false)) c.if-source-gt1.true)

pub returns-then-not-can_capture : goal.returns-then-not-can_capture
returns-then-not-can_capture c =
    let a = c.args in
    offer-shut a.header a.slots.now a.postings.now a.conditions.now a.outputs.now a.source a.work
    (passes (goal.at.returns-then-not-can_capture c).Else-source-gt1)
    _ _ c.unoffered-then-not-can_capture.ensures c.can_capture.ensures (c.if-not-can_capture.true)

pub capture-requires : goal.capture-requires
capture-requires c =
    let a = c.args in
    let s = lent a.header a.slots.now a.postings.now in
    let none = sym c.in_default.ensures in record {
      fact_1 = accepted a.header a.slots.now a.postings.now true [] none;
      fact_2 = may-attempts a.header (sym c.can_capture.ensures ∙ c.if-not-can_capture.false);
      fact_3 = limits-passed s true none;
      fact_4 = fits (goal.at.capture-requires c).Else-source-gt1;
    }

pub returns : goal.returns
returns c =
    let a = c.args in
    offer-captured a.header a.slots.now a.postings.now a.conditions.now a.outputs.now a.source a.work
    (passes (goal.at.returns c).Else-source-gt1) _ c.capture.result _ _ c.can_capture.ensures (c.if-not-can_capture.false)
    _ c.source_of.ensures c.capture.ensures
