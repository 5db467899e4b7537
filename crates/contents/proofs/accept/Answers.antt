-- `contents::accept`. One law for each way out. Assumes nothing.
use mathlib.Core.Path.{sym, ◌∙◌}
use Prim.Native.Nat.{◌≤◌}
use native.Mathlib.Omega.{arith}
use Rattle.model.specs.Records.{max_rows}
use Rattle.contents.proofs.Limits.{limits-atoms, limits-rows, counts-rows}
use Rattle.contents.proofs.Accepting.{accept-limits, accept-slots, accept-postings, accept-others, accept-counts, accept-words}
use Rattle.contents.proofs.Accepting.{accept-rows, accept-filed, accept-all}
use borrow.Author.Rules.{rules}
use Rattle.contents.proofs.accept.Goals as goal

pub returns-then-not-limits_ok : goal.returns-then-not-limits_ok
returns-then-not-limits_ok c =
    let a = c.args in
    let h = a.header in
    let l = sym c.limits_ok.ensures ∙ c.if-not-limits_ok.true in
    accept-limits h a.slots.now a.postings.now a.others l

pub overflow_mul-tier : goal.overflow_mul-tier
overflow_mul-tier c =
    let a = c.args in
    let h = a.header in
    let l = sym c.limits_ok.ensures ∙ c.if-not-limits_ok.false in
    let r : h.limits.tier_rows ≤ max_rows = limits-rows h.limits l in
    search rules

pub returns-then-slots-tier : goal.returns-then-slots-tier
returns-then-slots-tier c =
    let a = c.args in
    let h = a.header in
    let l = sym c.limits_ok.ensures ∙ c.if-not-limits_ok.false in
    accept-slots h a.slots.now a.postings.now a.others l c.if-slots-tier.true

pub overflow_mul-tier-2 : goal.overflow_mul-tier-2
overflow_mul-tier-2 c =
    let a = c.args in
    let h = a.header in
    let l = sym c.limits_ok.ensures ∙ c.if-not-limits_ok.false in
    let r : h.limits.tier_rows ≤ max_rows = limits-rows h.limits l in
    search rules

pub returns-then-postings-tier : goal.returns-then-postings-tier
returns-then-postings-tier c =
    let a = c.args in
    let h = a.header in
    let l = sym c.limits_ok.ensures ∙ c.if-not-limits_ok.false in
    accept-postings h a.slots.now a.postings.now a.others l c.if-slots-tier.false c.if-postings-tier.true

pub returns-then-not-others : goal.returns-then-not-others
returns-then-not-others c =
    let a = c.args in
    let h = a.header in
    let l = sym c.limits_ok.ensures ∙ c.if-not-limits_ok.false in
    accept-others h a.slots.now a.postings.now a.others l c.if-slots-tier.false c.if-postings-tier.false
    (c.if-not-others.true)

pub returns-then-not-counts_ok : goal.returns-then-not-counts_ok
returns-then-not-counts_ok c =
    let a = c.args in
    let h = a.header in
    let l = sym c.limits_ok.ensures
    ∙ c.if-not-limits_ok.false in
    accept-counts h a.slots.now a.postings.now a.others l c.if-slots-tier.false
    c.if-postings-tier.false (c.if-not-others.false)
    (sym c.counts_ok.ensures ∙ c.if-not-counts_ok.true)

pub slots_ok-requires : goal.slots_ok-requires
slots_ok-requires c =
    let a = c.args in
    let h = a.header in
    let l = sym c.limits_ok.ensures
    ∙ c.if-not-limits_ok.false in
    let k = counts-rows h (sym c.counts_ok.ensures ∙ c.if-not-counts_ok.false) in
    let e = c.if-slots-tier.false in record {
      fact_1 = omega arith;
      fact_2 = limits-atoms h.limits l;
    }

pub returns-then-not-slots_ok : goal.returns-then-not-slots_ok
returns-then-not-slots_ok c =
    let a = c.args in
    let h = a.header in
    let l = sym c.limits_ok.ensures
    ∙ c.if-not-limits_ok.false in
    accept-words h a.slots.now a.postings.now a.others l c.if-slots-tier.false
    c.if-postings-tier.false (c.if-not-others.false)
    (sym c.counts_ok.ensures ∙ c.if-not-counts_ok.false)
    (sym c.slots_ok.ensures ∙ c.if-not-slots_ok.true)

pub postings_ok-requires : goal.postings_ok-requires
postings_ok-requires c =
    let a = c.args in
    let h = a.header in
    let l = sym c.limits_ok.ensures
    ∙ c.if-not-limits_ok.false in
    let n = sym c.counts_ok.ensures ∙ c.if-not-counts_ok.false in
    let k = counts-rows h n in
    let e = c.if-postings-tier.false in record {
      fact_1 = accept-rows h a.slots.now a.postings.now a.others l c.if-slots-tier.false
          c.if-postings-tier.false (c.if-not-others.false) n
          (sym c.slots_ok.ensures ∙ c.if-not-slots_ok.false);
      fact_2 = omega arith;
    }

pub returns-then-not-postings_ok : goal.returns-then-not-postings_ok
returns-then-not-postings_ok c =
    let a = c.args in
    let h = a.header in
    let l = sym c.limits_ok.ensures
    ∙ c.if-not-limits_ok.false in
    accept-filed h a.slots.now a.postings.now a.others l
    c.if-slots-tier.false
    c.if-postings-tier.false
    (c.if-not-others.false)
    (sym c.counts_ok.ensures ∙ c.if-not-counts_ok.false)
    (sym c.slots_ok.ensures ∙ c.if-not-slots_ok.false)
    (sym c.postings_ok.ensures ∙ c.if-not-postings_ok.true)

pub returns : goal.returns
returns c =
    let a = c.args in
    let h = a.header in
    let l = sym c.limits_ok.ensures
    ∙ c.if-not-limits_ok.false in
    accept-all h a.slots.now a.postings.now a.others l
    c.if-slots-tier.false
    c.if-postings-tier.false
    (c.if-not-others.false)
    (sym c.counts_ok.ensures ∙ c.if-not-counts_ok.false)
    (sym c.slots_ok.ensures ∙ c.if-not-slots_ok.false)
    (sym c.postings_ok.ensures ∙ c.if-not-postings_ok.false)
