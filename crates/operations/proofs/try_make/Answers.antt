-- `operations::try_make`. One law for each way out. Assumes nothing.
use mathlib.Core.Path.{sym, ◌∙◌}
use Prim.Native.Nat.{◌≤◌}
use Rattle.model.specs.Records.{max_rows}
use Rattle.contents.proofs.Limits.{limits-rows}
use Rattle.operations.proofs.Making.{make-limits, make-slots, make-postings, make-made}
use borrow.Author.Rules.{rules}
use Rattle.operations.proofs.try_make.Goals as goal

pub returns-then-not-limits_ok : goal.returns-then-not-limits_ok
returns-then-not-limits_ok c =
    let a = c.args in
    let l = sym c.limits_ok.ensures ∙ c.if-not-limits_ok.true in
    make-limits a.limits a.number a.slots.now a.postings.now l

pub overflow_mul-tier : goal.overflow_mul-tier
overflow_mul-tier c =
    let a = c.args in
    let l = sym c.limits_ok.ensures ∙ c.if-not-limits_ok.false in
    let r : a.limits.tier_rows ≤ max_rows = limits-rows a.limits l in
    search rules

pub returns-then-slots-tier : goal.returns-then-slots-tier
returns-then-slots-tier c =
    let a = c.args in
    let l = sym c.limits_ok.ensures ∙ c.if-not-limits_ok.false in
    make-slots a.limits a.number a.slots.now a.postings.now l c.if-slots-tier.true

pub overflow_mul-tier-2 : goal.overflow_mul-tier-2
overflow_mul-tier-2 c =
    let a = c.args in
    let l = sym c.limits_ok.ensures ∙ c.if-not-limits_ok.false in
    let r : a.limits.tier_rows ≤ max_rows = limits-rows a.limits l in
    search rules

pub returns-then-postings-tier : goal.returns-then-postings-tier
returns-then-postings-tier c =
    let a = c.args in
    let l = sym c.limits_ok.ensures ∙ c.if-not-limits_ok.false in
    make-postings a.limits a.number a.slots.now a.postings.now l c.if-slots-tier.false c.if-postings-tier.true

pub returns : goal.returns
returns c =
    let a =
    c.args in
    let l = sym c.limits_ok.ensures
    ∙ c.if-not-limits_ok.false in
    rw (
      c.fresh_header.ensures,
      c.fill_zero.ensures,
      c.fill_zero-2.ensures,
    )
    (make-made a.limits a.number a.slots.now a.postings.now l
    c.if-slots-tier.false
    c.if-postings-tier.false)
