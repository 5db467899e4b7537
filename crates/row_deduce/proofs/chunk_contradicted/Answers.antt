-- `row_deduce::chunk_contradicted`: the chunk is the codes of a group, or one code. Assumes nothing.
use mathlib.Core.Path.{sym, ap, ◌∙◌}
use mathlib.Core.List.{List}
use Prim.Native.Nat.{ℕ, ◌+◌}
use lib.ListN.{get_or}
use Rattle.words.specs.Region.{region}
use Rattle.model.specs.Deduction.{contradictions}
use Rattle.row_deduce.specs.Walks.{first_of}
use Rattle.row_deduce.proofs.Turns.{chunk-code}
use Rattle.row_deduce.proofs.Packed.{group-chunk, group-inside}
use Rattle.row_deduce.proofs.Scalar.{code-contradicted, code-clear}
use Rattle.row_deduce.proofs.chunk_contradicted.Goals as goal

pub group_at-requires : goal.group_at-requires
group_at-requires c = ((c.requires.fact_1.groups c.if-side.true).whole, c.requires.fact_2)

pub group_contradicted-requires : goal.group_contradicted-requires
group_contradicted-requires c =
    let a = c.args in
    group-inside a.slot.now a.side a.g c.group_at.result c.group_at.ensures a.held.now a.cut.now
    (c.requires.fact_1.groups c.if-side.true) c.requires.fact_2

pub returns-then-side : goal.returns-then-side
returns-then-side c =
    let a = c.args in
    let r = region a.held.now a.cut.now in
    c.group_contradicted.ensures
    ∙ ap (λ (l : List ℕ). first_of (contradictions r l))
    (sym (group-chunk a.slot.now a.side a.g c.group_at.result c.group_at.ensures c.if-side.true))

pub returns-then-contradicts : goal.returns-then-contradicts
returns-then-contradicts c =
    let a = c.args in
    let r = region a.held.now a.cut.now in
    code-contradicted r (get_or a.slot.now (a.side.base + a.g) 0) (sym c.contradicts.ensures ∙ c.if-contradicts.true)
    ∙ ap (λ (l : List ℕ). first_of (contradictions r l)) (sym (chunk-code a.slot.now a.side a.g c.if-side.false))

pub returns-else-contradicts : goal.returns-else-contradicts
returns-else-contradicts c =
    let a = c.args in
    let r = region a.held.now a.cut.now in
    code-clear r (get_or a.slot.now (a.side.base + a.g) 0) (sym c.contradicts.ensures ∙ c.if-contradicts.false)
    ∙ ap (λ (l : List ℕ). first_of (contradictions r l)) (sym (chunk-code a.slot.now a.side a.g c.if-side.false))
