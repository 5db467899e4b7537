-- `row_deduce::chunk_state`: the chunk is the codes of a group, or one code. Assumes nothing.
use mathlib.Core.Path.{◌≡◌, sym, ap, ◌∙◌, subst}
use mathlib.Core.List.{List}
use Prim.Native.Nat.{ℕ}
use lib.Bits.{bit_and}
use Rattle.words.specs.Region.{region}
use Rattle.model.specs.Deduction.{failing}
use Rattle.row_deduce.specs.declared.Group.{Group}
use Rattle.row_deduce.specs.Walks.{state_of}
use Rattle.row_deduce.proofs.Turns.{chunk-code}
use Rattle.row_deduce.proofs.Packed.{group-chunk, group-inside}
use Rattle.row_deduce.proofs.chunk_state.Goals as goal

pub group_at-requires : goal.group_at-requires
group_at-requires c = ((c.requires.fact_1.groups c.if-side.true).whole, c.requires.fact_3)

pub group_state-requires : goal.group_state-requires
group_state-requires c =
    let a = c.args in record {
      fact_1 = group-inside a.slot.now a.side a.g c.group_at.result c.group_at.ensures a.held.now a.cut.now
          (c.requires.fact_1.groups c.if-side.true) c.requires.fact_3;
      fact_2 = subst (λ (k : Group). bit_and k.present k.absent ≡ 0) (sym c.group_at.ensures)
          (c.requires.fact_2 c.if-side.true a.g c.requires.fact_3);
    }

pub returns-then-side : goal.returns-then-side
returns-then-side c =
    let a = c.args in
    let r = region a.held.now a.cut.now in
    c.group_state.ensures
    ∙ ap (λ (l : List ℕ). state_of r (failing r l))
    (sym (group-chunk a.slot.now a.side a.g c.group_at.result c.group_at.ensures c.if-side.true))

pub returns-else-side : goal.returns-else-side
returns-else-side c =
    let a = c.args in
    let r = region a.held.now a.cut.now in
    c.code_state.ensures
    ∙ ap (λ (l : List ℕ). state_of r (failing r l)) (sym (chunk-code a.slot.now a.side a.g c.if-side.false))
