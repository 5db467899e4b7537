use Rattle.std.proofs.Common.{ap, ◌∙◌, arith, ℕ, length, length-append, List}
use Rattle.std.specs.Slice.Iter.{chunks_exact_rest}
use Rattle.contents.proofs.Walks.{atoms-next, atoms-end}
use Rattle.contents.proofs.by_postings.atom_count.Goals as goal

pub loop-group-preserved : goal.loop-group-preserved
loop-group-preserved c =
    let s = c.in-Some.ensures.steps in
    let v = c.loop-group.invariant in
    let n = atoms-next _ _ _ s.1.0 (s.1.1 ∙ v.size) in record {
      size = s.0 ∙ v.size;
      few = omega (arith, ap length s.1.0, length-append {A = ℕ}, s.1.1, v.size, c.atoms_in-count.ensures.1, v.few);
      sum = omega (arith, n, c.atoms_in-count.ensures.0, v.sum);
    }

pub returns : goal.returns
returns c =
    let v = c.loop-group.invariant in
    let rest : List ℕ = chunks_exact_rest c.loop-group.group-iterator in
    omega (arith, atoms-end rest (omega (arith, c.in-None.ensures.steps.1.0, v.size)), v.sum)
