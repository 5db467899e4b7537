-- `row_deduce::next_publication_output`: the side is read first. Assumes nothing.
use native.Mathlib.Omega.{arith}
use Rattle.slots.proofs.Storing.{laid-stored}
use Rattle.row_deduce.proofs.next_publication_output.Goals as goal

pub outputs-side-requires : goal.outputs-side-requires
outputs-side-requires c =
    let h = c.requires.fact_1.holds in
    let laid = laid-stored h.atoms c.args.slot.now h.stored in record {
      fact_1 = omega (arith, laid.long);
      fact_2 = laid.counted;
    }
