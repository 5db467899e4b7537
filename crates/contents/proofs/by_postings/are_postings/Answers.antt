-- `contents::by_postings::are_postings`. No place says anything before the rows are marked. Assumes nothing.
use native.Mathlib.Omega.{arith}
use Rattle.contents.proofs.Filing.{rows-widest}
use Rattle.contents.proofs.Marks.{marked-none}
use Rattle.contents.proofs.by_postings.are_postings.Goals as goal

pub mark_rows-most-requires : goal.mark_rows-most-requires
mark_rows-most-requires c = marked-none c.args.slots.now 65535 (omega arith)

pub invariant_of-first : goal.invariant_of-first
invariant_of-first c = record { held = rows-widest c.args.rows c.args.slots.now c.requires.fact_1 }
