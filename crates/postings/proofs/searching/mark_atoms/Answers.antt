-- `mark_atoms`. Each atom is looked at after those before it. Assumes nothing.
use mathlib.Core.Path.{sym, ◌∙◌}
use native.Mathlib.Omega.{arith}
use Rattle.meter.proofs.Payments.{passed}
use Rattle.postings.specs.Searching.{look}
use Rattle.postings.proofs.Walking.{walk-done, walk-ended}
use Rattle.postings.proofs.Marking.{looks-turn, looks-over}
use Rattle.postings.proofs.searching.mark_atoms.Goals as goal

pub returns-in_err-mark_atom : goal.returns-in_err-mark_atom
returns-in_err-mark_atom c =
    walk-ended _ _ (passed c.from_residual.ensures.1)
    (sym (looks-turn _ _ _ _ _ c.loop-atom-test.true c.in_err-mark_atom.ensures) ∙ c.loop-atom.invariant)

pub loop-atom-preserved : goal.loop-atom-preserved
loop-atom-preserved c = sym (looks-turn _ _ _ _ _ c.loop-atom-test.true c.in_ok-mark_atom.ensures) ∙ c.loop-atom.invariant

pub returns : goal.returns
returns c =
    walk-done look _ _ _ (looks-over c.args.postings.now c.args.atoms.now c.loop-atom.atom-index (omega arith)) ∙ c.loop-atom.invariant
