-- `mark_atom`: the atom's own tick, then its postings. Assumes nothing.
use mathlib.Core.Path.{sym, ◌∙◌}
use native.Mathlib.Omega.{arith}
use Rattle.words.specs.Literal.{code_bits}
use Rattle.meter.proofs.Payments.{passed}
use Rattle.postings.specs.Searching.{look}
use Rattle.postings.proofs.Walking.{walk-done, walk-ended}
use Rattle.postings.proofs.Marking.{marks-beyond, looks-step}
use Rattle.postings.proofs.searching.mark_atom.Goals as goal

pub returns-in_err-tick : goal.returns-in_err-tick
returns-in_err-tick c = walk-ended _ _ (passed c.from_residual.ensures.1) (sym (looks-step _ _ _ _ c.in_err-tick.ensures))

pub returns-then-atom-gt-LAST_ATOM : goal.returns-then-atom-gt-LAST_ATOM
returns-then-atom-gt-LAST_ATOM c =
    walk-done look _ _ _
    (marks-beyond c.args.atom c.args.postings.now code_bits c.requires.fact_1.low (omega (arith, c.if-atom-gt-LAST_ATOM.true)))
    ∙ sym (looks-step _ _ _ _ c.in_ok-tick.ensures)

pub returns : goal.returns
returns c = c.mark_from.ensures ∙ sym (looks-step _ _ _ _ c.in_ok-tick.ensures)
