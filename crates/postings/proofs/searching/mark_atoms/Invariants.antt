-- `mark_atoms`. The loop: the atoms from here on, looked at now, are all atoms looked at from the start. Assumes nothing.
use mathlib.Core.Path.{◌≡◌}
use lib.ListN.{drop}
use Rattle.postings.specs.Steps.{walk}
use Rattle.postings.specs.Searching.{look, looks_all}
use Rattle.postings.proofs.searching.mark_atoms.Given as goal

abbrev pub invariant-loop-atom : goal.invariant-loop-atom
invariant-loop-atom l =
    walk look (looks_all l.postings (drop l.atom-index l.atoms)) l.answer l.meter
    ≡ walk look (looks_all l.postings l.atoms) l.initial.answer l.initial.meter
