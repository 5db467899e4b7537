-- `mark_from`. The loop: the postings from here on, marked now, are all of the atom's marked from the start. Assumes nothing.
use mathlib.Core.Path.{◌≡◌}
use Prim.Native.Nat.{◌+◌}
use lib.ListN.{drop}
use Rattle.postings.specs.Steps.{walk}
use Rattle.postings.specs.Searching.{look, marks}
use Rattle.postings.proofs.searching.mark_from.Given as goal

abbrev pub invariant-loop-posting : goal.invariant-loop-posting
invariant-loop-posting l =
    walk look (marks (drop (l.from + l.posting-index) l.postings) l.atom) l.answer l.meter
    ≡ walk look (marks l.postings l.atom) l.initial.answer l.initial.meter
