-- `is_place`: the words before and at the place are looked at. Assumes nothing.
use native.Mathlib.Omega.{arith}
use borrow.Author.Tests.{leb-true}
use Rattle.postings.proofs.Near.{lower-here}
use Rattle.postings.proofs.searching.is_place.Goals as goal

pub returns-then-at-postings : goal.returns-then-at-postings
returns-then-at-postings c =
    λ e. lower-here c.args.postings.now c.args.bound c.args.at c.requires (omega (arith, c.if-at-postings.true))
    (c.is_past.ensures (c.if-not-is_past.false))
    (λ h. absurd (omega (arith, c.if-at-postings.true)))

pub returns : goal.returns
returns c =
    λ e. lower-here c.args.postings.now c.args.bound c.args.at c.requires c.if-postings-at.false
    (c.is_past.ensures (c.if-not-is_past.false))
    (λ h. leb-true _ _ e)
