-- `zero_first`: what the first step gives is the whole side. Assumes nothing.
use mathlib.Core.Path.{◌≡◌, sym, ap, ◌∙◌}
use mathlib.Core.List.{List, map}
use Prim.Native.Nat.{ℕ}
use Rattle.words.specs.Literal.{atom}
use Rattle.slots.specs.Cursor.{list_of, rest, rest-start}
use Rattle.postings.specs.Searching.{zero_first}
use Rattle.postings.proofs.Zeros.{zero-yes, zero-no, zero-none}
use Rattle.postings.proofs.searching.zero_first.Goals.{After-start-first}
use Rattle.postings.proofs.searching.zero_first.Goals as goal

-- the side, by what its first step gave
side : (c : After-start-first) (l : List ℕ) → l ≡ rest c.args.slot.now c.args.side c.start-first.result
    → zero_first (map atom l) ≡ zero_first (map atom (list_of c.args.slot.now c.args.side))
side c l e =
    ap (λ (x : List ℕ). zero_first (map atom x))
    (e ∙ ap (rest c.args.slot.now c.args.side) c.start-first.ensures ∙ rest-start c.args.slot.now c.args.side)

pub returns-then-code-eq0 : goal.returns-then-code-eq0
returns-then-code-eq0 c =
    sym (zero-yes _ _ c.if-code-eq0.true)
    ∙ side (goal.at.returns-then-code-eq0 c).After-start-first _ c.in-Some.ensures.0

pub returns-else-code-eq0 : goal.returns-else-code-eq0
returns-else-code-eq0 c =
    sym (zero-no _ _ c.if-code-eq0.false)
    ∙ side (goal.at.returns-else-code-eq0 c).After-start-first _ c.in-Some.ensures.0

pub returns-in-None : goal.returns-in-None
returns-in-None c = sym zero-none ∙ side (goal.at.returns-in-None c).After-start-first _ c.in-None.ensures.0
