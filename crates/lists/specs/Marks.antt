-- 01, module 7: answers ascend, then zeros. Positions marked in a list, and the place of a number in an ascending list.
-- Assumes nothing.
use Rattle.std.specs.Prelude.{Bool, not, List, [], ◌∷◌, ℕ, eqb, ltb, length, get_or, set}
use Rattle.lists.specs.Lists.{select, up_to}

-- how many are below b: in an ascending list, the first position of one that is not
unfoldable pub lower_bound : ℕ → List ℕ → ℕ
lower_bound b xs = length (select (λ x. ltb x b) xs)

-- 1 at each position of ps
unfoldable pub mark_all : List ℕ → List ℕ → List ℕ
mark_all ms [] = ms
mark_all ms (p ∷ ps) = mark_all (set ms p 1) ps

-- a word other than 0 stands there
unfoldable pub is_marked : List ℕ → ℕ → Bool
is_marked ms q = not (eqb (get_or ms q 0) 0)

-- the marked positions, ascending
unfoldable pub marked : List ℕ → List ℕ
marked ms = select (is_marked ms) (up_to (length ms))
