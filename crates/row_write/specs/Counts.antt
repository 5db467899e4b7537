-- 01, Row: a group is the literals of one word. The groups that are still to be counted after a code of some word. Assumes nothing.
use Rattle.std.specs.Prelude.{true, false, List, [], ◌∷◌, ℕ, suc, eqb}
use Rattle.words.specs.Literal.{atom, word_of}

-- how many of the codes are of another word than the code before, the first than x
unfoldable pub new_words : ℕ → List ℕ → ℕ
new_words x [] = 0
new_words x (c ∷ cs) = elim (eqb (word_of (atom c)) x) [ true ↦ new_words x cs | false ↦ suc (new_words (word_of (atom c)) cs) ]
