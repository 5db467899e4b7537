-- 01, Posting: an atom on both sides stands twice. The run that a word ends, in a walk along a list. Assumes nothing.
use Rattle.std.specs.Prelude.{true, false, ℕ, ◌+◌, eqb}
use Rattle.lists.specs.declared.runs.Run.{Run}

-- one longer if the word is the last one's, else new
unfoldable pub run_after : Run → ℕ → Run
run_after r x = record { word = x; times = elim (eqb x r.word) [ true ↦ r.times + 1 | false ↦ 1 ] }
