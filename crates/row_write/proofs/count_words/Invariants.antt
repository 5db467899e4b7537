-- `count_words` meets its contract: the groups counted, and the words that are new from here on, make the whole. Assumes nothing.
use mathlib.Core.Path.{◌≡◌}
use Prim.Native.Nat.{◌+◌, ◌-◌, ◌/◌, ◌<◌}
use lib.ListN.{length, drop}
use Rattle.words.specs.Bit.{word_bits}
use Rattle.words.specs.Region.{max_atoms}
use Rattle.model.specs.Rows.{groups}
use Rattle.row_write.specs.Counts.{new_words}
use Rattle.row_write.proofs.count_words.Given as goal

-- the last group is a word of the most atoms all the while
abbrev pub invariant-loop-code : goal.invariant-loop-code
invariant-loop-code l =
    (length l.rest < l.count + l.code-index) × (l.previous < max_atoms / word_bits)
    × (l.count + new_words l.previous (drop l.code-index l.rest)
    ≡ length (groups l.codes) + (length l.rest - l.code-index))
