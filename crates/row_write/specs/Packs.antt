-- 01, Slot: "the groups (atom/64, present bits, absent bits)". The groups of a list, written from the last code to the first.
-- Assumes nothing.
use Rattle.std.specs.Prelude.{true, false, List, ℕ, ◌+◌, ◌^◌, eqb, ltb, length, get_or, set}
use Rattle.std.specs.Int.Bits.{bit_or}
use Rattle.words.specs.Literal.{atom, is_present, word_of, bit_of}

-- 0 if a code of word x joins the group at position at, 1 if it begins a group: at the end, or where the group is of another word
unfoldable pub begun : List ℕ → ℕ → ℕ → ℕ
begun ws at x =
    elim (ltb at (length ws)) [ true ↦ elim (eqb x (get_or ws at 0)) [ true ↦ 0 | false ↦ 1 ] | false ↦ 1 ]

-- where the bits of a code's sign stand in the group at position at
unfoldable pub mask_at : ℕ → ℕ → ℕ
mask_at at c = elim (is_present c) [ true ↦ at + 1 | false ↦ at + 2 ]

-- one code more in the group at position at
unfoldable pub entered : List ℕ → ℕ → ℕ → List ℕ
entered ws at c =
    let indexed : List ℕ = set ws at (word_of (atom c)) in
    set indexed (mask_at at c) (bit_or (2 ^ bit_of (atom c)) (get_or indexed (mask_at at c) 0))
