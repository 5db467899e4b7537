-- 01, Slot: "the codes, one a word, or the groups (atom/64, present bits, absent bits)".
-- What a cursor over one side of a slot has still to give. Assumes nothing.
use Rattle.std.specs.Prelude.{◌≡◌, refl, Option, Some, None, Bool, true, false, List, [], ◌∷◌, ◌++◌}
use Rattle.std.specs.Prelude.{ℕ, ◌+◌, ◌-◌, ◌*◌, ◌≤◌, ◌<◌, length, get_or, take, drop}
use Rattle.std.proofs.Common.{ap₂, add-zero}
use Rattle.std.proofs.Math.Nat.{sub-zero}
use Rattle.std.specs.Int.Bits.{bit_or}
use Rattle.lists.specs.Lists.{select, range}
use Rattle.words.specs.Bit.{test_bit}
use Rattle.words.specs.Literal.{code_bits, words_wide, atom, is_present, bit_of}
use Rattle.model.specs.Records.{group_length}
use Rattle.model.specs.Slots.{codes_of, ungroup}
use Rattle.slots.specs.declared.Side.{Side}
use Rattle.slots.specs.declared.Cursor.{Cursor}

-- the literals of n codes, or of n groups, from word `at` on
unfoldable pub literals_at : Bool → List ℕ → ℕ → ℕ → List ℕ
literals_at false ws at n = take n (drop at ws)
literals_at true ws at n = ungroup (take (group_length * n) (drop at ws))

-- the word where code or group i of a side begins
abbrev pub word_at : Bool → ℕ → ℕ → ℕ
word_at false base i = base + i
word_at true base i = base + group_length * i

-- the literals of a side
unfoldable pub list_of : List ℕ → Side → List ℕ
list_of ws s = literals_at s.packed ws s.base s.count

-- what is left of the group that was begun last
abbrev pub pend : Cursor → List ℕ
pend c = codes_of c.word c.present c.absent

-- what a cursor has still to give
unfoldable pub rest : List ℕ → Side → Cursor → List ℕ
rest ws s c = pend c ++ literals_at s.packed ws (word_at s.packed s.base c.next) (s.count - c.next)

abbrev pub begin : Cursor
begin = record { next = 0; word = 0; present = 0; absent = 0 }

-- what a step gave, a literal with the cursor past it, and what it leaves
abbrev pub given : List ℕ → Side → Option (ℕ × Cursor) → List ℕ
given ws s (Some (k, c)) = k ∷ rest ws s c
given ws s None = []

-- the side lies within the slot, and each group has the index of a word of atoms with codes of w bits, and some bit
pub record SoundWide (w : ℕ) (ws : List ℕ) (s : Side) : Type 0 where
  pub single : s.packed ≡ false → s.base + s.count ≤ length ws
  pub whole : s.packed ≡ true → s.base + group_length * s.count ≤ length ws
  pub small : s.packed ≡ true → (g : ℕ) → g < s.count → get_or ws (s.base + group_length * g) 0 < words_wide w
  pub some : s.packed ≡ true → (g : ℕ) → g < s.count
      → 0 < bit_or (get_or ws (s.base + group_length * g + 2) 0) (get_or ws (s.base + group_length * g + 1) 0)

abbrev pub Sound : List ℕ → Side → Type 0
Sound ws s = SoundWide code_bits ws s

abbrev pub Placed : Side → Cursor → Type 0
Placed s c = (c.next ≤ s.count) × (c.word < words_wide code_bits)

abbrev pub PlacedStep : Side → Option (ℕ × Cursor) → Type 0
PlacedStep s (Some (k, c)) = Placed s c
PlacedStep s None = Unit {0}

-- the first literal of a group that was begun
abbrev pub TakenFrom : Cursor → ℕ × Cursor → Type 0
TakenFrom c (k, d) = (d.next ≡ c.next) × (d.word ≡ c.word) × (pend c ≡ k ∷ pend d)

-- ---- at the start all is left
place-zero : (p : Bool) (b : ℕ) → word_at p b 0 ≡ b
place-zero false b = add-zero b
place-zero true b = add-zero b

none-begun : codes_of 0 0 0 ≡ []
unfolding codes_of select range test_bit atom is_present bit_of
none-begun = refl

pub rest-start : (ws : List ℕ) (s : Side) → rest ws s begin ≡ list_of ws s
unfolding rest list_of
rest-start ws s =
    ap₂ (λ (l r : List ℕ). l ++ r) none-begun
    (ap₂ (λ (at n : ℕ). literals_at s.packed ws at n) (place-zero s.packed s.base) (sub-zero s.count))
