-- 01, module 4: "one a literal or group looked at". The literals of one side of a slot by what is looked at at once. Assumes nothing.
use Rattle.std.specs.Prelude.{◌≡◌, true, false, List, [], ◌∷◌, ℕ, zero, suc, ◌+◌, ◌*◌, ◌≤◌, ◌<◌, T, length, get_or}
use Rattle.std.specs.Int.Bits.{bit_and, bit_or}
use Rattle.words.specs.Literal.{code_bits, codes_wide, words_wide}
use Rattle.words.specs.Region.{region, is_region}
use Rattle.model.specs.Records.{group_length}
use Rattle.model.specs.Slots.{codes_of}
use Rattle.slots.specs.declared.Side.{Side}
use Rattle.slots.specs.Layout.{Holds}
use Rattle.row_deduce.specs.declared.Group.{Group}

-- group g of a packed side, code g of a scalar one
unfoldable pub chunk_at : List ℕ → Side → ℕ → List ℕ
chunk_at ws s g =
    elim s.packed [
      | true ↦ codes_of (get_or ws (s.base + group_length * g) 0) (get_or ws (s.base + group_length * g + 1) 0)
          (get_or ws (s.base + group_length * g + 2) 0)
      | false ↦ get_or ws (s.base + g) 0 ∷ []
    ]

-- the words of group g
abbrev pub group_at : List ℕ → Side → ℕ → Group
group_at ws s g = record {
  index = get_or ws (s.base + group_length * g) 0;
  present = get_or ws (s.base + group_length * g + 1) 0;
  absent = get_or ws (s.base + group_length * g + 2) 0;
}

-- n of them from g on
unfoldable pub chunks_from : List ℕ → Side → ℕ → ℕ → List (List ℕ)
chunks_from ws s zero g = []
chunks_from ws s (suc n) g = chunk_at ws s g ∷ chunks_from ws s n (suc g)

abbrev pub chunks_of : List ℕ → Side → List (List ℕ)
chunks_of ws s = chunks_from ws s s.count 0

-- a packed side lies within its slot, and each of its groups within the words of a region
pub record Readable (ws : List ℕ) (s : Side) (held cut : List ℕ) : Type 0 where
  pub packed : s.packed ≡ true
  pub whole : s.base + group_length * s.count ≤ length ws
  pub index : (g : ℕ) → g < s.count → get_or ws (s.base + group_length * g) 0 < length held
  pub few : length held ≤ words_wide code_bits
  pub same : length cut ≡ length held

-- a group lies within the words of a region
pub record Inside (k : Group) (held cut : List ℕ) : Type 0 where
  pub index : k.index < length held
  pub few : length held ≤ words_wide code_bits
  pub same : length cut ≡ length held

-- a side that is walked over in the form that it has
pub record Walkable (ws : List ℕ) (s : Side) (held cut : List ℕ) : Type 0 where
  pub groups : s.packed ≡ true → Readable ws s held cut
  pub codes : s.packed ≡ false → s.base + s.count ≤ length ws

-- no atom of a packed side has both signs
abbrev pub OneSigned : List ℕ → Side → Type 0
OneSigned ws s = (g : ℕ) → g < s.count
    → bit_and (get_or ws (s.base + group_length * g + 1) 0) (get_or ws (s.base + group_length * g + 2) 0) ≡ 0

-- and its outputs may be published: each group has some bit, and the region no common one
pub record Publishable (ws : List ℕ) (s : Side) (held cut : List ℕ) : Type 0 where
  pub readable : Readable ws s held cut
  pub some : (g : ℕ) → g < s.count → 0 < bit_or (get_or ws (s.base + group_length * g + 2) 0) (get_or ws (s.base + group_length * g + 1) 0)
  pub apart : (x : ℕ) → bit_and (get_or held x 0) (get_or cut x 0) ≡ 0

-- the codes of a scalar side are literals
abbrev pub SmallCodes : List ℕ → Side → Type 0
SmallCodes ws s = (g : ℕ) → g < s.count → get_or ws (s.base + g) 0 < codes_wide code_bits

-- what a row is matched with: a slot that holds it, and words that are a region over as many atoms
pub record Matched (slot held cut : List ℕ) : Type 0 where
  pub holds : Holds slot
  pub region : T (is_region holds.atoms (region held cut))
