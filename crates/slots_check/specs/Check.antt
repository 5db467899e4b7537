-- 01, refusal 3: whether the words of one slot are those of a row over A, born from 1 to the header's. The tests of the code as one Bool,
-- that speaks of the words alone. Assumes nothing.
use Rattle.std.specs.Prelude.{Option, Some, None}
use Rattle.std.specs.Prelude.{Bool, true, false, ◌&&◌, List, [], ◌∷◌, ℕ, suc, ◌+◌, ◌-◌, ◌*◌, ◌^◌, min, eqb, ltb, leb, length, get_or, take, drop}
use Rattle.std.specs.Int.Bits.{bit_and, bit_or}
use Rattle.std.specs.Int.Count.{ones}
use Rattle.lists.specs.Lists.{same, zeroed}
use Rattle.words.specs.Bit.{word_bits}
use Rattle.words.specs.Literal.{atom}
use Rattle.words.specs.Codes.{climbs, runs}
use Rattle.model.specs.Records.{Entry, is_row, max_conditions, max_outputs}
use Rattle.model.specs.Records.{conditions_at, outputs_at, total_groups_at, condition_groups_at, born_at, delivered_at, body_at, body_words, source_at}
use Rattle.model.specs.Records.{group_length}
use Rattle.model.specs.Rows.{groups}
use Rattle.model.specs.Slots.{slot_of, entry_in}

-- ---- what is to be tested
unfoldable pub entry_over : ℕ → ℕ → Entry → Bool
entry_over atoms born e = is_row atoms e.row && (leb 1 e.born && leb e.born born)

unfoldable pub slot_ok : ℕ → ℕ → List ℕ → Bool
slot_ok atoms born ws = entry_over atoms born (entry_in ws) && same ws (slot_of (entry_in ws))

-- what ascends: the atom of a condition, the code of an output
abbrev pub key : Bool → ℕ → ℕ
key true c = atom c
key false c = c

-- ---- groups of three words: ascending, none empty, no bit of an atom at n or above, in conditions no atom in both signs

-- the bits of word x that belong to atoms below n
unfoldable pub bits_below : ℕ → ℕ → ℕ
bits_below n x = min word_bits (n - word_bits * x)

unfoldable pub group_ok : Bool → ℕ → ℕ → ℕ → ℕ → Bool
group_ok apart n x p a =
    (ltb 0 (bit_or p a) && ltb (bit_or p a) (2 ^ bits_below n x)) && (elim apart [ true ↦ eqb (bit_and p a) 0 | false ↦ true ])

unfoldable pub groups_ok : Bool → ℕ → ℕ → List ℕ → Bool
groups_ok apart n k [] = true
groups_ok apart n k (x ∷ []) = false
groups_ok apart n k (x ∷ p ∷ []) = false
groups_ok apart n k (x ∷ p ∷ a ∷ ws) = (leb k x && group_ok apart n x p a) && groups_ok apart n (suc x) ws

-- the codes that groups hold
unfoldable pub code_count : List ℕ → ℕ
code_count [] = 0
code_count (x ∷ []) = 0
code_count (x ∷ p ∷ []) = 0
code_count (x ∷ p ∷ a ∷ ws) = (ones p + ones a) + code_count ws

-- how many codes a side has, if its words are groups in order
unfoldable pub side_codes : Bool → ℕ → List ℕ → Option ℕ
side_codes apart n ws = elim (groups_ok apart n 0 ws) [ true ↦ Some (code_count ws) | false ↦ None ]

-- how many groups the codes of a side would be, if they are in order and their atoms are below n
unfoldable pub side_groups : ℕ → ℕ → List ℕ → Option ℕ
side_groups n bits cs = elim (climbs n bits cs) [ true ↦ Some (runs 7 cs) | false ↦ None ]

-- ---- one slot
abbrev pub all_zero : List ℕ → Bool
all_zero ws = same ws (zeroed ws)

unfoldable pub head_ok : ℕ → List ℕ → Bool
head_ok born ws =
    (leb (get_or ws conditions_at 0) max_conditions && leb (get_or ws outputs_at 0) max_outputs)
    && ((leb 1 (get_or ws born_at 0) && leb (get_or ws born_at 0) born) && (leb (get_or ws delivered_at 0) 1 && leb (get_or ws source_at 0) 1))

-- the words of the body
abbrev pub body_in : List ℕ → List ℕ
body_in ws = take body_words (drop body_at ws)

unfoldable pub scalar_ok : ℕ → List ℕ → Bool
scalar_ok n ws =
    let nc : ℕ = get_or ws conditions_at 0 in
    let no : ℕ = get_or ws outputs_at 0 in
    let cs : List ℕ = take nc (drop body_at ws) in
    let os : List ℕ = take no (drop nc (drop body_at ws)) in
    eqb (get_or ws condition_groups_at 0) 0
    && ((climbs n 1 cs && climbs n 0 os)
    && (leb (2 * (nc + no)) (3 * (length (groups cs) + length (groups os))) && all_zero (drop (nc + no) (body_in ws))))

unfoldable pub packed_ok : ℕ → List ℕ → Bool
packed_ok n ws =
    let nc : ℕ = get_or ws conditions_at 0 in
    let no : ℕ = get_or ws outputs_at 0 in
    let w : ℕ = get_or ws total_groups_at 0 in
    let g : ℕ = get_or ws condition_groups_at 0 in
    let cs : List ℕ = take (group_length * g) (drop body_at ws) in
    let os : List ℕ = take (group_length * (w - g)) (drop (group_length * g) (drop body_at ws)) in
    (leb g w && ltb (3 * w) (2 * (nc + no)))
    && ((groups_ok true n 0 cs && groups_ok false n 0 os)
    && ((eqb (code_count cs) nc && eqb (code_count os) no) && all_zero (drop (group_length * w) (body_in ws))))

unfoldable pub words_pass : ℕ → ℕ → List ℕ → Bool
words_pass n born ws =
    head_ok born ws && (elim (eqb (get_or ws total_groups_at 0) 0) [ true ↦ scalar_ok n ws | false ↦ packed_ok n ws ])
