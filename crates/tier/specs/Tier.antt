-- The slots of a tier as one buffer, and its changes word by word. Assumes nothing.
use Rattle.std.specs.Prelude.{Bool, true, false, ◌&&◌, ◌||◌, not, List, [], ◌∷◌, ◌++◌, ℕ, zero, suc, ◌+◌, ◌*◌}
use Rattle.std.specs.Prelude.{eqb, ltb, get_or, set, take, drop, Option, Some, None}
use Rattle.std.proofs.Math.Option as maybe
use Rattle.meter.specs.Meter.{pick}
use Rattle.model.specs.Records.{Entry, slot_words, saturating_add, hits_at, unshared_at, born_at, delivered_at, source_at}

-- word k of the slot at position p
abbrev pub word_at : ℕ → ℕ → ℕ
word_at p k = slot_words * p + k

-- the hits, and the hits not shared yet, each one more
unfoldable pub hit_words : ℕ → List ℕ → List ℕ
hit_words p ws =
    set (set ws (word_at p hits_at) (saturating_add (get_or ws (word_at p hits_at) 0) 1)) (word_at p unshared_at)
    (saturating_add (get_or ws (word_at p unshared_at) 0) 1)

-- so many hits more
unfoldable pub hits_added : ℕ → ℕ → List ℕ → List ℕ
hits_added p n ws = set ws (word_at p hits_at) (saturating_add (get_or ws (word_at p hits_at) 0) n)

-- marked delivered, with nothing unshared, or with what was
unfoldable pub marked_delivered : ℕ → List ℕ → List ℕ
marked_delivered p ws = set ws (word_at p delivered_at) 1

unfoldable pub shared_out : ℕ → List ℕ → List ℕ
shared_out p ws = set (set ws (word_at p unshared_at) 0) (word_at p delivered_at) 1

-- the entries whose position is not marked, from position i on
unfoldable pub kept_by : (ℕ → Bool) → ℕ → List Entry → List Entry
kept_by f i [] = []
kept_by f i (e ∷ es) = elim (f i) [ true ↦ kept_by f (suc i) es | false ↦ e ∷ kept_by f (suc i) es ]

-- the slot at one position copied to another
unfoldable pub moved : ℕ → ℕ → List ℕ → List ℕ
moved from to ws =
    take (slot_words * to) ws ++ (take slot_words (drop (slot_words * from) ws) ++ drop (slot_words * to + slot_words) ws)

-- a marked slot stays where it is, and its place is free
abbrev pub kept_words : Bool → ℕ → ℕ → List ℕ → List ℕ
kept_words true from to ws = ws
kept_words false from to ws = moved from to ws

abbrev pub kept_place : Bool → ℕ → ℕ
kept_place true to = to
kept_place false to = to + 1

-- the entries up to `first`, and of the later ones those that are not marked
unfoldable pub closed_up : (ℕ → Bool) → ℕ → List Entry → List Entry
closed_up f first es = take (first + 1) es ++ kept_by f (first + 1) (drop (first + 1) es)

-- n slots from position i on, those not marked moved down to position `to` and on: the words, and the position after the last
unfoldable pub moved_down : (ℕ → Bool) → ℕ → ℕ → ℕ → List ℕ → List ℕ × ℕ
moved_down f zero i to ws = (ws, to)
moved_down f (suc n) i to ws =
    elim (f i) [ true ↦ moved_down f n (suc i) to ws | false ↦ moved_down f n (suc i) (suc to) (moved i to ws) ]

-- of two positions the one with the less (hits, born), the first where they are equal
unfoldable pub lesser_of : List ℕ → ℕ → ℕ → ℕ
lesser_of ws at i =
    pick
    (ltb (get_or ws (word_at i hits_at) 0) (get_or ws (word_at at hits_at) 0)
    || (eqb (get_or ws (word_at i hits_at) 0) (get_or ws (word_at at hits_at) 0)
    && ltb (get_or ws (word_at i born_at) 0) (get_or ws (word_at at born_at) 0)))
    i at

-- the row at a position may be evicted
unfoldable pub may_go : List ℕ → ℕ → Bool → Bool
may_go ws p guarded = not guarded || eqb (get_or ws (word_at p source_at) 0) 1

-- the lesser of the least so far, if there is one, and position i
abbrev pub lesser_after : List ℕ → Option ℕ → ℕ → ℕ
lesser_after ws None i = i
lesser_after ws (Some at) i = lesser_of ws at i

-- of the least so far and position i, if its row may be evicted
unfoldable pub least_by : List ℕ → Option ℕ → ℕ → Bool → Option ℕ
least_by ws least i guarded = pick (may_go ws i guarded) (Some (lesser_after ws least i)) least

-- the code's answer to `victim_among`
abbrev pub victim_at : Option ℕ → maybe.Option ℕ
victim_at None = maybe.none
victim_at (Some at) = maybe.some at
