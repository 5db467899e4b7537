-- The rows in slots that stand one behind the other, by position and from a position on. Assumes nothing.
use mathlib.Core.Path.{◌≡◌, refl, ap, ◌∙◌}
use mathlib.Core.Bool.{false}
use mathlib.Core.List.{List, [], ◌∷◌}
use Prim.Native.Nat.{ℕ, zero, suc, ◌+◌, ◌-◌, ◌*◌, ◌≤◌, ◌<◌}
use native.Mathlib.Omega.{arith}
use lib.ListN.{length, get_or, take, drop, length-map, get_or-map}
use lib.Seq.{drop-drop}
use Rattle.model.specs.declared.Source.TheVariants.{Founded}
use Rattle.model.specs.Records.{Row, Entry, slot_words}
use Rattle.model.specs.Slots.{row_in, entry_in, entries_in}
use Rattle.model.proofs.Slots.{entries-length}
use Rattle.slots.specs.Layout.{slot_at, rows_in}

-- as code cuts a slot out
pub slot-code : (ws : List ℕ) (p : ℕ) → take (slot_words * p + slot_words - slot_words * p) (drop (slot_words * p) ws) ≡ slot_at ws p
slot-code ws p =
    let e : slot_words * p + slot_words - slot_words * p ≡ slot_words = omega arith in
    ap (λ (n : ℕ). take n (drop (slot_words * p) ws)) e

pub rows-length : (n : ℕ) (ws : List ℕ) → length (rows_in n ws) ≡ n
unfolding rows_in
rows-length n ws = length-map (entries_in n ws) (λ e. e.row) ∙ entries-length n ws

rows-cons : (n : ℕ) (ws : List ℕ) → rows_in (suc n) ws ≡ row_in (take slot_words ws) ∷ rows_in n (drop slot_words ws)
unfolding rows_in entries_in entry_in
rows-cons n ws = refl

-- the rows from position p on
unfoldable pub rows_from : ℕ → List ℕ → ℕ → List Row
rows_from n ws p = rows_in (n - p) (drop (slot_words * p) ws)

pub rows_all : (n : ℕ) (ws : List ℕ) → rows_from n ws 0 ≡ rows_in n ws
unfolding rows_from
rows_all n ws = let e : n - 0 ≡ n = omega arith in ap (λ (k : ℕ). rows_in k ws) e

pub rows_next : (n : ℕ) (ws : List ℕ) (p : ℕ) → p < n → rows_from n ws p ≡ row_in (slot_at ws p) ∷ rows_from n ws (p + 1)
unfolding rows_from
rows_next n ws p l =
    let e : n - p ≡ suc (n - (p + 1)) = omega arith in
    let s : slot_words * p + slot_words ≡ slot_words * (p + 1) = omega arith in
    ap (λ (k : ℕ). rows_in k (drop (slot_words * p) ws)) e ∙ rows-cons (n - (p + 1)) (drop (slot_words * p) ws)
    ∙ ap (λ (l : List ℕ). row_in (slot_at ws p) ∷ rows_in (n - (p + 1)) l)
    (drop-drop slot_words (slot_words * p) ws ∙ ap (λ (k : ℕ). drop k ws) s)

pub rows_none : (n : ℕ) (ws : List ℕ) (p : ℕ) → n ≤ p → rows_from n ws p ≡ []
unfolding rows_from rows_in entries_in
rows_none n ws p h = let e : n - p ≡ 0 = omega arith in ap (λ (k : ℕ). rows_in k (drop (slot_words * p) ws)) e

pub entries_at : (n : ℕ) (ws : List ℕ) (p : ℕ) (d : Entry) → p < n → get_or (entries_in n ws) p d ≡ entry_in (slot_at ws p)
unfolding entries_in
entries_at zero ws p d l = absurd (omega arith)
entries_at (suc n) ws zero d l = refl
entries_at (suc n) ws (suc p) d l =
    let s : slot_words + slot_words * p ≡ slot_words * suc p = omega arith in
    entries_at n (drop slot_words ws) p d (omega arith)
    ∙ ap (λ (l : List ℕ). entry_in (take slot_words l)) (drop-drop (slot_words * p) slot_words ws ∙ ap (λ (k : ℕ). drop k ws) s)

pub row-at : (n : ℕ) (ws : List ℕ) (p : ℕ) (d : Entry) → p < n → (get_or (entries_in n ws) p d).row ≡ row_in (slot_at ws p)
unfolding entry_in
row-at n ws p d l = ap (λ (x : Entry). x.row) (entries_at n ws p d l)

pub rows_at : (n : ℕ) (ws : List ℕ) (p : ℕ) (d : Row) → p < n → get_or (rows_in n ws) p d ≡ row_in (slot_at ws p)
unfolding rows_in
rows_at n ws p d l =
    let e : Entry = record { row = d; hits = 0; unshared = 0; born = 0; delivered = false; source = Founded } in
    get_or-map (λ (x : Entry). x.row) (entries_in n ws) p e ∙ row-at n ws p e l
