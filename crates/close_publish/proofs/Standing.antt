-- What a closing knows of its words: the slot of a row, and what a hit or a decision keeps. Assumes nothing.
use mathlib.Core.Path.{◌≡◌, refl, sym, ap, ◌∙◌, subst}
use mathlib.Core.Logic.{◌⊎◌, inl, inr}
use mathlib.Core.Bool.{Bool, true, false}
use mathlib.Core.List.{List, [], map}
use Prim.Native.Nat.{ℕ, ◌+◌, ◌-◌, ◌*◌, ◌≤◌, ◌<◌}
use native.Mathlib.Omega.{arith}
use lib.Dec.{T}
use lib.ListN.{length, take, drop}
use Rattle.lists.specs.Lists.{adjust}
use Rattle.lists.proofs.Selects.{length-adjust, map-adjust}
use Rattle.words.specs.Literal.{code_bits}
use Rattle.words.specs.Region.{region, is_region}
use Rattle.model.specs.declared.Header.{Header}
use Rattle.model.specs.Records.{Row, Entry, is_row, rows_of, row_at, hit_entry, slot_words}
use Rattle.model.specs.Slots.{entries_in, row_in}
use Rattle.model.proofs.Slots.{entries-length}
use Rattle.model.proofs.Entries.{hit-row}
use Rattle.slots.specs.Layout.{Stored, slot_at, rows_in, tier_of, Held}
use Rattle.slots.proofs.Holding.{AllRows, entries-laid, held-laid, held-few, held_rows}
use Rattle.tier.specs.Tier.{hit_words}
use Rattle.tier.proofs.Buffer.{all-adjust, hit-length, hit-held}
use Rattle.slots.proofs.Rows.{rows_at, slot-code}
use Rattle.close_publish.specs.Turns.{ledger_of}
use Rattle.close_publish.specs.Standing.{Standing}

-- the slots after a reading: with a hit if one was earned
abbrev pub Hits : Bool → ℕ → List ℕ → List ℕ → Type 0
Hits b p slots slots' = ((b ≡ true) × (slots' ≡ hit_words p slots)) ⊎ ((b ≡ false) × (slots' ≡ slots))

pub hits-length : (b : Bool) (p : ℕ) (slots slots' : List ℕ) → Hits b p slots slots' → length slots' ≡ length slots
hits-length b p slots slots' (inl w) = ap length w.1 ∙ hit-length p slots
hits-length b p slots slots' (inr w) = ap length w.1

-- the row of a ledger is that of its slot
pub row_is : (h : Header) (rows : ℕ) (slots : List ℕ) (p : ℕ) → p < rows → row_at p (ledger_of h rows slots) ≡ row_in (slot_at slots p)
unfolding row_at rows_of rows_in
row_is h rows slots p l = rows_at rows slots p (record { conditions = []; outputs = [] }) l

-- ---- a hit
module _ {n : ℕ} (rows p : ℕ) (ws : List ℕ) (k : Held n rows ws) (l : p < rows) where
  abbrev es : List Entry
  es = entries_in rows ws

  abbrev hits : List Entry
  hits = adjust hit_entry p es

  hits-count : rows ≡ length hits
  hits-count = sym (length-adjust hit_entry p es ∙ entries-length rows ws)

  hits_few : length hits ≤ tier_of ws
  hits_few = let f = held-few rows ws k in let c = hits-count in omega arith

  hits-rows : AllRows n hits
  hits-rows = all-adjust (λ e. is_row n e.row) hit_entry p es (λ e. ap (is_row n) (hit-row e)) ∙ held_rows rows ws k

  pub hit-entries : entries_in rows (hit_words p ws) ≡ hits
  hit-entries = ap (entries_in rows) (hit-held rows p ws k l) ∙ entries-laid n (tier_of ws) hits hits-rows hits_few rows hits-count

  pub hit-holds : Held n rows (hit_words p ws)
  hit-holds =
      subst (Held n rows) (sym (hit-held rows p ws k l))
      (held-laid n (tier_of ws) hits hits-rows hits_few rows hits-count code_bits k.over.atoms k.most)

  pub hit-rows : rows_in rows (hit_words p ws) ≡ rows_in rows ws
  unfolding rows_in
  hit-rows = ap (map (λ e. e.row)) hit-entries ∙ map-adjust hit_entry (λ e. e.row) p es hit-row

pub standing : (n rows : ℕ) (slots held cut : List ℕ) → Held n rows slots → T (is_region n (region held cut))
    → Standing n rows (rows_in rows slots) slots held cut
standing n rows slots held cut h t = record { holds = h; same = refl; region = t }

module _ (n rows : ℕ) (rs : List Row) (slots held cut : List ℕ) (s : Standing n rows rs slots held cut) where
  pub slot-fits : (p : ℕ) → p < rows → slot_words * p + slot_words ≤ length slots
  slot-fits p l = let f = s.holds.over.long in omega arith

  -- the slot that the code lends
  pub stored-part : (p : ℕ) → p < rows → Stored n (take ((slot_words * p + slot_words) - slot_words * p) (drop (slot_words * p) slots))
  stored-part p l = subst (Stored n) (sym (slot-code slots p)) (s.holds.over.stored p l)

  hit-stands : (p : ℕ) → p < rows → (slots' : List ℕ) → slots' ≡ hit_words p slots → Standing n rows rs slots' held cut
  hit-stands p l slots' e =
      subst (λ (ws : List ℕ). Standing n rows rs ws held cut) (sym e)
      (record { holds = hit-holds rows p slots s.holds l; same = hit-rows rows p slots s.holds l ∙ s.same; region = s.region })

  -- with the hit that was earned, or without
  pub hits-stand : (b : Bool) (p : ℕ) → p < rows → (slots' : List ℕ) → Hits b p slots slots' → Standing n rows rs slots' held cut
  hits-stand b p l slots' (inl w) = hit-stands p l slots' w.1
  hits-stand b p l slots' (inr w) = subst (λ (ws : List ℕ). Standing n rows rs ws held cut) (sym w.1) s

  pub decided-stands : (held' cut' : List ℕ) → T (is_region n (region held' cut')) → Standing n rows rs slots held' cut'
  decided-stands held' cut' t = record { holds = s.holds; same = s.same; region = t }
