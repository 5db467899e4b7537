-- What follows for the words of an accepted ledger: its rows may be posted, and its postings have their length. Assumes nothing.
use mathlib.Core.Path.{◌≡◌, sym, ap, ap₂, ◌∙◌}
use mathlib.Core.Bool.{Bool, false}
use mathlib.Core.List.{List, ◌∷◌, map}
use Prim.Native.Nat.{ℕ, ◌+◌, ◌-◌, ◌*◌, ◌%◌, ◌≤◌, ◌<◌}
use native.Mathlib.Omega.{arith}
use lib.ListN.{length, get_or, take, get_or-eq_default}
use Rattle.lists.specs.Lists.{sort_of, pad}
use Rattle.lists.specs.Counts.{times, Each}
use Rattle.lists.proofs.Sorts.{sort_sorted, sort-perm, sort-each, length-sort}
use Rattle.lists.proofs.Pads.{get_or-pad, take-pad}
use Rattle.words.specs.Literal.{atom}
use Rattle.words.specs.Literal.{code_bits, atoms_wide}
use Rattle.model.specs.declared.Header.{Header}
use Rattle.model.specs.Records.{Row, max_rows, posting_words}
use Rattle.model.specs.Slots.{row_in}
use Rattle.model.specs.Postings.{postings_of, filed}
use Rattle.slots.specs.Cursor.{list_of}
use Rattle.slots.specs.Layout.{condition_side, output_side, slot_at, rows_in}
use Rattle.slots.proofs.Storing.{laid-stored}
use Rattle.postings.specs.Filling.{RowsPostable}
use Rattle.postings.specs.Searching.{zero_first, Searchable}
use Rattle.slots.specs.Standing.{Stands}
use Rattle.postings.proofs.Posting.{AllFit, postings-short, postings-low, postings-placed, zeros_of}
use Rattle.postings.proofs.Zeros.{zeros-first}
use Rattle.slots.proofs.Rows.{rows_from, rows-length}
use Rattle.slots.proofs.Holding.{stands-few}
use Rattle.postings.proofs.Rows.{rows-first, all-rows}
use Rattle.postings.proofs.Filing.{filed-all, filed-length}

-- the rows of a ledger, and their postings
abbrev rows : Header → List ℕ → List Row
rows h slots = rows_in h.rows slots

abbrev posts : Header → List ℕ → List ℕ
posts h slots = postings_of (rows_in h.rows slots)

module _ {h : Header} {slots postings : List ℕ} where
  pub rows-room : (n : ℕ) → Stands h slots postings → posting_words * h.limits.tier_rows ≤ n → RowsPostable h.rows slots n
  rows-room n s l =
      record {
        held = record { atoms = h.limits.atoms; over = s.held.over };
        room = omega (arith, stands-few s);
      }

  fit : Stands h slots postings → AllFit h.limits.atoms (rows h slots)
  unfolding rows-room
  fit s = all-rows (rows-room (posting_words * h.limits.tier_rows) s (omega arith))

  pub here-short : Stands h slots postings → length (postings_of (rows_in h.rows slots)) ≤ posting_words * h.limits.tier_rows
  here-short s = omega (arith, postings-short h.limits.atoms (rows h slots) (fit s), rows-length h.rows slots, stands-few s)

  pub here-low : Stands h slots postings → Each (λ x. x < h.limits.atoms * max_rows) (postings_of (rows_in h.rows slots))
  here-low s = postings-low h.limits.atoms (rows h slots) (fit s) (omega (arith, rows-length h.rows slots, s.held.over.few))

  here-placed : Stands h slots postings → Each (λ x. x % max_rows < h.rows) (posts h slots)
  here-placed s =
      rw (rows-length h.rows slots) at
      (postings-placed h.limits.atoms (rows h slots) (fit s) (omega (arith, rows-length h.rows slots, s.held.over.few)))

  pub postings-long : Stands h slots postings → length postings ≡ posting_words * h.limits.tier_rows
  postings-long s = ap length s.filing ∙ filed-length h.limits.tier_rows h.stale (rows h slots) (here-short s)

  -- ---- how many postings there are
  -- those that are 0, read off the first slot
  pub here-zeros : Stands h slots postings → 0 < h.rows →
      zero_first (map atom (list_of (slot_at slots 0) (condition_side (slot_at slots 0))))
      + zero_first (map atom (list_of (slot_at slots 0) (output_side (slot_at slots 0))))
      ≡ times 0 (postings_of (rows_in h.rows slots))
  here-zeros s l =
      let w = slot_at slots 0 in
      let laid = laid-stored h.limits.atoms w (s.held.over.stored 0 l) in
      let later = rows_from h.rows slots 1 in
      let e : rows h slots ≡ row_in w ∷ later = rows-first h.rows slots l in
      ap₂ (λ (x y : List ℕ). zero_first (map atom x) + zero_first (map atom y)) laid.conditions laid.outputs
      ∙ sym (ap (λ (x : List Row). times 0 (postings_of x)) e ∙ zeros_of h.limits.atoms (row_in w) later (rw e at (fit s)))

  postings-are : Stands h slots postings → h.stale ≡ false
      → postings ≡ pad (posting_words * h.limits.tier_rows) (sort_of (posts h slots))
  postings-are s e =
      s.filing ∙ ap (λ (b : Bool). filed h.limits.tier_rows b (rows h slots)) e ∙ filed-all h.limits.tier_rows (rows h slots)

  at-sorted : Stands h slots postings → h.stale ≡ false → (i : ℕ) → get_or postings i 0 ≡ get_or (sort_of (posts h slots)) i 0
  at-sorted s e i =
      ap (λ (x : List ℕ). get_or x i 0) (postings-are s e) ∙ get_or-pad (posting_words * h.limits.tier_rows) (sort_of (posts h slots)) i

  -- after those that are 0, the words are not 0 up to the end of the postings, and 0 from there on
  pub posted-some : Stands h slots postings → h.stale ≡ false → (i : ℕ) → times 0 (postings_of (rows_in h.rows slots)) ≤ i →
      i < length (postings_of (rows_in h.rows slots)) → 0 < get_or postings i 0
  posted-some s e i z l =
      let k : times 0 (sort_of (posts h slots)) ≤ i = omega (arith, sort-perm (posts h slots) 0) in
      omega (
        arith,
        at-sorted s e i,
        zeros-first (sort_of (posts h slots)) i (sort_sorted (posts h slots)) k (omega (arith, length-sort (posts h slots))),
      )

  pub posted-none : Stands h slots postings → h.stale ≡ false → (i : ℕ) → length (postings_of (rows_in h.rows slots)) ≤ i
      → get_or postings i 0 ≡ 0
  posted-none s e i l =
      at-sorted s e i ∙ get_or-eq_default (sort_of (posts h slots)) 0 {n = i} (omega (arith, length-sort (posts h slots)))

  -- ---- the postings that a search gets
  pub here-searchable : Stands h slots postings → (n : ℕ) → h.rows ≤ n → Searchable n (sort_of (postings_of (rows_in h.rows slots)))
  here-searchable s n l =
      record {
        sorted = sort_sorted (posts h slots);
        low = sort-each (λ x. x < atoms_wide code_bits * max_rows) (posts h slots)
            (λ x k. omega (arith, s.held.over.atoms, here-low s x k));
        placed = sort-each (λ x. x % max_rows < n) (posts h slots) (λ x k. omega (arith, here-placed s x k));
      }

-- as the code cuts them out
pub part-code : (tier : ℕ) (rs : List Row) (b : List ℕ) (k : ℕ) → k ≡ length (postings_of rs) → b ≡ filed tier false rs →
    take (k - 0) b ≡ sort_of (postings_of rs)
part-code tier rs b k c f =
    let n : k - 0 ≡ length (sort_of (postings_of rs)) = omega (arith, length-sort (postings_of rs)) in
    ap₂ (λ (i : ℕ) (w : List ℕ). take i w) n (f ∙ filed-all tier rs) ∙ take-pad (posting_words * tier) (sort_of (postings_of rs))
