-- Cursors over the outputs of a stored row: its next output by its slot, which cursors stand in it, refusal 8. Assumes nothing.
use mathlib.Core.Path.{◌≡◌, refl, sym, ap, ap₂, ◌∙◌, subst}
use mathlib.Core.Bool.{Bool, true, false, ◌&&◌, false≢true}
use mathlib.Core.List.{List, [], ◌∷◌}
use Prim.Native.Nat.{ℕ, zero, suc, ◌+◌, ◌-◌, ◌*◌, ◌≤◌, ◌<◌, zero-le}
use native.Mathlib.Nat.{sub-zero, add-zero, zero-add, add-suc, suc-add}
use native.Mathlib.Decide.{ℕ_discrete, dec_lt}
use native.Mathlib.Omega.{arith}
use lib.Dec.{T, eqb, leb}
use lib.ListN.{length, get_or, drop, length-drop}
use borrow.Author.Tests.{eq-eqb, ne_eqb, eqb-true, le-leb, lt-leb}
use Rattle.lists.proofs.Bools.{and_both}
use Rattle.words.specs.Literal.{code_bits, atoms_wide, words_wide}
use Rattle.words.specs.Region.{Region, region}
use Rattle.words.proofs.Widths.{words-for-le}
use Rattle.words.proofs.Regions.{sound-of, sound-word}
use Rattle.meter.specs.declared.Meter.{Meter}
use Rattle.meter.specs.Tick.{Tick, Ticked, Stopped}
use Rattle.meter.specs.Meter.{tick_of}
use Rattle.model.specs.declared.OutputCursor.{OutputCursor}
use Rattle.model.specs.Records.{Row, is_row, group_length}
use Rattle.model.specs.Rows.{groups, packed}
use Rattle.model.specs.Slots.{row_in, index_of}
use Rattle.model.specs.Deduction.{Published, published, stopped, end, pending, loaded, give, given_out, packed_next, scalar_next}
use Rattle.model.specs.Deduction.{next_output, start_cursor, chunks}
use Rattle.model.specs.Operations.{bits_among, unloaded, of_group, cursor_ok}
use Rattle.model.proofs.Packing.{Under}
use Rattle.slots.specs.declared.Side.{Side}
use Rattle.slots.specs.Layout.{output_side, Stored}
use Rattle.slots.proofs.Groups.{Each, each_at, Headed, groups-headed, headed-index}
use Rattle.slots.proofs.Storing.{Singles, singles, laid-stored, form-stored, grouped-stored, row_under}
use Rattle.row_deduce.specs.Chunks.{chunks_from, group_at, Publishable, SmallCodes, Matched}
use Rattle.row_deduce.specs.Publication.{single_given, single_next, of_words, Pointed}
use Rattle.row_deduce.proofs.Stored.{output-chunks, outputs-readable}

-- ---- the groups from the cursor on
drop-chunks : (ws : List ℕ) (s : Side) (i n g : ℕ) → i ≤ n → chunks_from ws s (n - i) (g + i) ≡ drop i (chunks_from ws s n g)
unfolding chunks_from
drop-chunks ws s zero n g h = ap₂ (λ (a b : ℕ). chunks_from ws s a b) (sub-zero n) (add-zero g)
drop-chunks ws s (suc i) zero g h = absurd (omega arith)
drop-chunks ws s (suc i) (suc n) g h =
    let e : suc n - suc i ≡ n - i = omega arith in
    ap₂ (λ (a b : ℕ). chunks_from ws s a b) e (add-suc g i ∙ sym (suc-add g i)) ∙ drop-chunks ws s i n (suc g) (omega arith)

-- ---- the next output by the form of the row
module _ (r : Region) (t : Row) (k : OutputCursor) (m : Meter) where
  pub next-grouped : packed t ≡ true → next_output r t k m ≡ packed_next r (drop k.next (groups t.outputs)) k m
  unfolding next_output
  next-grouped e = rw (e, next_output)

  pub next-single : packed t ≡ false
      → next_output r t k m ≡ (elim (leb (length t.outputs) k.next) as (λ z. Published) [
        | true ↦ published end k m
        | false ↦ scalar_next t.outputs k (tick_of m)
      ])
  unfolding next_output
  next-single e = rw (e, next_output)

scalar-given : (os : List ℕ) (k : OutputCursor) (t : Tick) → single_given (get_or os k.next 0) k t ≡ scalar_next os k t
unfolding scalar_next
scalar-given os k (Ticked n) = refl
scalar-given os k (Stopped n) = refl

-- the codes of a scalar side
module _ (n : ℕ) (slot : List ℕ) (w : Stored n slot) (p : (output_side slot).packed ≡ false) where
  pub output-codes : Singles slot (output_side slot) (row_in slot).outputs
  output-codes =
      let l = laid-stored n slot w in
      subst (Singles slot (output_side slot)) l.outputs (singles slot (output_side slot) l.second p)

  pub output-small : SmallCodes slot (output_side slot)
  output-small g h =
      let c = output-codes in
      let l : g < length (row_in slot).outputs = let e = c.count in omega arith in
      let u = under_at (2 * n) (row_in slot).outputs g (row_under n (row_in slot) w.row).1 l in
      let e = c.code g l in
      let most = w.atoms in
      omega arith
    where
      under_at : (t : ℕ) (xs : List ℕ) (i : ℕ) → Under t xs → i < length xs → get_or xs i 0 < t
      under_at t [] i u h = absurd (omega arith)
      under_at t (x ∷ xs) zero u h = u.0
      under_at t (x ∷ xs) (suc i) u h = under_at t xs i u.1 (omega arith)

module _ (n : ℕ) (slot : List ℕ) (w : Stored n slot) (r : Region) (k : OutputCursor) (m : Meter) where
  abbrev s : Side
  s = output_side slot

  pub next-packed : s.packed ≡ true → k.next ≤ s.count
      → packed_next r (chunks_from slot s (s.count - k.next) k.next) k m ≡ next_output r (row_in slot) k m
  unfolding chunks
  next-packed p h =
      let e : packed (row_in slot) ≡ true = sym (form-stored n slot w).1 ∙ p in
      ap (λ (gs : List (List ℕ)). packed_next r gs k m)
      (ap (chunks_from slot s (s.count - k.next)) (sym (zero-add k.next)) ∙ drop-chunks slot s k.next s.count 0 h
      ∙ ap (drop k.next) (output-chunks n slot w ∙ ap (λ (b : Bool). chunks b (row_in slot).outputs) e))
      ∙ sym (next-grouped r (row_in slot) k m e)

  pub next-scalar : s.packed ≡ false → single_next slot s k m ≡ next_output r (row_in slot) k m
  unfolding single_next
  next-scalar p = go (dec_lt k.next s.count) ∙ sym (next-single r (row_in slot) k m (sym (form-stored n slot w).1 ∙ p))
    where
      c : Singles slot s (row_in slot).outputs
      c = output-codes n slot w p

      go : Dec (k.next < s.count)
          → single_next slot s k m ≡ (elim (leb (length (row_in slot).outputs) k.next) as (λ z. Published) [
            | true ↦ published end k m
            | false ↦ scalar_next (row_in slot).outputs k (tick_of m)
          ])
      go (yes h) =
          let l : k.next < length (row_in slot).outputs = let e = c.count in omega arith in
          rw (lt-leb s.count k.next h, lt-leb (length (row_in slot).outputs) k.next l, single_next)
          (ap (λ (x : ℕ). single_given x k (tick_of m)) (c.code k.next l) ∙ scalar-given (row_in slot).outputs k (tick_of m))
      go (no f) =
          let h : s.count ≤ k.next = omega arith in
          let l : length (row_in slot).outputs ≤ k.next = let e = c.count in omega arith in
          rw (le-leb s.count k.next h, le-leb (length (row_in slot).outputs) k.next l, single_next)

-- ---- what publication asks of a packed side
pub outputs-publishable : (slot held cut : List ℕ) (m : Matched slot held cut) → (output_side slot).packed ≡ true
    → Publishable slot (output_side slot) held cut
outputs-publishable slot held cut m p = record {
  readable = outputs-readable slot held cut m p;
  some = (laid-stored m.holds.atoms slot m.holds.stored).second.some p;
  apart = λ x. sound-word m.holds.atoms (region held cut) (sound-of m.holds.atoms (region held cut) m.region) x;
}

-- ---- refusal 8 by the form of the row and the place of the cursor
module _ (t : Row) (k : OutputCursor) where
  pub ok-scalar : packed t ≡ false → k.next ≤ length t.outputs → cursor_ok t k ≡ unloaded k
  unfolding cursor_ok
  ok-scalar e h = rw (e, le-leb k.next (length t.outputs) h, cursor_ok)

  pub past-scalar : packed t ≡ false → length t.outputs < k.next → cursor_ok t k ≡ false
  unfolding cursor_ok
  past-scalar e h = rw (e, lt-leb k.next (length t.outputs) h, cursor_ok)

  module _ (e : packed t ≡ true) where
    pub past-packed : length (groups t.outputs) < k.next → cursor_ok t k ≡ false
    unfolding cursor_ok
    past-packed h = rw (e, lt-leb k.next (length (groups t.outputs)) h, cursor_ok)

    pub ok-start : k.next ≡ 0 → cursor_ok t k ≡ unloaded k
    unfolding cursor_ok
    ok-start z = rw (e, le-leb k.next (length (groups t.outputs)) (omega arith), eq-eqb k.next 0 z, cursor_ok)

    pub ok-loaded : (k.next ≡ 0 → ⊥) → k.next ≤ length (groups t.outputs)
        → cursor_ok t k ≡ of_group k (get_or (groups t.outputs) (k.next - 1) [])
    unfolding cursor_ok
    ok-loaded f h = rw (e, le-leb k.next (length (groups t.outputs)) h, ne_eqb k.next 0 f, cursor_ok)

-- ---- cursors that stand in a packed row: at the start, after each call, and after refusal 8
pub pointed-start : (t : Row) → Pointed t start_cursor
unfolding start_cursor
pointed-start t = record { next = λ p. zero-le; word = λ p. omega arith }

-- the word of a group is one of the atoms that have codes of w bits
abbrev Inside : ℕ → List ℕ → Type 0
Inside w g = index_of g < words_wide w

abbrev Stands : ℕ → ℕ → OutputCursor → Type 0
Stands w l k = (k.next ≤ l) × (k.word < words_wide w)

give-stands : (w l c : ℕ) (cs : List ℕ) (k : OutputCursor) (x : Tick) → Stands w l k → Stands w l (give c cs k x).cursor
unfolding give given_out published
give-stands w l c cs k (Ticked m) h = h
give-stands w l c cs k (Stopped m) h = h

packed-stands : (w : ℕ) (r : Region) (l : ℕ) (gs : List (List ℕ)) (k : OutputCursor) (m : Meter) → Each (Inside w) gs
    → k.next + length gs ≤ l → k.word < words_wide w → Stands w l (packed_next r gs k m).cursor
unfolding packed_next published loaded
packed-stands w r l [] k m e h i = go (pending k)
  where
    go : (ps : List ℕ) → Stands w l (elim ps as (λ z. Published) [ [] ↦ published end k m | c ∷ cs ↦ give c cs k (tick_of m) ]).cursor
    go [] = (omega arith, i)
    go (c ∷ cs) = give-stands w l c cs k (tick_of m) (omega arith, i)
packed-stands w r l (g ∷ gs) k m e h i = go (pending k) (tick_of m) (λ n. packed-stands w r l gs (loaded r g k) n e.1)
  where
    next : (loaded r g k).next + length gs ≤ l
    next = omega arith

    go : (ps : List ℕ) (x : Tick)
        → ((n : Meter) → (loaded r g k).next + length gs ≤ l → (loaded r g k).word < words_wide w
        → Stands w l (packed_next r gs (loaded r g k) n).cursor)
        → Stands w l (elim ps as (λ z. Published) [
          | [] ↦ elim x as (λ z. Published) [ Stopped n ↦ published stopped k n | Ticked n ↦ packed_next r gs (loaded r g k) n ]
          | c ∷ cs ↦ give c cs k x
        ]).cursor
    go [] (Ticked n) ih = ih n next e.0
    go [] (Stopped n) ih = (omega arith, i)
    go (c ∷ cs) x ih = give-stands w l c cs k x (omega arith, i)

each-drop : (w i : ℕ) (gs : List (List ℕ)) → Each (Inside w) gs → Each (Inside w) (drop i gs)
each-drop w zero gs e = e
each-drop w (suc i) [] e = tt
each-drop w (suc i) (g ∷ gs) e = each-drop w i gs e.1

module _ (n : ℕ) (t : Row) (ok : T (is_row n t)) where
  groups-inside : (w : ℕ) → n ≤ atoms_wide w → Each (Inside w) (groups t.outputs)
  groups-inside w most = go (groups t.outputs) (groups-headed (2 * n) t.outputs (row_under n t ok).1)
    where
      go : (gs : List (List ℕ)) → Each (Headed (2 * n)) gs → Each (Inside w) gs
      go [] e = tt
      go (g ∷ gs) e = (let h = headed-index n g e.0 in let l = words-for-le w n most in omega arith, go gs e.1)

  pub pointed-next : n ≤ atoms_wide code_bits → (r : Region) (k : OutputCursor) (m : Meter) → Pointed t k
      → Pointed t (next_output r t k m).cursor
  pointed-next most r k m w = record { next = λ p. (stands p).0; word = λ p. (stands p).1 }
    where
      stands : packed t ≡ true → Stands code_bits (length (groups t.outputs)) (next_output r t k m).cursor
      stands p =
          let h = w.next p in
          let l = length-drop k.next (groups t.outputs) in
          subst (λ (x : Published). Stands code_bits (length (groups t.outputs)) x.cursor) (sym (next-grouped r t k m p))
          (packed-stands code_bits r (length (groups t.outputs)) (drop k.next (groups t.outputs)) k m
          (each-drop code_bits k.next (groups t.outputs) (groups-inside code_bits most)) (omega arith) (w.word p))

  pub pointed-ok : n ≤ atoms_wide code_bits → (k : OutputCursor) → cursor_ok t k ≡ true → Pointed t k
  unfolding unloaded of_group
  pointed-ok most k e =
      record { next = λ p. within p (dec_lt (length (groups t.outputs)) k.next); word = λ p. inside p (ℕ_discrete k.next 0) }
    where
      within : packed t ≡ true → Dec (length (groups t.outputs) < k.next) → k.next ≤ length (groups t.outputs)
      within p (yes h) = absurd (false≢true (sym (past-packed t k p h) ∙ e))
      within p (no h) = omega arith

      inside : packed t ≡ true → Dec (k.next ≡ 0) → k.word < words_wide code_bits
      inside p (yes z) =
          let u : eqb k.word 0 ≡ true = (and_both (eqb k.word 0) _ (sym (ok-start t k p z) ∙ e)).0 in
          let q : k.word ≡ 0 = eqb-true k.word 0 u in
          omega arith
      inside p (no f) =
          let h = within p (dec_lt (length (groups t.outputs)) k.next) in
          let g : List ℕ = get_or (groups t.outputs) (k.next - 1) [] in
          let u : eqb k.word (index_of g) ≡ true = (and_both (eqb k.word (index_of g)) _ (sym (ok-loaded t k p f h) ∙ e)).0 in
          let q : k.word ≡ index_of g = eqb-true k.word (index_of g) u in
          let l : index_of g < words_wide code_bits
          = each_at (Inside code_bits) (groups t.outputs) (k.next - 1) (groups-inside code_bits most) (omega arith) in
          omega arith

-- ---- refusal 8 by the slot
module _ (n : ℕ) (slot : List ℕ) (w : Stored n slot) (k : OutputCursor) where
  form : packed (row_in slot) ≡ (output_side slot).packed
  form = sym (form-stored n slot w).1

  group-count : (output_side slot).packed ≡ true → (output_side slot).count ≡ length (groups (row_in slot).outputs)
  group-count p = (grouped-stored n slot w (form ∙ p)).1.count

  code-count : (output_side slot).packed ≡ false → (output_side slot).count ≡ length (row_in slot).outputs
  code-count p = (output-codes n slot w p).count

  pub cursor-past : (output_side slot).count < k.next → false ≡ cursor_ok (row_in slot) k
  cursor-past h = go (output_side slot).packed refl
    where
      go : (b : Bool) → (output_side slot).packed ≡ b → false ≡ cursor_ok (row_in slot) k
      go true p = sym (past-packed (row_in slot) k (form ∙ p) (let e = group-count p in omega arith))
      go false p = sym (past-scalar (row_in slot) k (form ∙ p) (let e = code-count p in omega arith))

  pub cursor-scalar : (output_side slot).packed ≡ false → k.next ≤ (output_side slot).count → unloaded k ≡ cursor_ok (row_in slot) k
  cursor-scalar p h = sym (ok-scalar (row_in slot) k (form ∙ p) (let e = code-count p in omega arith))

  pub cursor-start : k.next ≡ 0 → unloaded k ≡ cursor_ok (row_in slot) k
  cursor-start z = go (output_side slot).packed refl
    where
      go : (b : Bool) → (output_side slot).packed ≡ b → unloaded k ≡ cursor_ok (row_in slot) k
      go true p = sym (ok-start (row_in slot) k (form ∙ p) z)
      go false p = sym (ok-scalar (row_in slot) k (form ∙ p) (omega arith))

  pub cursor-loaded : (output_side slot).packed ≡ true → (k.next ≡ 0 → ⊥) → k.next ≤ (output_side slot).count
      → of_words k (group_at slot (output_side slot) (k.next - 1)) ≡ cursor_ok (row_in slot) k
  unfolding of_group
  cursor-loaded p f h =
      let e = group-count p in
      let d = (grouped-stored n slot w (form ∙ p)).1.words (k.next - 1) (omega arith) in
      ap (λ (i : ℕ). eqb k.word i
      && (bits_among k.present (get_or slot ((output_side slot).base + group_length * (k.next - 1) + 1) 0)
      && bits_among k.absent (get_or slot ((output_side slot).base + group_length * (k.next - 1) + 2) 0))) d.index
      ∙ ap₂ (λ (a b : ℕ). eqb k.word (index_of (get_or (groups (row_in slot).outputs) (k.next - 1) []))
      && (bits_among k.present a && bits_among k.absent b)) d.present d.absent
      ∙ sym (ok-loaded (row_in slot) k (form ∙ p) f (omega arith))
