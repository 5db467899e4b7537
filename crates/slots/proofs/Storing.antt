-- A row's slot, and a proposal, are laid out as the row; a packed slot by its groups, a scalar one by its codes. Assumes nothing.
use mathlib.Core.Path.{◌≡◌, refl, sym, ap, ap₂, ◌∙◌, subst}
use mathlib.Core.Bool.{Bool, true, false, ◌&&◌}
use mathlib.Core.List.{List, [], ◌∷◌, ◌++◌, map, append_assoc}
use Prim.Native.Nat.{ℕ, suc, ◌+◌, ◌-◌, ◌*◌, ◌≤◌, ◌<◌}
use native.Mathlib.Omega.{arith}
use lib.Bits.{bit_and, bit_or}
use lib.Dec.{T}
use lib.ListN.{length, get_or, take, drop, replicate, length-append, length-replicate, length-drop, get_or-append}
use lib.Seq.{length-take-le, get_or-drop, get_or-take, get_or-append-add, take_at, drop_at}
use Rattle.lists.specs.Lists.{concat, pad, below, ascending}
use Rattle.lists.proofs.Bools.{T_of}
use Rattle.words.specs.Literal.{atoms_wide, atom}
use Rattle.words.specs.Region.{words_for}
use Rattle.words.proofs.Widths.{words-for-le}
use Rattle.model.specs.Records.{Row, Entry, is_row, is_row_over, within, max_conditions, max_outputs}
use Rattle.model.specs.Records.{conditions_at, outputs_at, total_groups_at, condition_groups_at, body_at, group_length, body_words}
use Rattle.model.specs.Records.{slot_words, source_at, source_word}
use Rattle.model.specs.Rows.{groups, group_count, packed}
use Rattle.model.specs.Slots.{bits_of, codes_of, group_words, if_packed, body, slot_of, row_in, entry_in}
use Rattle.model.proofs.Cover.{and_left, and_right}
use Rattle.model.proofs.Packing.{Asc, Under, groups-fit}
use Rattle.model.proofs.Slots.{Valid, valid-of, ascending-asc, packed_lt, packed-some, row-there, slot-length, entry-there, body-groups}
use Rattle.slots.specs.declared.Side.{Side}
use Rattle.slots.specs.Cursor.{literals_at, list_of, SoundWide}
use Rattle.slots.specs.Layout.{condition_side, output_side, Counted, LaidWide, StoredWide, proposal}
use Rattle.slots.proofs.Groups.{Each, each_at, each_append, Headed, below-under, groups-headed, headed-index, headed-some}
use Rattle.slots.proofs.Groups.{InWord, fits-codes, WordsAt, words-at}
use Rattle.slots.proofs.Words.{Apart, groups-apart}
use Rattle.slots.proofs.Laying.{laid-scalar, laid-packed, Filled, if-scalar, if-packed}
use Rattle.slots.proofs.Sides.{grouped, condition-scalar, condition-packed, output-scalar, output-packed}

-- ---- a row over n atoms: its codes are below 2n
pub row_under : (n : ℕ) (r : Row) → T (is_row n r) → Under (2 * n) r.conditions × Under (2 * n) r.outputs
unfolding is_row is_row_over
row_under n r t =
    let both = and_left (below (2 * n) r.conditions && below (2 * n) r.outputs)
    (ascending (map atom r.conditions) && ascending r.outputs)
    (and_right (within max_conditions max_outputs r) _ t) in (
      below-under (2 * n) r.conditions (and_left (below (2 * n) r.conditions) (below (2 * n) r.outputs) both),
      below-under (2 * n) r.outputs (and_right (below (2 * n) r.conditions) (below (2 * n) r.outputs) both),
    )

-- the atoms of its conditions ascend
pub row-atoms : (n : ℕ) (r : Row) → T (is_row n r) → Asc 0 (map atom r.conditions)
unfolding is_row is_row_over
row-atoms n r t =
    ascending-asc (map atom r.conditions)
    (and_left (ascending (map atom r.conditions)) (ascending r.outputs)
    (and_right (below (2 * n) r.conditions && below (2 * n) r.outputs) _ (and_right (within max_conditions max_outputs r) _ t)))

-- ---- the words of a slot
module _ (e : Entry) where
  abbrev r : Row
  r = e.row

  abbrev gc : List (List ℕ)
  gc = groups r.conditions

  abbrev go : List (List ℕ)
  go = groups r.outputs

  slot-conditions : get_or (slot_of e) conditions_at 0 ≡ length r.conditions
  unfolding slot_of pad
  slot-conditions = refl

  slot-outputs : get_or (slot_of e) outputs_at 0 ≡ length r.outputs
  unfolding slot_of pad
  slot-outputs = refl

  slot-forms : get_or (slot_of e) total_groups_at 0 ≡ if_packed r (group_count r)
      × get_or (slot_of e) condition_groups_at 0 ≡ if_packed r (length gc)
  unfolding slot_of pad
  slot-forms = (refl, refl)

  pub slot-scalar : packed r ≡ false → (get_or (slot_of e) total_groups_at 0 ≡ 0) × (get_or (slot_of e) condition_groups_at 0 ≡ 0)
  slot-scalar k = (slot-forms.0 ∙ if-scalar r (group_count r) k, slot-forms.1 ∙ if-scalar r (length gc) k)

  pub slot-packed : packed r ≡ true
      → (get_or (slot_of e) total_groups_at 0 ≡ length gc + length go) × (get_or (slot_of e) condition_groups_at 0 ≡ length gc)
  unfolding group_count
  slot-packed k = (slot-forms.0 ∙ if-packed r (group_count r) k, slot-forms.1 ∙ if-packed r (length gc) k)

  -- zeros, and the source
  ending : List ℕ
  ending = replicate (source_at - suc (suc (suc (suc (suc (suc (suc (suc (length (body r)))))))))) 0 ++ (source_word e.source ∷ [])

  slot_whole : drop body_at (slot_of e) ≡ body r ++ ending
  unfolding slot_of pad ending
  slot_whole =
      append_assoc (body r) (replicate (source_at - suc (suc (suc (suc (suc (suc (suc (suc (length (body r)))))))))) 0)
      (source_word e.source ∷ [])

  slot-body : packed r ≡ true → drop body_at (slot_of e) ≡ concat (map group_words (gc ++ go)) ++ ending
  slot-body k = slot_whole ∙ ap (λ (b : List ℕ). b ++ ending) (body-groups r k)

  slot-words : packed r ≡ true → (g : ℕ) → g < length (gc ++ go) → WordsAt (slot_of e) (body_at + group_length * g) (get_or (gc ++ go) g [])
  slot-words k g h =
      let w = words-at (gc ++ go) ending g h in
      let one : body_at + (group_length * g + 1) ≡ body_at + group_length * g + 1 = omega arith in
      let two : body_at + (group_length * g + 2) ≡ body_at + group_length * g + 2 = omega arith in
      record {
        index = from (group_length * g) (body_at + group_length * g) refl ∙ w.index;
        present = from (group_length * g + 1) (body_at + group_length * g + 1) one ∙ w.present;
        absent = from (group_length * g + 2) (body_at + group_length * g + 2) two ∙ w.absent;
      }
    where
      from : (i j : ℕ) → body_at + i ≡ j → get_or (slot_of e) j 0 ≡ get_or (concat (map group_words (gc ++ go)) ++ ending) i 0
      from i j q =
          ap (λ (m : ℕ). get_or (slot_of e) m 0) (sym q) ∙ sym (get_or-drop body_at (slot_of e) i 0)
          ∙ ap (λ (l : List ℕ). get_or l i 0) (slot-body k)

-- ---- a row's slot is laid out
filled_at : (w n : ℕ) (ws : List ℕ) (at : ℕ) (g : List ℕ) → n ≤ atoms_wide w → Headed (2 * n) g → WordsAt ws at g → Filled w ws at
filled_at w n ws at g h k v = (
  let i = headed-index n g k in let e = v.index in let m = words-for-le w n h in omega arith,
  subst (λ (x : ℕ). 0 < x) (sym (ap₂ (λ (x y : ℕ). bit_or x y) v.absent v.present)) (headed-some (2 * n) g k),
)

module _ (w n : ℕ) (e : Entry) (ok : T (is_row n e.row)) (small : n ≤ atoms_wide w) where
  abbrev cs : List (List ℕ)
  cs = groups e.row.conditions

  abbrev os : List (List ℕ)
  os = groups e.row.outputs

  valid : Valid e.row
  valid = valid-of n e.row ok

  headed-conditions : Each (Headed (2 * n)) cs
  headed-conditions = groups-headed (2 * n) e.row.conditions (row_under n e.row ok).0

  headed-outputs : Each (Headed (2 * n)) os
  headed-outputs = groups-headed (2 * n) e.row.outputs (row_under n e.row ok).1

  pub laid-slot : LaidWide w (slot_of e)
  laid-slot = form (packed e.row) refl
    where
      ws : List ℕ
      ws = slot_of e

      few : get_or ws conditions_at 0 ≤ max_conditions
      few = subst (λ (m : ℕ). m ≤ max_conditions) (sym (slot-conditions e)) valid.few

      most : get_or ws outputs_at 0 ≤ max_outputs
      most = subst (λ (m : ℕ). m ≤ max_outputs) (sym (slot-outputs e)) valid.many

      form : (b : Bool) → packed e.row ≡ b → LaidWide w ws
      form false k =
          let z = slot-scalar e k in
          let p : get_or ws condition_groups_at 0 ≤ get_or ws total_groups_at 0 = let x = z.0 in let y = z.1 in omega arith in
          let room : group_length * get_or ws total_groups_at 0 ≤ body_words = let x = z.0 in omega arith in
          laid-scalar ws (slot-length e valid) (record { few = few; most = most; parts = p; words = room }) z.0
      form true k =
          let z = slot-packed e k in
          let total = z.0 in
          let part = z.1 in
          let lt = packed_lt e.row (T_of k) in
          let some = packed-some e.row (T_of k) in
          let a = valid.few in
          let b = valid.many in
          let p : get_or ws condition_groups_at 0 ≤ get_or ws total_groups_at 0 = omega arith in
          let room : group_length * get_or ws total_groups_at 0 ≤ body_words = omega arith in
          let l = length-append cs os in
          laid-packed ws (slot-length e valid) (record { few = few; most = most; parts = p; words = room }) (λ q. omega arith)
          (λ g h. filled_at w n ws (body_at + group_length * g) (get_or (cs ++ os) g []) small
          (each_at (Headed (2 * n)) (cs ++ os) g (each_append (Headed (2 * n)) cs os headed-conditions headed-outputs) (omega arith))
          (slot-words e k g (omega arith)))
          (ap (λ (x : Row). length x.conditions) (row-there e valid) ∙ sym (slot-conditions e))
          (ap (λ (x : Row). length x.outputs) (row-there e valid) ∙ sym (slot-outputs e))

  pub stored-slot : StoredWide w n (slot_of e)
  stored-slot = record {
    atoms = small;
    row = subst (λ (x : Row). T (is_row n x)) (sym (row-there e valid)) ok;
    same = ap slot_of (entry-there e valid);
  }

-- ---- the groups of a packed side, by their words in the slot
pub record Grouped (n : ℕ) (ws : List ℕ) (s : Side) (gs : List (List ℕ)) : Type 0 where
  pub form : s.packed ≡ true
  pub count : s.count ≡ length gs
  pub words : (g : ℕ) → g < length gs → WordsAt ws (s.base + group_length * g) (get_or gs g [])
  pub inside : (g : ℕ) → g < length gs → get_or ws (s.base + group_length * g) 0 < words_for n
  pub codes : (g : ℕ) → g < length gs
      → get_or gs g [] ≡ codes_of (get_or ws (s.base + group_length * g) 0) (get_or ws (s.base + group_length * g + 1) 0)
      (get_or ws (s.base + group_length * g + 2) 0)

codes-of-words : (ws : List ℕ) (at : ℕ) (g : List ℕ) → WordsAt ws at g → InWord g
    → g ≡ codes_of (get_or ws at 0) (get_or ws (at + 1) 0) (get_or ws (at + 2) 0)
codes-of-words ws at g w i =
    i ∙ ap (λ (x : ℕ). codes_of x (bits_of true g) (bits_of false g)) (sym w.index)
    ∙ ap₂ (λ (p a : ℕ). codes_of (get_or ws at 0) p a) (sym w.present) (sym w.absent)

grouped-of : (n : ℕ) (ws : List ℕ) (b k : ℕ) (gs : List (List ℕ)) → k ≡ length gs → Each InWord gs → Each (Headed (2 * n)) gs
    → ((g : ℕ) → g < length gs → WordsAt ws (b + group_length * g) (get_or gs g [])) → Grouped n ws (grouped b k) gs
grouped-of n ws b k gs e i h w = record {
  form = refl;
  count = e;
  words = w;
  inside = λ g l. let x = headed-index n (get_or gs g []) (each_at (Headed (2 * n)) gs g h l) in let y = (w g l).index in omega arith;
  codes = λ g l. codes-of-words ws (b + group_length * g) (get_or gs g []) (w g l) (each_at InWord gs g i l);
}

-- ---- a slot that a ledger holds
module _ (n : ℕ) (e : Entry) (ok : T (is_row n e.row)) where
  slot-grouped : packed e.row ≡ true
      → Grouped n (slot_of e) (condition_side (slot_of e)) (groups e.row.conditions)
      × Grouped n (slot_of e) (output_side (slot_of e)) (groups e.row.outputs)
  slot-grouped k = (
    subst (λ (s : Side). Grouped n ws s cs) (sym (condition-packed ws some))
        (grouped-of n ws body_at (get_or ws condition_groups_at 0) cs part (fits-codes 0 cs (groups-fit 0 e.row.conditions v.conditions))
        (groups-headed (2 * n) e.row.conditions (row_under n e.row ok).0) first),
    subst (λ (s : Side). Grouped n ws s os) (sym (output-packed ws some))
        (grouped-of n ws (body_at + group_length * get_or ws condition_groups_at 0)
        (get_or ws total_groups_at 0 - get_or ws condition_groups_at 0) os
        rest (fits-codes 0 os (groups-fit 0 e.row.outputs v.outputs))
        (groups-headed (2 * n) e.row.outputs (row_under n e.row ok).1) second),
  )
    where
      ws : List ℕ
      ws = slot_of e

      cs : List (List ℕ)
      cs = groups e.row.conditions

      os : List (List ℕ)
      os = groups e.row.outputs

      v : Valid e.row
      v = valid-of n e.row ok

      total : get_or ws total_groups_at 0 ≡ length cs + length os
      total = (slot-packed e k).0

      part : get_or ws condition_groups_at 0 ≡ length cs
      part = (slot-packed e k).1

      rest : get_or ws total_groups_at 0 - get_or ws condition_groups_at 0 ≡ length os
      rest = let x = total in let y = part in omega arith

      some : get_or ws total_groups_at 0 ≡ 0 → ⊥
      some q = let x = packed-some e.row (T_of k) in let y = total in omega arith

      first : (g : ℕ) → g < length cs → WordsAt ws (body_at + group_length * g) (get_or cs g [])
      first g l =
          subst (WordsAt ws (body_at + group_length * g)) (get_or-append cs os [] g l)
          (slot-words e k g (let x = length-append cs os in omega arith))

      second : (g : ℕ) → g < length os
          → WordsAt ws (body_at + group_length * get_or ws condition_groups_at 0 + group_length * g) (get_or os g [])
      second g l =
          let q = part in
          let at : body_at + group_length * (length cs + g) ≡ body_at + group_length * get_or ws condition_groups_at 0 + group_length * g =
          omega arith in
          subst (λ (i : ℕ). WordsAt ws i (get_or os g [])) at
          (subst (WordsAt ws (body_at + group_length * (length cs + g))) (get_or-append-add cs os g [])
          (slot-words e k (length cs + g) (let x = length-append cs os in omega arith)))

  slot-form : ((condition_side (slot_of e)).packed ≡ packed e.row) × ((output_side (slot_of e)).packed ≡ packed e.row)
  slot-form = form (packed e.row) refl
    where
      form : (b : Bool) → packed e.row ≡ b → ((condition_side (slot_of e)).packed ≡ b) × ((output_side (slot_of e)).packed ≡ b)
      form true k = let g = slot-grouped k in (g.0.form, g.1.form)
      form false k =
          let z = (slot-scalar e k).0 in
          (ap (λ (s : Side). s.packed) (condition-scalar (slot_of e) z), ap (λ (s : Side). s.packed) (output-scalar (slot_of e) z))

module _ {w : ℕ} (n : ℕ) (ws : List ℕ) (s : StoredWide w n ws) where
  pub laid-stored : LaidWide w ws
  unfolding entry_in
  laid-stored = subst (LaidWide w) s.same (laid-slot w n (entry_in ws) s.row s.atoms)

  -- the form of both sides is that of `prepare`
  pub form-stored : ((condition_side ws).packed ≡ packed (row_in ws)) × ((output_side ws).packed ≡ packed (row_in ws))
  unfolding entry_in
  form-stored =
      subst (λ (l : List ℕ). ((condition_side l).packed ≡ packed (row_in ws)) × ((output_side l).packed ≡ packed (row_in ws))) s.same
      (slot-form n (entry_in ws) s.row)

  pub grouped-stored : packed (row_in ws) ≡ true
      → Grouped n ws (condition_side ws) (groups (row_in ws).conditions) × Grouped n ws (output_side ws) (groups (row_in ws).outputs)
  unfolding entry_in
  grouped-stored k =
      subst (λ (l : List ℕ). Grouped n l (condition_side l) (groups (row_in ws).conditions)
      × Grouped n l (output_side l) (groups (row_in ws).outputs)) s.same
      (slot-grouped n (entry_in ws) s.row k)

  -- no atom of a group of conditions has both signs
  pub conditions-apart : packed (row_in ws) ≡ true → (g : ℕ) → g < length (groups (row_in ws).conditions)
      → bit_and (get_or ws ((condition_side ws).base + group_length * g + 1) 0)
      (get_or ws ((condition_side ws).base + group_length * g + 2) 0) ≡ 0
  conditions-apart k g l =
      let here = (grouped-stored k).0.words g l in
      let v = valid-of n (row_in ws) s.row in
      ap₂ bit_and here.present here.absent
      ∙ each_at Apart (groups (row_in ws).conditions) g
      (groups-apart (row_in ws).conditions v.conditions (row-atoms n (row_in ws) s.row)) l

-- ---- the codes of a scalar side
pub record Singles (ws : List ℕ) (s : Side) (cs : List ℕ) : Type 0 where
  pub count : s.count ≡ length cs
  pub code : (i : ℕ) → i < length cs → get_or ws (s.base + i) 0 ≡ get_or cs i 0

pub singles : {w : ℕ} (ws : List ℕ) (s : Side) → SoundWide w ws s → s.packed ≡ false → Singles ws s (list_of ws s)
unfolding list_of literals_at
singles ws s sound k = subst (λ (b : Bool). Singles ws s (literals_at b ws s.base s.count)) (sym k) here
  where
    long : length (take s.count (drop s.base ws)) ≡ s.count
    long = length-take-le s.count (drop s.base ws) (let h = sound.single k in omega (arith, length-drop s.base ws))

    here : Singles ws s (literals_at false ws s.base s.count)
    here = record {
      count = sym long;
      code = λ i l. sym (get_or-take s.count (drop s.base ws) i 0 (let q = long in omega arith) ∙ get_or-drop s.base ws i 0);
    }

-- ---- a proposal
pub row-proposal : (r : Row) → row_in (proposal r) ≡ r
unfolding row_in proposal pad
row-proposal r =
    let c : List ℕ = r.conditions in
    let o : List ℕ = r.outputs in
    let zs : List ℕ = replicate (slot_words - suc (suc (suc (suc (suc (suc (suc (suc (length (c ++ o)))))))))) 0 in
    ap₂ {C = Row} (λ (x y : List ℕ). record { conditions = x; outputs = y })
    (ap (take (length c)) (append_assoc c o zs) ∙ take_at c (o ++ zs) (length c) refl)
    (ap (λ (l : List ℕ). take (length o) (drop (length c) l)) (append_assoc c o zs)
    ∙ ap (take (length o)) (drop_at c (o ++ zs) (length c) refl)
    ∙ take_at o zs (length o) refl)

proposal-length : (r : Row) → Valid r → length (proposal r) ≡ slot_words
unfolding proposal pad
proposal-length r v =
    let n : ℕ = suc (suc (suc (suc (suc (suc (suc (suc (length (r.conditions ++ r.outputs))))))))) in
    let few = v.few in
    let many = v.many in
    omega (
      arith,
      length-append r.conditions r.outputs,
      length-append (r.conditions ++ r.outputs) (replicate (slot_words - n) 0),
      length-replicate {A = ℕ} (slot_words - n) 0,
    )

pub laid-proposal : {w : ℕ} (r : Row) → Valid r → LaidWide w (proposal r)
unfolding proposal pad
laid-proposal r v = laid-scalar (proposal r) (proposal-length r v) counts zero-groups
  where
    zero-groups : get_or (proposal r) total_groups_at 0 ≡ 0
    zero-groups = refl

    counts : Counted (proposal r)
    counts = record { few = v.few; most = v.many; parts = omega arith; words = omega arith }
