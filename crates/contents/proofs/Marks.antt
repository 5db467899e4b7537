-- A walk along lent postings with a place for each row, step by step. Assumes nothing.
use mathlib.Core.Path.{◌≡◌, refl, sym, ap, ◌∙◌, subst}
use mathlib.Core.Bool.{true, false}
use mathlib.Core.List.{List}
use mathlib.Core.Logic.{◌⊎◌, inl, inr}
use Prim.Native.Nat.{ℕ, ◌+◌, ◌-◌, ◌*◌, ◌/◌, ◌%◌, ◌≤◌, ◌<◌}
use native.Mathlib.Decide.{ℕ_discrete}
use native.Mathlib.Omega.{arith}
use lib.ListN.{length, get_or, set, take, drop, replicate, get_or-replicate, get_or-eq_default}
use lib.Seq.{get_or-set_same, get_or-set_other, get_or-take, get_or-drop, take_all, length-take-le}
use Rattle.lists.specs.Lists.{same, sort_of, pad}
use Rattle.lists.specs.Counts.{times, Each, Sorted}
use Rattle.lists.specs.Runs.{run_after}
use Rattle.lists.specs.declared.runs.Run.{Run}
use Rattle.lists.proofs.Counts.{same_or, lt-or-ge, is-other, is_same, times-at, times_more, times-take-le, perm-full}
use Rattle.lists.proofs.Sorts.{sort-full, sort-id, sort-perm, sort_sorted, length-sort}
use Rattle.lists.proofs.Pads.{get_or-pad}
use Rattle.lists.proofs.Tests.{same-no, same_true}
use Rattle.lists.proofs.Walks.{Checked, checked-back, checked-more, checked-small, word_after, times-same, times-new}
use Rattle.model.specs.Records.{Row, slot_words, max_rows, total_groups_at}
use Rattle.model.specs.Slots.{row_in}
use Rattle.model.specs.Postings.{postings_of}
use Rattle.slots.specs.Layout.{rows_in, slot_at, Rows}
use Rattle.slots.proofs.Rows.{slot-code}
use Rattle.slots_check.specs.Check.{all_zero}
use Rattle.contents.specs.Lent.{postings_due, posted_atoms, LaidOut}
use Rattle.contents.specs.Marked.{Form, Marked, Walked, Ended, packed_from, nowhere}
use Rattle.contents.proofs.Filing.{holds-code, posted-code, due-no, due-rest}

-- ---- places
pub marked-none : (slots : List ℕ) (v : ℕ) → nowhere ≤ v → Marked 0 slots (replicate max_rows v)
marked-none slots v n = record {
  there = λ p l h. absurd (omega (arith, at p l));
  form = λ p l. record {
    scalar = λ h. absurd (omega (arith, at p l));
    packed = λ g h. absurd (omega (arith, at p l));
  };
}
  where
    at : (p : ℕ) → p < max_rows → get_or (replicate max_rows v) p 0 ≡ v
    at p l = get_or-replicate max_rows p v 0 l

-- a place that says the form of its row
module _ (n m : ℕ) (slots places : List ℕ) (p v : ℕ) where
  pub marked-put : n ≤ m → p < m → length places ≡ max_rows → Marked n slots places → Form v (get_or slots (slot_words * p + total_groups_at) 0)
      → Marked m slots (set places p v)
  marked-put l k e h f = record { there = λ q b. there q b (same_or q p); form = λ q b. form q b (same_or q p) }
    where
      here : (q : ℕ) → q < max_rows → q ≡ p → get_or (set places p v) q 0 ≡ v
      here q b s = ap (λ (j : ℕ). get_or (set places p v) j 0) s ∙ get_or-set_same places p v 0 (omega arith)

      there : (q : ℕ) → q < max_rows → (q ≡ p) ⊎ (q ≡ p → ⊥) → get_or (set places p v) q 0 < nowhere → q < m
      there q b (inl s) x = omega arith
      there q b (inr d) x = omega (arith, h.there q b (omega (arith, get_or-set_other places p q v 0 d)))

      form : (q : ℕ) → q < max_rows → (q ≡ p) ⊎ (q ≡ p → ⊥) → Form (get_or (set places p v) q 0) (get_or slots (slot_words * q + total_groups_at) 0)
      form q b (inl s) =
          subst (λ (x : ℕ). Form x (get_or slots (slot_words * q + total_groups_at) 0)) (sym (here q b s))
          (subst (λ (j : ℕ). Form v (get_or slots (slot_words * j + total_groups_at) 0)) (sym s) f)
      form q b (inr d) =
          subst (λ (x : ℕ). Form x (get_or slots (slot_words * q + total_groups_at) 0)) (sym (get_or-set_other places p q v 0 d)) (h.form q b)

-- the number of groups, in a slot as the code lends it
pub total-code : (ws : List ℕ) (p : ℕ) {s : List ℕ} → s ≡ slot_at ws p
    → get_or s total_groups_at 0 ≡ get_or ws (slot_words * p + total_groups_at) 0
total-code ws p e =
    ap (λ (l : List ℕ). get_or l total_groups_at 0) e ∙ get_or-take slot_words (drop (slot_words * p) ws) total_groups_at 0 (omega arith)
    ∙ get_or-drop (slot_words * p) ws total_groups_at 0

-- a row by its place
module _ (n : ℕ) (ws places : List ℕ) (r : Rows n ws) (e : length places ≡ max_rows) (h : Marked n ws places) (x k : ℕ)
    (q : k ≡ get_or places (x % max_rows) 0) where
  abbrev slot : List ℕ
  slot = take ((slot_words * (x % max_rows) + slot_words) - slot_words * (x % max_rows)) (drop (slot_words * (x % max_rows)) ws)

  among : k < nowhere → x % max_rows < n
  among l = h.there (x % max_rows) (omega arith) (omega arith)

  formed : Form k (get_or ws (slot_words * (x % max_rows) + total_groups_at) 0)
  formed =
      subst (λ (v : ℕ). Form v (get_or ws (slot_words * (x % max_rows) + total_groups_at) 0)) (sym q)
      (h.form (x % max_rows) (omega arith))

  pub lent-end : k < nowhere → slot_words * (x % max_rows) + slot_words ≤ length ws
  lent-end l = let t = among l in let m = r.over.long in omega arith

  pub lent-scalar : k < packed_from → LaidOut slot × (get_or slot total_groups_at 0 ≡ 0)
  lent-scalar l =
      let c = slot-code ws (x % max_rows) in
      (holds-code n ws r (x % max_rows) c (among (omega arith)), total-code ws (x % max_rows) c ∙ formed.scalar l)

  pub lent-packed : packed_from ≤ k → k < nowhere → LaidOut slot × (get_or slot total_groups_at 0 ≡ 0 → ⊥)
  lent-packed g l =
      let c = slot-code ws (x % max_rows) in
      (holds-code n ws r (x % max_rows) c (among l), λ z. formed.packed g l (sym (total-code ws (x % max_rows) c) ∙ z))

  pub keep-scalar : k < packed_from → (v : ℕ) → Marked n ws (set places (x % max_rows) (v % packed_from))
  keep-scalar l v =
      marked-put n n ws places (x % max_rows) (v % packed_from) (omega arith) (among (omega arith)) e h
      (record { scalar = λ b. formed.scalar l; packed = λ g b. absurd (omega arith) })

  pub keep-packed : packed_from ≤ k → k < nowhere → (v : ℕ) → Marked n ws (set places (x % max_rows) (k + v))
  keep-packed g l v =
      marked-put n n ws places (x % max_rows) (k + v) (omega arith) (among l) e h
      (record { scalar = λ b. absurd (omega arith); packed = λ f b. formed.packed g l })

-- a row by its place, and its slot, as the code lends it
module _ (n : ℕ) (ws places : List ℕ) (r : Rows n ws) (h : Marked n ws places) (x k : ℕ) (q : k ≡ get_or places (x % max_rows) 0)
    (l : k < nowhere) (slot : List ℕ) (d : slot ≡ slot_at ws (x % max_rows)) where
  there : x % max_rows < n
  there = h.there (x % max_rows) (omega arith) (omega arith)

  pub lent-row : LaidOut slot
  lent-row = holds-code n ws r (x % max_rows) d there

  pub posted-once : 1 ≤ times (x / max_rows) (posted_atoms (row_in slot)) → 1 ≤ times x (postings_of (rows_in n ws))
  posted-once o = omega (arith, posted-code n ws r x d there)

-- ---- words that ascend, none more often than among ys
module _ (xs ys : List ℕ) where
  abbrev run_of : ℕ → ℕ → Run
  run_of x n = record { word = x; times = n }

  checked-of : (i x n : ℕ) → Walked xs ys i x n → Checked xs xs (run_of x n) i
  checked-of i x n h = record {
    far = h.far;
    long = refl;
    sorted = h.sorted;
    top = h.top;
    held = h.held;
    runs = h.runs;
    few = λ v. times-take-le v i xs;
  }

  pub walked_start : Walked xs ys 0 0 0
  walked_start = record {
    far = omega arith;
    sorted = tt;
    top = λ v h. absurd (omega arith);
    held = λ h. absurd (omega arith);
    runs = refl;
    few = λ v. omega arith;
  }

  pub walked-small : (i x n : ℕ) → Walked xs ys i x n → n ≤ i
  walked-small i x n h = checked-small xs xs (run_of x n) i (checked-of i x n h)

  pub walked-back : (i x n : ℕ) → Walked xs ys i x n → i < length xs → get_or xs i 0 < x → xs ≡ sort_of ys → ⊥
  walked-back i x n h l b e =
      checked-back xs xs (run_of x n) i (checked-of i x n h) l b (sort-id xs (subst Sorted (sym e) (sort_sorted ys)))

  -- one word more, met so often in a row
  module _ (i x n m : ℕ) (h : Walked xs ys i x n) (l : i < length xs) (p : x ≤ get_or xs i 0)
      (a : m ≡ (run_after (run_of x n) (get_or xs i 0)).times) where
    abbrev y : ℕ
    y = get_or xs i 0

    inside : (y ≡ x) ⊎ (y ≡ x → ⊥) → (run_after (run_of x n) y).times ≤ times y xs
    inside (inl e) =
        let t = times-same (run_of x n) y e in
        let r = h.runs ∙ ap (λ (v : ℕ). times v (take i xs)) (sym e) in
        omega (arith, times_more y xs i l, is_same y, times-take-le y (i + 1) xs)
    inside (inr d) = let t = times-new (run_of x n) y d in omega (arith, times-at xs i l)

    next : Checked xs xs (run_after (run_of x n) y) (i + 1)
    next = checked-more xs xs (run_of x n) i (checked-of i x n h) l p (inside (same_or y x))

    met : m ≡ times y (take (i + 1) xs)
    met = a ∙ next.runs ∙ ap (λ (v : ℕ). times v (take (i + 1) xs)) (word_after (run_of x n) y)

    pub walked_more : m ≤ times y ys → Walked xs ys (i + 1) y m
    walked_more f = record {
      far = next.far;
      sorted = next.sorted;
      top = subst (λ (v : ℕ). Each (λ u. u ≤ v) (take (i + 1) xs)) (word_after (run_of x n) y) next.top;
      held = λ k. omega (arith, times_more y xs i l, is_same y);
      runs = met;
      few = λ v. each v (same_or v y);
    }
      where
        each : (v : ℕ) → (v ≡ y) ⊎ (v ≡ y → ⊥) → times v (take (i + 1) xs) ≤ times v ys
        each v (inl e) = subst (λ (u : ℕ). times u (take (i + 1) xs) ≤ times u ys) (sym e) (omega (arith, met))
        each v (inr d) = omega (arith, times_more v xs i l, is-other v y d, h.few v)

    pub walked_many : times y ys < m → xs ≡ sort_of ys → ⊥
    walked_many f e =
        let s : times y xs ≡ times y ys = ap (times y) e ∙ sort-perm ys y in
        omega (arith, met, times-take-le y (i + 1) xs)

  -- a word above the last one is met once
  pub walked-above : (i x n : ℕ) → Walked xs ys i x n → i < length xs → x < get_or xs i 0 → 1 ≤ times (get_or xs i 0) ys
      → Walked xs ys (i + 1) (get_or xs i 0) 1
  walked-above i x n h l p f =
      walked_more i x n 1 h l (omega arith) (sym (times-new (run_of x n) (get_or xs i 0) (λ e. omega arith))) f

  shorter : ((v : ℕ) → times v xs ≤ times v ys) → length xs ≤ length ys
  shorter f = go (lt-or-ge (length ys) (length xs))
    where
      go : (length ys < length xs) ⊎ (length xs ≤ length ys) → length xs ≤ length ys
      go (inr g) = g
      go (inl l) =
          let k : ℕ = length ys in
          let v : ℕ = get_or xs k 0 in
          let e : length (take k xs) ≡ length ys = length-take-le k xs (omega arith) in
          let q = perm-full (take k xs) ys e (λ u. omega (arith, times-take-le u k xs, f u)) v in
          absurd (omega (arith, times_more v xs k l, is_same v, times-take-le v (k + 1) xs, f v))

  pub walked_end : (i x n : ℕ) → Walked xs ys i x n → length xs ≤ i → length ys ≤ length xs → xs ≡ sort_of ys
  walked_end i x n h g l =
      let e : take i xs ≡ xs = take_all i xs g in
      let f : (v : ℕ) → times v xs ≤ times v ys = λ v. rw e at (h.few v) in
      sort-full xs ys (rw e at h.sorted) (omega (arith, shorter f)) f

-- ---- the words that the postings take
module _ (ws : List ℕ) (rs : List Row) (n : ℕ) (h : Ended (length (postings_of rs)) ws n) where
  pub ended-no : same (take (n - 0) ws) (sort_of (postings_of rs)) ≡ false → false ≡ same ws (pad (length ws) (postings_due false rs))
  unfolding postings_due
  ended-no f = go (ℕ_discrete n (length (postings_of rs)))
    where
      behind : (n ≡ length (postings_of rs) → ⊥) → ws ≡ pad (length ws) (postings_due false rs) → get_or ws (n - 1) 0 ≡ 0
      behind d e =
          ap (λ (l : List ℕ). get_or l (n - 1) 0) e ∙ get_or-pad (length ws) (sort_of (postings_of rs)) (n - 1)
          ∙ get_or-eq_default (sort_of (postings_of rs)) 0 {n = n - 1} (omega (arith, h.all, length-sort (postings_of rs)))

      go : Dec (n ≡ length (postings_of rs)) → false ≡ same ws (pad (length ws) (postings_due false rs))
      go (yes e) = due-no ws rs n e h.inside f
      go (no d) = sym (same-no ws (pad (length ws) (postings_due false rs)) (λ e. h.last d (behind d e)))

  pub ended-rest : same (take (n - 0) ws) (sort_of (postings_of rs)) ≡ true
      → all_zero (drop n ws) ≡ same ws (pad (length ws) (postings_due false rs))
  ended-rest f =
      let q = ap length (same_true (take (n - 0) ws) (sort_of (postings_of rs)) f) in
      let e : n ≡ length (postings_of rs) =
      omega (arith, length-take-le (n - 0) ws (omega (arith, h.inside)), length-sort (postings_of rs)) in
      due-rest ws rs n e h.inside f
