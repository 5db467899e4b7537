-- Places closed up: the slots that stay move down, and the places freed are zeroed. Assumes nothing.
use mathlib.Core.Path.{◌≡◌, refl, sym, ap, ap₂, ◌∙◌, subst}
use mathlib.Core.Bool.{Bool, true, false}
use mathlib.Core.List.{List, [], ◌∷◌, ◌++◌, append_assoc, append-nil}
use Prim.Native.Nat.{ℕ, suc, ◌+◌, ◌-◌, ◌*◌, ◌≤◌, ◌<◌}
use native.Mathlib.Numerals.{add-one}
use native.Mathlib.Omega.{arith}
use lib.ListN.{length, take, drop, replicate, length-append, length-drop, replicate-append-replicate}
use lib.ListN.{take-append-drop}
use lib.Seq.{take_at, drop_at, drop-append-le, drop-drop, length-take-le}
use borrow.Rule.Slice.PartMut.{put_mid, mid_of, Post-is, mid_len}
use Rattle.lists.specs.Lists.{pad, zeroed}
use Rattle.lists.proofs.Concats.{concat-map-append, concat-map-one}
use Rattle.model.specs.Records.{Entry, slot_words}
use Rattle.model.specs.Slots.{slot_of, slots_of, entries_in}
use Rattle.model.proofs.Slots.{Valid, AllValid, slot-length, entries-length}
use Rattle.model.proofs.Accepting.{laid-length}
use Rattle.slots.specs.Layout.{tier_of, Held}
use Rattle.slots.proofs.Holding.{held-few, holding}
use Rattle.tier.specs.Tier.{kept_by, moved, kept_words, kept_place, closed_up, moved_down}
use Rattle.tier.proofs.Buffer.{laid, laid_nil, laid_cons, valid-take, valid-drop}

-- the places from `to` up to `rows` zeroed
abbrev pub cleared : ℕ → List ℕ × ℕ → List ℕ
cleared rows r = take (slot_words * r.1) r.0 ++ (replicate (slot_words * rows - slot_words * r.1) 0 ++ drop (slot_words * rows) r.0)

moved_length : (from to : ℕ) (ws : List ℕ) → to ≤ from → slot_words * from + slot_words ≤ length ws → length (moved from to ws) ≡ length ws
unfolding moved
moved_length from to ws l h =
    let a = length-append (take (slot_words * to) ws)
    (take slot_words (drop (slot_words * from) ws) ++ drop (slot_words * to + slot_words) ws) in
    let b = length-append (take slot_words (drop (slot_words * from) ws)) (drop (slot_words * to + slot_words) ws) in
    let c = length-take-le (slot_words * to) ws (omega arith) in
    let d = length-drop (slot_words * from) ws in
    let e = length-take-le slot_words (drop (slot_words * from) ws) (omega arith) in
    let f = length-drop (slot_words * to + slot_words) ws in
    omega arith

valid-append : (xs ys : List Entry) → AllValid xs → AllValid ys → AllValid (xs ++ ys)
valid-append [] ys v w = w
valid-append (x ∷ xs) ys v w = (v.0, valid-append xs ys v.1 w)

laid-snoc : (done : List Entry) (e : Entry) → laid (done ++ (e ∷ [])) ≡ laid done ++ slot_of e
laid-snoc done e =
    concat-map-append slot_of done (e ∷ []) ∙ ap (λ (l : List ℕ). laid done ++ l) (concat-map-one slot_of e)

module _ (f : ℕ → Bool) (tier rows : ℕ) where
  -- what is laid down after: `done` stands, then a gap, then the rest, then zeros
  abbrev row_of : List Entry → List ℕ → List Entry → ℕ → List ℕ
  row_of done gap rest n = laid done ++ (gap ++ (laid rest ++ replicate n 0))

  nothing_left : (done : List Entry) (gap : List ℕ) (n : ℕ) → AllValid done → length done ≤ rows → rows ≤ tier
      → length gap ≡ slot_words * rows - slot_words * length done → n ≡ slot_words * tier - slot_words * rows
      → cleared rows (row_of done gap [] n, length done) ≡ slots_of tier done
  unfolding slots_of pad
  nothing_left done gap n v l t g e =
      let d = laid-length done v in
      let w : row_of done gap [] n ≡ laid done
      ++ (gap ++ replicate n 0) = ap (λ (x : List ℕ). laid done ++ (gap ++ (x ++ replicate n 0))) laid_nil in
      let front : length (laid done ++ gap) ≡ slot_words * rows = length-append (laid done) gap ∙ (omega arith) in
      let k : (slot_words * rows - slot_words * length done) + n ≡ slot_words * tier - length (laid done) = omega arith in
      ap₂ (λ (x y : List ℕ). x ++ (replicate (slot_words * rows - slot_words * length done) 0 ++ y))
      (ap (take (slot_words * length done)) w ∙ take_at (laid done) (gap ++ replicate n 0) (slot_words * length done) d)
      (ap (drop (slot_words * rows)) (w ∙ sym (append_assoc (laid done) gap (replicate n 0)))
      ∙ drop_at (laid done ++ gap) (replicate n 0) (slot_words * rows) front)
      ∙ ap (λ (x : List ℕ). laid done ++ x)
      (replicate-append-replicate (slot_words * rows - slot_words * length done) n 0 ∙ ap (λ (m : ℕ). replicate m 0) k)

  -- the slot after the gap comes down to its front
  moved_row : (done : List Entry) (gap : List ℕ) (e : Entry) (rest : List Entry) (n i : ℕ) → AllValid done → Valid e.row
      → length done ≤ i → length gap ≡ slot_words * i - slot_words * length done
      → moved i (length done) (row_of done gap (e ∷ rest) n) ≡ row_of (done ++ (e ∷ [])) (drop slot_words (gap ++ slot_of e)) rest n
  unfolding moved
  moved_row done gap e rest n i v x l g =
      let z = laid rest ++ replicate n 0 in
      let d = laid-length done v in
      let s = slot-length e x in
      let a : row_of done gap (e ∷ rest) n ≡ laid done ++ ((gap ++ slot_of e) ++ z)
      = ap (λ (y : List ℕ). laid done ++ (gap ++ y))
      (ap (λ (y : List ℕ). y ++ replicate n 0) (laid_cons e rest) ∙ append_assoc (slot_of e) (laid rest) (replicate n 0))
      ∙ ap (λ (y : List ℕ). laid done ++ y) (sym (append_assoc gap (slot_of e) z)) in
      let b : laid done ++ ((gap ++ slot_of e) ++ z) ≡ (laid done ++ gap) ++ (slot_of e ++ z)
      = ap (λ (y : List ℕ). laid done ++ y) (append_assoc gap (slot_of e) z) ∙ sym (append_assoc (laid done) gap (slot_of e ++ z)) in
      let p : length (laid done ++ gap) ≡ slot_words * i = length-append (laid done) gap ∙ (omega arith) in
      let q : slot_words ≤ length (gap ++ slot_of e) = let m = length-append gap (slot_of e) in omega arith in
      ap₂ (λ (y u : List ℕ). y ++ u)
      (ap (take (slot_words * length done)) a ∙ take_at (laid done) ((gap ++ slot_of e) ++ z) (slot_words * length done) d)
      (ap₂ (λ (y u : List ℕ). y ++ u)
      (ap (λ (y : List ℕ). take slot_words (drop (slot_words * i) y)) (a ∙ b)
      ∙ ap (take slot_words) (drop_at (laid done ++ gap) (slot_of e ++ z) (slot_words * i) p) ∙ take_at (slot_of e) z slot_words s)
      (ap (drop (slot_words * length done + slot_words)) a
      ∙ sym (drop-drop slot_words (slot_words * length done) (laid done ++ ((gap ++ slot_of e) ++ z)))
      ∙ ap (drop slot_words) (drop_at (laid done) ((gap ++ slot_of e) ++ z) (slot_words * length done) d)
      ∙ drop-append-le slot_words (gap ++ slot_of e) z q))
      ∙ sym (append_assoc (laid done) (slot_of e) (drop slot_words (gap ++ slot_of e) ++ z))
      ∙ ap (λ (y : List ℕ). y ++ (drop slot_words (gap ++ slot_of e) ++ z)) (sym (laid-snoc done e))

  -- the slot after the gap joins it
  joined-row : (done : List Entry) (gap : List ℕ) (e : Entry) (rest : List Entry) (n : ℕ)
      → row_of done gap (e ∷ rest) n ≡ row_of done (gap ++ slot_of e) rest n
  joined-row done gap e rest n =
      ap (λ (y : List ℕ). laid done ++ (gap ++ y))
      (ap (λ (y : List ℕ). y ++ replicate n 0) (laid_cons e rest) ∙ append_assoc (slot_of e) (laid rest) (replicate n 0))
      ∙ ap (λ (y : List ℕ). laid done ++ y) (sym (append_assoc gap (slot_of e) (laid rest ++ replicate n 0)))

  abbrev Goal : List ℕ × ℕ → List Entry → Type 0
  Goal a b = (cleared rows a ≡ slots_of tier b) × (a.1 ≡ length b)

  pub down : (rest done : List Entry) (gap : List ℕ) (n i : ℕ) → AllValid done → AllValid rest
      → length done ≤ i → i + length rest ≡ rows → rows ≤ tier → length gap ≡ slot_words * i - slot_words * length done
      → n ≡ slot_words * tier - slot_words * rows
      → (cleared rows (moved_down f (length rest) i (length done) (row_of done gap rest n)) ≡ slots_of tier (done ++ kept_by f i rest))
      × ((moved_down f (length rest) i (length done) (row_of done gap rest n)).1 ≡ length (done ++ kept_by f i rest))
  unfolding moved_down kept_by
  down [] done gap n i v w l r t g e =
      let i0 : i ≡ rows = omega arith in
      let g' : length gap ≡ slot_words * rows - slot_words * length done = omega arith in
      (nothing_left done gap n v (omega arith) t g' e ∙ ap (slots_of tier) (sym (append-nil done)), ap length (sym (append-nil done)))
  down (x ∷ rest) done gap n i v w l r t g e = go (f i) (joins (down rest)) (moves (down rest))
    where
      joins : ((done : List Entry) (gap : List ℕ) (n i : ℕ) → AllValid done → AllValid rest
          → length done ≤ i → i + length rest ≡ rows → rows ≤ tier → length gap ≡ slot_words * i - slot_words * length done
          → n ≡ slot_words * tier - slot_words * rows
          → Goal (moved_down f (length rest) i (length done) (row_of done gap rest n)) (done ++ kept_by f i rest))
          → Goal (moved_down f (length rest) (suc i) (length done) (row_of done gap (x ∷ rest) n)) (done ++ kept_by f (suc i) rest)
      joins ih =
          let s = slot-length x w.0 in
          let m = length-append gap (slot_of x) in
          subst (λ (y : List ℕ). Goal (moved_down f (length rest) (suc i) (length done) y) (done ++ kept_by f (suc i) rest))
          (sym (joined-row done gap x rest n))
          (ih done (gap ++ slot_of x) n (suc i) v w.1 (omega arith) (omega arith) t (omega arith) e)

      moves : ((done : List Entry) (gap : List ℕ) (n i : ℕ) → AllValid done → AllValid rest
          → length done ≤ i → i + length rest ≡ rows → rows ≤ tier → length gap ≡ slot_words * i - slot_words * length done
          → n ≡ slot_words * tier - slot_words * rows
          → Goal (moved_down f (length rest) i (length done) (row_of done gap rest n)) (done ++ kept_by f i rest))
          → Goal (moved_down f (length rest) (suc i) (suc (length done)) (moved i (length done) (row_of done gap (x ∷ rest) n)))
          (done ++ (x ∷ kept_by f (suc i) rest))
      moves ih =
          let s = slot-length x w.0 in
          let m = length-append gap (slot_of x) in
          let k = length-drop slot_words (gap ++ slot_of x) in
          let o : length (done ++ (x ∷ [])) ≡ suc (length done) = length-append done (x ∷ []) ∙ (omega arith) in
          let u : (done ++ (x ∷ [])) ++ kept_by f (suc i) rest
          ≡ done ++ (x ∷ kept_by f (suc i) rest) = append_assoc done (x ∷ []) (kept_by f (suc i) rest) in
          subst (λ (y : List Entry). Goal
          (moved_down f (length rest) (suc i) (suc (length done)) (moved i (length done) (row_of done gap (x ∷ rest) n))) y) u
          (subst
          (λ (y : List ℕ). Goal (moved_down f (length rest) (suc i) (suc (length done)) y) ((done ++ (x ∷ [])) ++ kept_by f (suc i) rest))
          (sym (moved_row done gap x rest n i v w.0 l g))
          (subst
          (λ (y : ℕ). Goal (moved_down f (length rest) (suc i) y (row_of (done ++ (x ∷ [])) (drop slot_words (gap ++ slot_of x)) rest n))
          ((done ++ (x ∷ [])) ++ kept_by f (suc i) rest)) o
          (ih (done ++ (x ∷ [])) (drop slot_words (gap ++ slot_of x)) n (suc i) (valid-append done (x ∷ []) v (w.0, tt)) w.1 (omega arith)
          (omega arith) t (omega arith) e)))

      go : (b : Bool)
          → Goal (moved_down f (length rest) (suc i) (length done) (row_of done gap (x ∷ rest) n)) (done ++ kept_by f (suc i) rest)
          → Goal (moved_down f (length rest) (suc i) (suc (length done)) (moved i (length done) (row_of done gap (x ∷ rest) n)))
          (done ++ (x ∷ kept_by f (suc i) rest))
          → Goal (elim b as (λ k. List ℕ × ℕ) [
            | true ↦ moved_down f (length rest) (suc i) (length done) (row_of done gap (x ∷ rest) n)
            | false ↦ moved_down f (length rest) (suc i) (suc (length done)) (moved i (length done) (row_of done gap (x ∷ rest) n))
          ])
          (done ++ (elim b as (λ k. List Entry) [ true ↦ kept_by f (suc i) rest | false ↦ x ∷ kept_by f (suc i) rest ]))
      go true p q = p
      go false p q = q

-- ---- one slot, kept or not
pub kept-place : (b : Bool) (to from : ℕ) → to ≤ from → kept_place b to ≤ from + 1
kept-place true to from l = omega arith
kept-place false to from l = omega arith

pub kept-length : (b : Bool) (from to : ℕ) (ws : List ℕ) → to ≤ from → slot_words * from + slot_words ≤ length ws
    → length (kept_words b from to ws) ≡ length ws
kept-length true from to ws l h = refl
kept-length false from to ws l h = moved_length from to ws l h

-- ---- the loop, from a held buffer
pub down_step : (f : ℕ → Bool) (n i to : ℕ) (ws : List ℕ)
    → moved_down f n (i + 1) (kept_place (f i) to) (kept_words (f i) i to ws) ≡ moved_down f (n + 1) i to ws
unfolding moved_down
down_step f n i to ws = rw (add-one n, add-one i) (go (f i))
  where
    go : (b : Bool) → moved_down f n (suc i) (kept_place b to) (kept_words b i to ws)
        ≡ (elim b as (λ k. List ℕ × ℕ) [ true ↦ moved_down f n (suc i) to ws | false ↦ moved_down f n (suc i) (suc to) (moved i to ws) ])
    go true = refl
    go false = ap (λ (m : ℕ). moved_down f n (suc i) m (moved i to ws)) (add-one to)

pub down-none : (f : ℕ → Bool) (i to : ℕ) (ws : List ℕ) → moved_down f 0 i to ws ≡ (ws, to)
unfolding moved_down
down-none f i to ws = refl

pub close-held : {atoms : ℕ} (f : ℕ → Bool) (rows first : ℕ) (ws : List ℕ) → Held atoms rows ws → first < rows
    → (cleared rows (moved_down f (rows - (first + 1)) (first + 1) (first + 1) ws)
    ≡ slots_of (tier_of ws) (closed_up f first (entries_in rows ws)))
    × ((moved_down f (rows - (first + 1)) (first + 1) (first + 1) ws).1 ≡ length (closed_up f first (entries_in rows ws)))
unfolding closed_up slots_of pad
close-held {atoms} f rows first ws k l =
    let h = holding rows ws k in
    let es = entries_in rows ws in
    let n : length es ≡ rows = entries-length rows ws in
    let done : List Entry = take (first + 1) es in
    let rest : List Entry = drop (first + 1) es in
    let a : length done ≡ first + 1 = length-take-le (first + 1) es (omega arith) in
    let b : length rest ≡ rows - (first + 1) = length-drop (first + 1) es ∙ ap (λ (m : ℕ). m - (first + 1)) n in
    let z : ℕ = slot_words * tier_of ws - slot_words * rows in
    let d = laid-length es h.valid in
    let w : ws ≡ laid done ++ ([] ++ (laid rest ++ replicate z 0)) = whole done rest z (take-append-drop (first + 1) es) (omega arith) in
    subst (λ (x : ℕ). Goal f (tier_of ws) rows (moved_down f x (first + 1) (first + 1) ws) (done ++ kept_by f (first + 1) rest)) b
    (subst
    (λ (x : List ℕ). Goal f (tier_of ws) rows (moved_down f (length rest) (first + 1) (first + 1) x) (done ++ kept_by f (first + 1) rest))
    (sym w)
    (subst
    (λ (x : ℕ). Goal f (tier_of ws) rows (moved_down f (length rest) (first + 1) x (laid done ++ ([] ++ (laid rest ++ replicate z 0))))
    (done ++ kept_by f (first + 1) rest)) a
    (down f (tier_of ws) rows rest done [] z (first + 1) (valid-take (first + 1) es h.valid) (valid-drop (first + 1) es h.valid)
    (omega arith) (omega arith) (held-few rows ws k) (omega arith) refl)))
  where
    whole : (done rest : List Entry) (z : ℕ) → done ++ rest ≡ entries_in rows ws
        → slot_words * tier_of ws - length (laid (entries_in rows ws)) ≡ z
        → ws ≡ laid done ++ ([] ++ (laid rest ++ replicate z 0))
    whole done rest z e q =
        sym k.same
        ∙ ap₂ (λ (x : List ℕ) (m : ℕ). x ++ replicate m 0) (ap laid (sym e) ∙ concat-map-append slot_of done rest) q
        ∙ append_assoc (laid done) (laid rest) (replicate z 0)

-- what the loop keeps: what is left to do from here ends as from the start
pub record Down (f : ℕ → Bool) (rows first : ℕ) (old ws : List ℕ) (to i : ℕ) : Type 0 where
  pub behind : to ≤ i
  pub ends : moved_down f (rows - i) i to ws ≡ moved_down f (rows - (first + 1)) (first + 1) (first + 1) old

pub down_turn : (f : ℕ → Bool) (rows first : ℕ) (old ws : List ℕ) (to i : ℕ) (now : List ℕ) (r : ℕ) → Down f rows first old ws to i
    → i < rows → (now ≡ kept_words (f i) i to ws) × (r ≡ kept_place (f i) to) → Down f rows first old now r (i + 1)
down_turn f rows first old ws to i now r d l e =
    let q : (rows - (i + 1)) + 1 ≡ rows - i = omega arith in
    record {
      behind = rw e.1 (kept-place (f i) to i d.behind);
      ends = ap₂ (λ (x : ℕ) (y : List ℕ). moved_down f (rows - (i + 1)) (i + 1) x y) e.1 e.0
          ∙ down_step f (rows - (i + 1)) i to ws ∙ ap (λ (x : ℕ). moved_down f x i to ws) q ∙ d.ends;
    }

pub down-end : {atoms : ℕ} (f : ℕ → Bool) (rows first : ℕ) (old ws : List ℕ) (to i : ℕ) (z : List ℕ) → Held atoms rows old → first < rows
    → length ws ≡ length old → Down f rows first old ws to i → i ≡ rows
    → z ≡ zeroed (mid_of (slot_words * to) (slot_words * rows - slot_words * to) ws)
    → (put_mid (slot_words * to) (slot_words * rows - slot_words * to) ws z
    ≡ slots_of (tier_of old) (closed_up f first (entries_in rows old)))
    × (to ≡ length (closed_up f first (entries_in rows old)))
unfolding zeroed
down-end {atoms} f rows first old ws to i z k l n d h e =
    let t = d.behind in
    let m = k.over.long in
    let s : rows - i ≡ 0 = omega arith in
    let r : moved_down f (rows - (first + 1)) (first + 1) (first + 1) old
    ≡ (ws, to) = sym d.ends ∙ ap (λ (x : ℕ). moved_down f x i to ws) s ∙ down-none f i to ws in
    let c = close-held f rows first old k l in
    let len : length (mid_of (slot_words * to) (slot_words * rows - slot_words * to) ws)
    ≡ slot_words * rows - slot_words * to = mid_len (slot_words * to) (slot_words * rows) ws (omega arith) in (
      ap₂ (λ (x y : List ℕ). take (slot_words * to) ws ++ (x ++ y)) (e ∙ ap (λ (x : ℕ). replicate x 0) len)
          (Post-is (slot_words * to) (slot_words * rows) ws (omega arith))
          ∙ ap (cleared rows) (sym r) ∙ c.0,
      ap (λ (x : List ℕ × ℕ). x.1) (sym r) ∙ c.1,
    )
