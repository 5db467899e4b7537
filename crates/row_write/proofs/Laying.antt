-- The body of a row in either form, and the slot around it. Assumes nothing.
use mathlib.Core.Path.{◌≡◌, sym, ap, ap₂, ◌∙◌}
use mathlib.Core.Bool.{true, false}
use mathlib.Core.List.{List, [], ◌∷◌, ◌++◌, append_assoc}
use Prim.Native.Nat.{ℕ, suc, ◌+◌, ◌-◌, ◌*◌, ◌≤◌, zero-le}
use native.Mathlib.Omega.{arith}
use lib.ListN.{length, get_or, set, take, drop, replicate, length-append, length-replicate, length-drop, drop_of_length-le}
use lib.Seq.{length-take-le, take_at, drop_at, drop-drop, drop-cons, set_at}
use borrow.Rule.Slice.PartMut.{put_mid, mid_of}
use Rattle.lists.specs.Lists.{pad, zeroed}
use Rattle.lists.proofs.Pads.{put-at, shorter-pad, length-pad, drop-zeros, take-zeros}
use Rattle.lists.proofs.Bools.{T_of}
use Rattle.model.specs.declared.Source.{Source}
use Rattle.model.specs.Records.{Row, slot_words, conditions_at, outputs_at, body_at, group_length, body_words, source_at, source_word}
use Rattle.model.specs.Rows.{groups, group_count, packed}
use Rattle.model.specs.Slots.{body, flag, slot_of, row_in, packs}
use Rattle.model.proofs.Packing.{words-length}
use Rattle.model.proofs.Slots.{packed_lt, body-scalar, body-packed, body-fits}
use Rattle.slots.specs.Layout.{proposal}
use Rattle.row_propose.specs.Proposed.{Proposed}
use Rattle.row_propose.proofs.Proposing.{proposed-long, proposed-conditions, proposed-outputs}
use Rattle.row_write.specs.declared.Form.{Form}
use Rattle.row_write.specs.Forms.{form_of, new_entry, head_of}
use Rattle.row_write.proofs.Forms.{form-packed}
use Rattle.row_write.proofs.Proposal.{first_part, second-part}

-- ---- the body, once it is known whether the row is packed
-- scalar: what stands in a proposal from the body on, up to the source
proposal-rest : (r : Row) → drop body_at (proposal r) ≡ pad (suc body_words) (r.conditions ++ r.outputs)
unfolding proposal pad
proposal-rest r =
    let k : ℕ = length (r.conditions ++ r.outputs) in
    let n : slot_words - suc (suc (suc (suc (suc (suc (suc (suc k))))))) ≡ suc body_words - k = omega arith in
    ap (λ (m : ℕ). (r.conditions ++ r.outputs) ++ replicate m 0) n

pub scalar-long : (ws : List ℕ) → Proposed ws → length (take (source_at - body_at) (drop body_at ws)) ≡ body_words
scalar-long ws p = length-take-le body_words (drop body_at ws) (omega (arith, length-drop body_at ws, proposed-long ws p))

pub scalar-words : (ws : List ℕ) → Proposed ws → packed (row_in ws) ≡ false
    → take (source_at - body_at) (drop body_at ws) ≡ pad body_words (body (row_in ws))
scalar-words ws p e =
    let r : Row = row_in ws in
    let few = p.few in
    let many = p.many in
    ap (λ (l : List ℕ). take body_words (drop body_at l)) (sym p.form) ∙ ap (take body_words) (proposal-rest r)
    ∙ shorter-pad body_words (suc body_words) (r.conditions ++ r.outputs) (omega (arith, length-append r.conditions r.outputs))
    (omega arith)
    ∙ ap (pad body_words) (sym (body-scalar r e))

-- ---- the slot: eight words, then the body, then the source
new-slot : (r : Row) (hits born : ℕ) (source : Source)
    → head_of (length r.conditions) (length r.outputs) (form_of r) hits born ++ (pad body_words (body r) ++ (source_word source ∷ []))
    ≡ slot_of (new_entry r hits born source)
unfolding slot_of pad flag
new-slot r hits born source =
    let k : ℕ = length (body r) in
    let n : body_words - k ≡ source_at - suc (suc (suc (suc (suc (suc (suc (suc k))))))) = omega arith in
    ap (λ (m : ℕ). head_of (length r.conditions) (length r.outputs) (form_of r) hits born
    ++ ((body r ++ replicate m 0) ++ (source_word source ∷ []))) n

-- ---- a buffer whose two parts, up to a and from a to e, were lent in turn
one-part : (a : ℕ) (ws xs : List ℕ) → put_mid 0 (a - 0) ws xs ≡ xs ++ drop a ws
one-part a ws xs = put-at 0 a ws xs zero-le

pub two-parts : (a e : ℕ) (ws xs ys : List ℕ) → length xs ≡ a → a ≤ e
    → put_mid a (e - a) (put_mid 0 (a - 0) ws xs) ys ≡ xs ++ (ys ++ drop e ws)
two-parts a e ws xs ys l h =
    let n : a + (e - a) ≡ e = omega arith in
    let past : drop e (xs ++ drop a ws) ≡ drop e ws
    = ap (λ (k : ℕ). drop k (xs ++ drop a ws)) (sym n) ∙ sym (drop-drop (e - a) a (xs ++ drop a ws))
    ∙ ap (drop (e - a)) (drop_at xs (drop a ws) a l) ∙ drop-drop (e - a) a ws ∙ ap (λ (k : ℕ). drop k ws) n in
    ap (λ (half : List ℕ). put_mid a (e - a) half ys) (one-part a ws xs)
    ∙ put-at a e (xs ++ drop a ws) ys h
    ∙ ap₂ (λ (p q : List ℕ). p ++ (ys ++ q)) (take_at xs (drop a ws) a l) past

zero-part : (a e n : ℕ) → a ≤ e → e ≤ n → ◌≡◌ {A = List ℕ} (take (e - a) (drop a (replicate n 0))) (replicate (e - a) 0)
zero-part a e n h k =
    let l : e - a ≤ n - a = omega arith in ap (take (e - a)) (drop-zeros n a) ∙ take-zeros (n - a) (e - a) l

pub zeroed-is : (xs : List ℕ) (n : ℕ) → length xs ≡ n → zeroed xs ≡ replicate n 0
unfolding zeroed
zeroed-is xs n e = ap (λ (k : ℕ). replicate k 0) e

-- ---- a packed body: the parts are zeros as many as the groups take, and become the groups
abbrev Ready : List ℕ → List ℕ → Type 0
Ready part codes = (length part ≡ group_length * length (groups codes)) × ((length part ≤ slot_words) × (part ≡ zeroed part))

ready : (part codes list : List ℕ) (k : ℕ) → part ≡ replicate k 0 → codes ≡ list → k ≡ group_length * length (groups list) → k ≤ slot_words
    → Ready part codes
ready part codes list k z e l h =
    let n : length part ≡ k = ap length z ∙ length-replicate {A = ℕ} k 0 in (
      n ∙ l ∙ ap (λ (cs : List ℕ). group_length * length (groups cs)) (sym e),
      (omega arith, z ∙ sym (zeroed-is part k n)),
    )

-- where the groups of a packed row stand
pub record Placed (r : Row) (form : Form) : Type 0 where
  pub chosen : packed r ≡ true
  pub first : form.first ≡ length (groups r.conditions)
  pub total : form.total ≡ form.first + length (groups r.outputs)
  pub fits : group_length * form.total ≤ body_words

pub placed : {ws : List ℕ} {form : Form} → Proposed ws → form ≡ form_of (row_in ws) → packed (row_in ws) ≡ true → Placed (row_in ws) form
unfolding group_count
placed {ws} {form} p e k =
    let r : Row = row_in ws in
    let f : form.first ≡ length (groups r.conditions) = ap (λ (g : Form). g.first) (e ∙ form-packed r k) in
    let t : form.total ≡ length (groups r.conditions)
    + length (groups r.outputs) = ap (λ (g : Form). g.total) (e ∙ form-packed r k) in
    let few = p.few in
    let many = p.many in
    record { chosen = k; first = f; total = omega arith; fits = omega (arith, packed_lt r (T_of k)) }

module _ {ws z : List ℕ} {form : Form} (p : Proposed ws) (q : Placed (row_in ws) form) (zeros : z ≡ replicate body_words 0) where
  abbrev r : Row
  r = row_in ws

  abbrev n : ℕ
  n = body_at + get_or ws conditions_at 0

  abbrev cs : List ℕ
  cs = take (n - body_at) (drop body_at ws)

  abbrev os : List ℕ
  os = take (n + get_or ws outputs_at 0 - n) (drop n ws)

  abbrev a : ℕ
  a = group_length * form.first

  abbrev e : ℕ
  e = group_length * form.total

  order : a ≤ e
  order = let f = q.total in omega arith

  pub ready-first : Ready (mid_of 0 (a - 0) z) cs
  ready-first =
      let m : a - 0 ≡ a = omega arith in
      let f = q.fits in
      ready (mid_of 0 (a - 0) z) cs r.conditions a
      (ap (λ (l : List ℕ). take (a - 0) l) zeros ∙ zero-part 0 a body_words zero-le (omega (arith, order)) ∙ ap (λ (i : ℕ). replicate i 0) m)
      (first_part p) (ap (λ (i : ℕ). group_length * i) q.first) (omega (arith, order))

  module _ {x : List ℕ} (ex : x ≡ packs cs) where
    abbrev half : List ℕ
    half = put_mid 0 (a - 0) z x

    x-long : length x ≡ a
    x-long =
        ap length (ex ∙ ap packs (first_part p)) ∙ words-length (groups r.conditions) ∙ ap (λ (i : ℕ). group_length * i) (sym q.first)

    pub half-long : length half ≡ body_words
    half-long =
        let f = q.fits in
        omega (arith, order, ap length (one-part a z x), length-append x (drop a z), length-drop a z, x-long, ap length zeros)

    pub ready-second : Ready (mid_of a (e - a) half) os
    ready-second =
        let f = q.fits in
        let t = q.total in
        ready (mid_of a (e - a) half) os r.outputs (e - a)
        (ap (λ (l : List ℕ). take (e - a) (drop a l)) (one-part a z x)
        ∙ ap (take (e - a)) (drop_at x (drop a z) a x-long)
        ∙ ap (λ (l : List ℕ). take (e - a) (drop a l)) zeros ∙ zero-part a e body_words order q.fits)
        (second-part p) (omega arith) (omega arith)

    pub packed-words : {y : List ℕ} → y ≡ packs os → put_mid a (e - a) half y ≡ pad body_words (body r)
    unfolding pad
    packed-words {y} ey =
        let X : List ℕ = packs r.conditions in
        let Y : List ℕ = packs r.outputs in
        let m : body_words - e ≡ body_words - length (X ++ Y)
        = omega (arith, length-append X Y, words-length (groups r.conditions), words-length (groups r.outputs), q.first, q.total) in
        two-parts a e z x y x-long order
        ∙ ap₂ (λ (u v : List ℕ). u ++ (v ++ drop e z)) (ex ∙ ap packs (first_part p)) (ey ∙ ap packs (second-part p))
        ∙ ap (λ (l : List ℕ). X ++ (Y ++ l)) (ap (drop e) zeros ∙ drop-zeros body_words e ∙ ap (λ (i : ℕ). replicate i 0) m)
        ∙ sym (append_assoc X Y (replicate (body_words - length (X ++ Y)) 0))
        ∙ ap (pad body_words) (sym (body-packed r q.chosen))

-- ---- the whole slot
module _ (slot h b ws : List ℕ) (form : Form) (hits born w : ℕ) (source : Source) (l : length slot ≡ slot_words) (p : Proposed ws)
    (f : form ≡ form_of (row_in ws)) (eh : h ≡ head_of (get_or ws conditions_at 0) (get_or ws outputs_at 0) form hits born)
    (eb : b ≡ pad body_words (body (row_in ws))) (ew : w ≡ source_word source) where
  abbrev row : Row
  row = row_in ws

  body-long : length b ≡ body_words
  body-long = ap length eb ∙ length-pad body_words (body row) (body-fits row p.few p.many)

  -- the word that was the source's
  abbrev old : ℕ
  old = get_or slot source_at 0

  both_long : length (h ++ b) ≡ source_at
  both_long = let a = length-append h b in let x = ap length eh in let y = body-long in omega arith

  last_word : drop source_at slot ≡ old ∷ []
  last_word =
      drop-cons slot source_at 0 (omega arith)
      ∙ ap (λ (z : List ℕ). old ∷ z) (let n : length slot ≤ suc source_at = omega arith in drop_of_length-le slot n)

  abbrev written : List ℕ
  written = set (put_mid body_at body_words (put_mid 0 body_at slot h) b) source_at w

  words_are : written ≡ (h ++ b) ++ (w ∷ [])
  words_are =
      let le : body_at ≤ source_at = omega arith in
      ap (λ (z : List ℕ). set z source_at w)
      (two-parts body_at source_at slot h b (ap length eh) le ∙ ap (λ (q : List ℕ). h ++ (b ++ q)) last_word
      ∙ sym (append_assoc h b (old ∷ [])))
      ∙ set_at (h ++ b) old [] w source_at both_long

  pub slot-long : length written ≡ length slot
  slot-long =
      let a : length written ≡ length ((h ++ b) ++ (w ∷ [])) = ap length words_are in
      let c = length-append (h ++ b) (w ∷ []) in
      let d = both_long in
      omega arith

  pub slot-words : written ≡ slot_of (new_entry row hits born source)
  slot-words =
      words_are ∙ append_assoc h b (w ∷ [])
      ∙ ap₂ (λ (u v : List ℕ). u ++ v)
      (eh
      ∙ ap₂ (λ (i j : ℕ). head_of i j form hits born) (proposed-conditions ws p) (proposed-outputs ws p)
      ∙ ap (λ (g : Form). head_of (length row.conditions) (length row.outputs) g hits born) f)
      (ap₂ (λ (u : List ℕ) (v : ℕ). u ++ (v ∷ [])) eb ew)
      ∙ new-slot row hits born source
