-- Words written part by part, and a proposal so written. Assumes nothing.
use mathlib.Core.Path.{◌≡◌, sym, ◌∙◌, ap, ap₂}
use mathlib.Core.Bool.{true}
use mathlib.Core.List.{List, ◌∷◌, ◌++◌, append_assoc, append-nil}
use Prim.Native.Nat.{ℕ, suc, ◌+◌, ◌-◌, ◌≤◌}
use native.Mathlib.Omega.{arith}
use lib.ListN.{length, take, drop, replicate, length-append, length-drop}
use lib.Seq.{drop-drop, drop-length, take_all, take_at, drop_at, length-take-le}
use borrow.Rule.Slice.PartMut.{put_mid, mid_of, Post-is}
use Rattle.lists.specs.Lists.{pad, put}
use Rattle.lists.proofs.Puts.{length-put}
use Rattle.lists.proofs.Pads.{drop-zeros}
use Rattle.meter.specs.declared.Meter.{Meter}
use Rattle.meter.specs.declared.Account.{Account}
use Rattle.meter.specs.Judged.{Judged}
use Rattle.meter.specs.Meter.{pay, judged}
use Rattle.model.specs.Records.{Row, literals, slot_words, max_conditions, max_outputs, body_at, body_words}
use Rattle.slots.specs.Layout.{proposal, row_of}
use Rattle.row_propose.specs.Parts.{blank_of}
use Rattle.meter.proofs.Payments.{on_yes, ask-both}

-- ---- a lent part comes back
pub mid-all : (a : ℕ) (ws : List ℕ) → mid_of a (length ws - a) ws ≡ drop a ws
mid-all a ws = take_all (length ws - a) (drop a ws) (omega (arith, length-drop a ws))

pub mid-long : (a : ℕ) (ws : List ℕ) → length (mid_of a (length ws - a) ws) ≡ length ws - a
mid-long a ws = ap length (mid-all a ws) ∙ length-drop a ws

pub put-tail : (a : ℕ) (ws ys : List ℕ) → a ≤ length ws → put_mid a (length ws - a) ws ys ≡ take a ws ++ ys
put-tail a ws ys h =
    ap (λ (z : List ℕ). take a ws ++ (ys ++ z)) (Post-is a (length ws) ws h ∙ drop-length ws)
    ∙ ap (λ (z : List ℕ). take a ws ++ z) (append-nil ys)

-- xs at the front of the words from a on
pub put-part : (a : ℕ) (xs ws : List ℕ) {ys : List ℕ} → a ≤ length ws
    → ys ≡ put 0 xs (mid_of a (length ws - a) ws) → put_mid a (length ws - a) ws ys ≡ put a xs ws
put-part a xs ws {ys} h e =
    put-tail a ws ys h ∙ ap (λ (z : List ℕ). take a ws ++ z) (e ∙ ap (λ (z : List ℕ). xs ++ drop (length xs) z) (mid-all a ws))

-- one run after another
pub put_next : (a : ℕ) (xs ys ws : List ℕ) → a + length xs ≤ length ws
    → put (a + length xs) ys (put a xs ws) ≡ put a (xs ++ ys) ws
put_next a xs ys ws h =
    let n : a ≤ length ws = omega arith in
    let l : length (take a ws ++ xs)
    ≡ a + length xs = length-append (take a ws) xs ∙ ap (λ (k : ℕ). k + length xs) (length-take-le a ws n) in
    let b : put a xs ws ≡ (take a ws ++ xs)
    ++ drop (length xs) (drop a ws) = sym (append_assoc (take a ws) xs (drop (length xs) (drop a ws))) in
    let m : length (xs ++ ys) ≡ length xs + length ys = length-append xs ys in
    ap₂ (λ (p q : List ℕ). p ++ (ys ++ drop (length ys) q))
    (ap (take (a + length xs)) b ∙ take_at (take a ws ++ xs) (drop (length xs) (drop a ws)) (a + length xs) l)
    (ap (drop (a + length xs)) b ∙ drop_at (take a ws ++ xs) (drop (length xs) (drop a ws)) (a + length xs) l)
    ∙ ap (λ (q : List ℕ). (take a ws ++ xs) ++ (ys ++ q))
    (drop-drop (length ys) (length xs) (drop a ws) ∙ ap (λ (k : ℕ). drop k (drop a ws)) (sym m))
    ∙ append_assoc (take a ws) xs (ys ++ drop (length (xs ++ ys)) (drop a ws))
    ∙ ap (λ (q : List ℕ). take a ws ++ q) (sym (append_assoc xs ys (drop (length (xs ++ ys)) (drop a ws))))

-- ---- a proposal
abbrev pub zeros : ℕ → List ℕ
zeros n = replicate n 0

pub put-proposal : (cs os : List ℕ) → put body_at (cs ++ os) (blank_of (length cs) (length os)) ≡ proposal (row_of cs os)
unfolding proposal pad
put-proposal cs os =
    let k : ℕ = length (cs ++ os) in
    let n : suc body_words - k ≡ slot_words - suc (suc (suc (suc (suc (suc (suc (suc k))))))) = omega arith in
    ap (λ (z : List ℕ). length cs ∷ length os ∷ 0 ∷ 0 ∷ 0 ∷ 0 ∷ 0 ∷ 0 ∷ ((cs ++ os) ++ z)) (drop-zeros (suc body_words) k ∙ ap zeros n)

-- the counts, then the conditions, then the outputs
module _ (ws x cs os : List ℕ) (at : ℕ) (few : length cs ≤ max_conditions) (many : length os ≤ max_outputs)
    (b : ws ≡ blank_of (length cs) (length os)) (e : at ≡ body_at + length cs)
    (f : x ≡ put 0 cs (mid_of body_at (length ws - body_at) ws)) where
  abbrev half : List ℕ
  half = put_mid body_at (length ws - body_at) ws x

  blank-long : length ws ≡ slot_words
  blank-long = ap length b

  half_is : half ≡ put body_at cs ws
  half_is = put-part body_at cs ws (omega (arith, blank-long)) f

  half-long : length half ≡ slot_words
  half-long = ap length half_is ∙ length-put body_at cs ws (omega (arith, blank-long)) ∙ blank-long

  -- there is room for the outputs
  pub second_fits : length os ≤ length (mid_of at (length half - at) half)
  second_fits = omega (arith, mid-long at half, half-long)

  pub two-parts : {y l : List ℕ} → l ≡ os → y ≡ put 0 l (mid_of at (length half - at) half)
      → put_mid at (length half - at) half y ≡ proposal (row_of cs os)
  two-parts d g =
      put-part at os half (omega (arith, half-long)) (g ∙ ap (λ (q : List ℕ). put 0 q (mid_of at (length half - at) half)) d)
      ∙ ap₂ (λ (k : ℕ) (z : List ℕ). put k os z) e half_is
      ∙ put_next body_at cs os ws (omega (arith, blank-long))
      ∙ ap (put body_at (cs ++ os)) b ∙ put-proposal cs os

-- the reads of a row's literals, side after side
pub literals-both : (r : Row) (a : Account) (m : Meter)
    → let i : Judged = judged true (pay (length r.conditions) a m) in
    on_yes i.verdict i (judged true (pay (length r.outputs) i.account i.meter)) ≡ judged true (pay (literals r) a m)
unfolding literals
literals-both r a m = ask-both true true (length r.conditions) (length r.outputs) a m
