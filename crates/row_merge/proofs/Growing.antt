-- A proposal that grows, and one that stays as it was. Assumes nothing.
use mathlib.Core.Path.{◌≡◌, refl, sym, ◌∙◌, ap, ap₂, subst}
use mathlib.Core.Bool.{false}
use mathlib.Core.List.{List, ◌++◌}
use Prim.Native.Nat.{ℕ, ◌+◌, ◌-◌, ◌≤◌}
use native.Mathlib.Nat.{sub-zero}
use native.Mathlib.Omega.{arith}
use lib.ListN.{length, get_or, take, drop, set, length-set}
use lib.Seq.{take_at, take-append-le, drop_at, drop-append-add, drop-drop, length-take-le}
use borrow.Rule.Slice.PartMut.{put_mid, mid_of, post_of, mid_len}
use Rattle.lists.specs.Lists.{put}
use Rattle.lists.proofs.Puts.{length-put}
use Rattle.meter.specs.declared.Meter.{Meter}
use Rattle.meter.specs.declared.Account.{Account}
use Rattle.meter.specs.Judged.{Judged}
use Rattle.meter.specs.Verdict.{Verdict}
use Rattle.meter.specs.Verdict as verdict
use Rattle.meter.specs.Meter.{pay, judged}
use Rattle.meter.proofs.Laws.{pay-none}
use Rattle.model.specs.Records.{Row, slot_words, max_conditions, max_outputs, conditions_at, outputs_at, body_at}
use Rattle.model.specs.Union.{union, grown}
use Rattle.model.specs.Slots.{row_in}
use Rattle.slots.specs.declared.Side.{Side}
use Rattle.slots.specs.Cursor.{Sound, list_of}
use Rattle.slots.specs.Layout.{Laid, output_side, proposal, row_of}
use Rattle.row_propose.specs.Parts.{blank_of}
use Rattle.row_propose.specs.Proposed.{Proposed}
use Rattle.row_propose.proofs.Parts.{put-part, put_next, put-proposal, mid-long}
use Rattle.row_propose.proofs.Proposing.{proposed-laid, proposed-long, proposed-conditions, outputs-at}
use Rattle.row_merge.specs.Merge.{if_yes}
use Rattle.row_merge.proofs.Union.{union-long, union-same}

-- ---- where the words change
pub kept-no : (a : Account) (m : Meter) (new old : List ℕ) {i : Judged} → i ≡ judged false (pay 0 a m) → old ≡ if_yes i.verdict new old
kept-no a m new old e = sym (ap (λ (j : Judged). if_yes j.verdict new old) (e ∙ ap (judged false) (pay-none a m)))

pub kept-not : (v : Verdict) (new old : List ℕ) → (v ≡ verdict.Yes → ⊥) → old ≡ if_yes v new old
kept-not verdict.Yes new old n = absurd (n refl)
kept-not verdict.No new old n = refl
kept-not verdict.Declined new old n = refl
kept-not verdict.Stopped new old n = refl

pub changed-yes : (v : Verdict) (new old : List ℕ) → v ≡ verdict.Yes → new ≡ if_yes v new old
changed-yes v new old e = sym (ap (λ (w : Verdict). if_yes w new old) e)

-- ---- how long a proposal's words are, and how many conditions and outputs they say
pub proposed_sizes : (ws : List ℕ) → Proposed ws
    → (length ws ≡ slot_words) × (get_or ws conditions_at 0 ≤ max_conditions) × (get_or ws outputs_at 0 ≤ max_outputs)
proposed_sizes ws p = let l = proposed-laid ws p in (l.long, l.counted.few, l.counted.most)

-- ---- the outputs of a proposal written over by at least as many
put-over : (i : ℕ) (xs ys ws : List ℕ) → i ≤ length ws → length xs ≤ length ys → put i ys (put i xs ws) ≡ put i ys ws
put-over i xs ys ws h l =
    let n : length (take i ws) ≡ i = length-take-le i ws h in
    let s : length ys ≡ length xs + (length ys - length xs) = omega arith in
    let d : drop (length ys) (xs ++ drop (length xs) (drop i ws)) ≡ drop (length ys) (drop i ws)
    = ap (λ (k : ℕ). drop k (xs ++ drop (length xs) (drop i ws))) s
    ∙ drop-append-add xs (drop (length xs) (drop i ws)) (length ys - length xs)
    ∙ drop-drop (length ys - length xs) (length xs) (drop i ws) ∙ ap (λ (k : ℕ). drop k (drop i ws)) (sym s) in
    ap₂ (λ (p q : List ℕ). p ++ (ys ++ drop (length ys) q)) (take_at (take i ws) (xs ++ drop (length xs) (drop i ws)) i n)
    (drop_at (take i ws) (xs ++ drop (length xs) (drop i ws)) i n)
    ∙ ap (λ (q : List ℕ). take i ws ++ (ys ++ q)) d

module _ (ws us : List ℕ) (p : Proposed ws) (more : length (row_in ws).outputs ≤ length us) where
  abbrev cs : List ℕ
  cs = (row_in ws).conditions

  abbrev os : List ℕ
  os = (row_in ws).outputs

  abbrev at : ℕ
  at = body_at + get_or ws conditions_at 0

  -- the proposal with its new count
  abbrev counted : List ℕ
  counted = set ws 1 (length us)

  place : at ≡ body_at + length cs
  place = omega (arith, proposed-conditions ws p)

  pub grow-fits : (at ≤ body_at + max_conditions) × (length counted ≡ slot_words)
  grow-fits = let f = p.few in (omega (arith, place), length-set ws 1 (length us) ∙ proposed-long ws p)

  -- there is room for the new outputs
  pub grow-room : length us ≤ max_outputs → length us ≤ length (mid_of at (length counted - at) counted)
  grow-room h = omega (arith, mid-long at counted, grow-fits.0, grow-fits.1)

  written : counted ≡ put at os (put body_at cs (blank_of (length cs) (length us)))
  written =
      let f = p.few in
      ap (λ (l : List ℕ). set l 1 (length us)) (sym p.form ∙ sym (put-proposal cs os))
      ∙ sym (put_next body_at cs os (blank_of (length cs) (length us)) (omega arith))
      ∙ ap (λ (k : ℕ). put k os (put body_at cs (blank_of (length cs) (length us)))) (sym place)

  pub grow-is : {y : List ℕ} → y ≡ put 0 us (mid_of at (length counted - at) counted)
      → put_mid at (length counted - at) counted y ≡ proposal (row_of cs us)
  grow-is g =
      let f = p.few in
      let n : at ≤ length counted = omega (arith, grow-fits.0, grow-fits.1) in
      let b : List ℕ = blank_of (length cs) (length us) in
      let h : at ≤ length (put body_at cs b) = omega (arith, place, length-put body_at cs b (omega arith)) in
      put-part at us counted n g ∙ ap (put at us) written ∙ put-over at os us (put body_at cs b) h more
      ∙ ap (λ (k : ℕ). put k us (put body_at cs b)) place ∙ put_next body_at cs us b (omega arith) ∙ put-proposal cs us

-- ---- the union of the outputs of a slot and a proposal
module _ (ws ps : List ℕ) (w : Laid ws) (p : Proposed ps) {ro : Side} (e : ro ≡ output_side ws) where
  pub sound-left : Sound ws ro
  sound-left = subst (Sound ws) (sym e) w.second

  -- the union of the side with the part of the proposal is that of the rows
  pub sides-union : union (list_of ws ro)
      (mid_of (body_at + get_or ps conditions_at 0)
      (body_at + get_or ps conditions_at 0 + get_or ps outputs_at 0 - (body_at + get_or ps conditions_at 0)) ps)
      ≡ (grown (row_in ws) (row_in ps)).outputs
  unfolding grown
  sides-union =
      let n : body_at + get_or ps conditions_at 0 + get_or ps outputs_at 0 - (body_at + get_or ps conditions_at 0) ≡ get_or ps outputs_at 0
      = omega arith in
      ap₂ union (ap (list_of ws) e ∙ w.outputs) (ap (λ (k : ℕ). mid_of (body_at + get_or ps conditions_at 0) k ps) n ∙ outputs-at ps p)

-- a part at the front of a list
pub front_long : (n : ℕ) (zs : List ℕ) → n ≤ length zs → length (mid_of 0 (n - 0) zs) ≡ n
front_long n zs h = mid_len 0 n zs h ∙ sub-zero n

-- and of one that was lent from there and came back as ys
pub front_of : (n k : ℕ) (zs ys : List ℕ) → n ≤ length ys → mid_of 0 (n - 0) (put_mid 0 k zs ys) ≡ take n ys
front_of n k zs ys h = ap (λ (q : ℕ). take q (put_mid 0 k zs ys)) (sub-zero n) ∙ take-append-le n ys (post_of 0 k zs) h

pub grown-long : (r p : Row) → length p.outputs ≤ length (grown r p).outputs
unfolding grown
grown-long r p = union-long r.outputs p.outputs

-- the proposal's conditions with the union are the proposal grown
pub grown-by : (r p : Row) {l : List ℕ} → l ≡ (grown r p).outputs → proposal (row_of p.conditions l) ≡ proposal (grown r p)
unfolding grown
grown-by r p e = ap (λ (q : List ℕ). proposal (row_of p.conditions q)) e

-- a union as long as the proposal's own outputs is these
pub grown-same : (r : Row) (ws : List ℕ) → Proposed ws → length (grown r (row_in ws)).outputs ≡ length (row_in ws).outputs
    → ws ≡ proposal (grown r (row_in ws))
unfolding grown
grown-same r ws p e = sym p.form ∙ grown-by r (row_in ws) (sym (union-same r.outputs (row_in ws).outputs e))
