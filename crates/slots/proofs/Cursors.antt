-- Each step of the cursor gives the head of what is left, and leaves the tail. Assumes nothing.
use mathlib.Core.Path.{◌≡◌, sym, ap, ap₂, ◌∙◌}
use mathlib.Core.Bool.{Bool, true, false}
use mathlib.Core.List.{List, [], ◌∷◌, ◌++◌}
use Prim.Native.Nat.{ℕ, suc, ◌+◌, ◌-◌, ◌*◌, ◌≤◌, ◌<◌}
use native.Mathlib.Omega.{arith}
use Rattle.std.specs.Prelude.{Some}
use lib.Bits.{bit_or}
use lib.ListN.{length, get_or, take, drop}
use lib.Seq.{drop-cons}
use Rattle.lists.proofs.Concats.{drop-three}
use Rattle.model.specs.Records.{group_length}
use Rattle.model.specs.Slots.{codes_of, ungroup}
use Rattle.slots.specs.declared.Side.{Side}
use Rattle.slots.specs.declared.Cursor.{Cursor}
use Rattle.slots.specs.Cursor.{literals_at, word_at, pend, rest, given, Placed, PlacedStep, TakenFrom}
use Rattle.slots.proofs.Codes.{codes-none}

-- ---- the codes or groups from a word on, one by one
pub literals-none : (b : Bool) (ws : List ℕ) (at n : ℕ) → n ≡ 0 → literals_at b ws at n ≡ []
unfolding literals_at ungroup
literals-none false ws at n e = ap (λ (k : ℕ). take k (drop at ws)) e
literals-none true ws at n e = ap (λ (k : ℕ). ungroup (take (group_length * k) (drop at ws))) e

-- the first code
pub literals-code : (ws : List ℕ) (at n : ℕ) → at < length ws
    → literals_at false ws at (suc n) ≡ get_or ws at 0 ∷ literals_at false ws (at + 1) n
unfolding literals_at
literals-code ws at n h =
    let e : suc at ≡ at + 1 = omega arith in
    ap (take (suc n)) (drop-cons ws at 0 h) ∙ ap (λ (k : ℕ). get_or ws at 0 ∷ take n (drop k ws)) e

pub literals-group : (ws : List ℕ) (at n : ℕ) → at + group_length ≤ length ws
    → literals_at true ws at (suc n)
    ≡ codes_of (get_or ws at 0) (get_or ws (at + 1) 0) (get_or ws (at + 2) 0) ++ literals_at true ws (at + group_length) n
unfolding literals_at ungroup
literals-group ws at n h =
    let m : group_length * suc n ≡ suc (suc (suc (group_length * n))) = omega arith in
    ap₂ (λ (k : ℕ) (l : List ℕ). ungroup (take k l)) m (drop-three ws at h)

-- ---- the cursor's steps
module _ (ws : List ℕ) (s : Side) (c : Cursor) where
  -- a literal of the group that was begun
  pub rest-taken : (r : ℕ × Cursor) → TakenFrom c r → given ws s (Some r) ≡ rest ws s c
  unfolding rest
  rest-taken (k, d) t =
      ap (λ (n : ℕ). k ∷ (pend d ++ literals_at s.packed ws (word_at s.packed s.base n) (s.count - n))) t.0
      ∙ ap (λ (l : List ℕ). l ++ literals_at s.packed ws (word_at s.packed s.base c.next) (s.count - c.next)) (sym t.2)

  pub placed-taken : (r : ℕ × Cursor) → TakenFrom c r → Placed s c → PlacedStep s (Some r)
  placed-taken (k, d) t p = (omega arith, omega arith)

  module _ (none : bit_or c.absent c.present ≡ 0) where
    -- no group is begun
    rest-none : rest ws s c ≡ literals_at s.packed ws (word_at s.packed s.base c.next) (s.count - c.next)
    unfolding rest
    rest-none =
        ap (λ (l : List ℕ). l ++ literals_at s.packed ws (word_at s.packed s.base c.next) (s.count - c.next))
        (codes-none c.word c.present c.absent none)

    pub rest_end : s.count ≤ c.next → rest ws s c ≡ []
    rest_end h =
        rest-none ∙ literals-none s.packed ws (word_at s.packed s.base c.next) (s.count - c.next) (omega arith)

    -- the cursor with the next group begun
    abbrev pub loaded : Cursor
    loaded = record {
      next = c.next + 1;
      word = get_or ws (s.base + group_length * c.next) 0;
      present = get_or ws (s.base + group_length * c.next + 1) 0;
      absent = get_or ws (s.base + group_length * c.next + 2) 0;
    }

    -- the cursor past one code
    abbrev pub passed : Cursor
    passed = record { next = c.next + 1; word = c.word; present = c.present; absent = c.absent }

    module _ (more : c.next < s.count) where
      fewer : s.count - c.next ≡ suc (s.count - (c.next + 1))
      fewer = omega arith

      pub rest-load : s.packed ≡ true → s.base + group_length * s.count ≤ length ws → rest ws s loaded ≡ rest ws s c
      unfolding rest
      rest-load e h =
          let at : ℕ = s.base + group_length * c.next in
          let n : ℕ = s.count - (c.next + 1) in
          let w : at + group_length ≡ s.base + group_length * (c.next + 1) = omega arith in
          ap (λ (b : Bool). pend loaded ++ literals_at b ws (word_at b s.base (c.next + 1)) n) e
          ∙ ap (λ (k : ℕ). pend loaded ++ literals_at true ws k n) (sym w)
          ∙ sym (literals-group ws at n (omega arith))
          ∙ sym (rest-none ∙ ap₂ (λ (b : Bool) (m : ℕ). literals_at b ws (word_at b s.base c.next) m) e fewer)

      pub rest-code : s.packed ≡ false → s.base + s.count ≤ length ws → get_or ws (s.base + c.next) 0 ∷ rest ws s passed ≡ rest ws s c
      unfolding rest
      rest-code e h =
          let at : ℕ = s.base + c.next in
          let n : ℕ = s.count - (c.next + 1) in
          let w : at + 1 ≡ s.base + (c.next + 1) = omega arith in
          ap₂ (λ (l r : List ℕ). get_or ws at 0 ∷ (l ++ r)) (codes-none c.word c.present c.absent none)
          (ap (λ (b : Bool). literals_at b ws (word_at b s.base (c.next + 1)) n) e ∙ ap (λ (k : ℕ). literals_at false ws k n) (sym w))
          ∙ sym (literals-code ws at n (omega arith))
          ∙ sym (rest-none ∙ ap₂ (λ (b : Bool) (m : ℕ). literals_at b ws (word_at b s.base c.next) m) e fewer)
