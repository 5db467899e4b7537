-- Words written and read again: the header, the meter, the cursor are what they were. Assumes nothing.
use mathlib.Core.Path.{◌≡◌, refl, sym, ap}
use mathlib.Core.Bool.{Bool, true, false}
use mathlib.Core.List.{List, [], ◌∷◌, ◌++◌}
use Prim.Native.Nat.{ℕ}
use native.Mathlib.Omega.{arith}
use lib.ListN.{length, get_or, take}
use borrow.Author.Tests.{ne_eqb}
use Rattle.meter.specs.declared.Meter.{Meter}
use Rattle.model.specs.declared.LearningLimits.{LearningLimits}
use Rattle.model.specs.declared.Mark.{Mark}
use Rattle.std.specs.Prelude.{Option, Some, None}
use Rattle.model.specs.declared.Header.{Header}
use Rattle.model.specs.declared.OutputCursor.{OutputCursor}
use Rattle.model.specs.Answers.{flag_word}
use Rattle.wire.specs.declared.ReplyWords.{ReplyWords}
use Rattle.wire.specs.Words.{flag_in, limits_in, mark_words, mark_in, header_words, header_with, header_in, meter_words, meter_in}
use Rattle.wire.specs.Words.{cursor_words, cursor_in, limits_length, header_length, meter_length, cursor_length, answer_length}
use Rattle.wire.specs.Replies.{answer_words}

flag-read : (b : Bool) → flag_in (flag_word b) ≡ b
flag-read true = refl
flag-read false = refl

pub mark-none : (w n b : ℕ) → w ≡ 0 → None ≡ mark_in w n b
mark-none w n b e = ap (λ (k : ℕ). mark_in k n b) (sym e)

pub mark-some : (w n b : ℕ) → (w ≡ 0 → ⊥) → Some (record { number = n; born = b }) ≡ mark_in w n b
mark-some w n b f = rw (ne_eqb w 0 f, mark_in)

-- the words of a mark, and one more
abbrev mark_then : Option Mark → ℕ → List ℕ
mark_then m k = mark_words m ++ (k ∷ [])

pub mark-three : (m : Option Mark) (k : ℕ) → get_or (mark_words m) 0 0 ∷ get_or (mark_words m) 1 0 ∷ get_or (mark_words m) 2 0 ∷ k ∷ [] ≡ mark_then m k
mark-three None k = refl
mark-three (Some x) k = refl

mark-read : (m : Option Mark) (k : ℕ) → mark_in (get_or (mark_then m k) 0 0) (get_or (mark_then m k) 1 0) (get_or (mark_then m k) 2 0) ≡ m
mark-read None k = refl
mark-read (Some x) k = refl

last-read : (m : Option Mark) (k : ℕ) → get_or (mark_then m k) 3 0 ≡ k
last-read None k = refl
last-read (Some x) k = refl

-- a header of limits and a mark that were read, and of the words between
pub header-parts : (ws : List ℕ) {l : LearningLimits} {m : Option Mark} → l ≡ limits_in ws → m ≡ mark_in (get_or ws 22 0) (get_or ws 23 0) (get_or ws 24 0)
    →
    header_with l m ws ≡ header_in ws
unfolding header_in
header-parts ws e f = rw (e, f)

pub header_read : (h : Header) → header_in (header_words h) ≡ h
unfolding header_in header_words limits_in
header_read h =
    rw (flag-read h.stale, flag-read h.full, mark-read h.mark h.founded, last-read h.mark h.founded)

pub meter-read : (m : Meter) → meter_in (meter_words m) ≡ m
meter-read m = refl

pub cursor-read : (k : OutputCursor) → cursor_in (cursor_words k) ≡ k
cursor-read k = refl

-- ---- as many words as each has
mark-long : (m : Option Mark) (k : ℕ) → length (mark_then m k) ≡ 4
mark-long None k = refl
mark-long (Some x) k = refl

pub header-long : (h : Header) → length (header_words h) ≡ header_length
unfolding header_words
header-long h = let e = mark-long h.mark h.founded in omega arith

pub limits-first : (h : Header) → limits_in (take limits_length (header_words h)) ≡ h.limits
unfolding limits_in header_words
limits-first h = refl

pub meter-long : (m : Meter) → length (meter_words m) ≡ meter_length
meter-long m = refl

pub cursor-long : (k : OutputCursor) → length (cursor_words k) ≡ cursor_length
cursor-long k = refl

pub answer-long : (t : ReplyWords) (ticks : ℕ) → length (answer_words t ticks) ≡ answer_length
answer-long t ticks = refl
