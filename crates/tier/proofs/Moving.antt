-- A slot copied down within the buffer, at once or word by word. Assumes nothing.
use mathlib.Core.Path.{◌≡◌, sym}
use mathlib.Core.List.{List, append_assoc}
use Prim.Native.Nat.{ℕ, ◌+◌, ◌-◌, ◌*◌, ◌≤◌, ◌<◌}
use native.Mathlib.Numerals.{add-one}
use native.Mathlib.Omega.{arith}
use lib.ListN.{length, get_or, drop, set, length-drop}
use lib.Seq.{paste, paste-suc, drop-paste, get_or-drop}
use Rattle.model.specs.Records.{slot_words}
use Rattle.tier.specs.Tier.{moved}

module _ (d : List ℕ) (a b i : ℕ) (down : a ≤ b) (room : b + i < length d) where
  ahead : get_or (paste d a (drop b d) i) (b + i) 0 ≡ get_or (drop b d) i 0
  ahead =
      let x : b + i ≡ a + i + (b - a) = omega arith in
      let n : i ≤ length (drop b d) = rw length-drop (omega arith) in
      rw (
        x,
        ← get_or-drop (a + i) (paste d a (drop b d) i) (b - a) 0,
        drop-paste d a (drop b d) i (omega arith) n,
        get_or-drop (a + i) d (b - a) 0,
        ← x,
      )
      (sym (get_or-drop b d i 0))

  pub move-more : set (paste d a (drop b d) i) (a + i) (get_or (paste d a (drop b d) i) (b + i) 0) ≡ paste d a (drop b d) (i + 1)
  move-more =
      let k : i < length (drop b d) = rw length-drop (omega arith) in
      rw (ahead, add-one) (paste-suc d a (drop b d) i 0 (omega arith) k)

pub move_all : (d : List ℕ) (from to : ℕ)
    → paste d (slot_words * to) (drop (slot_words * from) d) (slot_words * from + slot_words - slot_words * from) ≡ moved from to d
unfolding moved
move_all d from to =
    let n : slot_words * from + slot_words - slot_words * from ≡ slot_words = omega arith in
    rw (n, append_assoc)
