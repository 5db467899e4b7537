-- The words of a slice from a place on, as the code cuts them out. Assumes nothing.
use mathlib.Core.Path.{◌≡◌, ◌∙◌}
use mathlib.Core.List.{List}
use Prim.Native.Nat.{ℕ, ◌+◌, ◌-◌, ◌<◌}
use native.Mathlib.Omega.{arith}
use lib.ListN.{length, get_or, take, drop, length-drop}
use lib.Seq.{get_or-drop, get_or-take, length-take-le}
use Rattle.std.proofs.lemmas.List.{get_or_default}

abbrev pub cut : ℕ → List ℕ → List ℕ
cut z ws = take (length ws - z) (drop z ws)

pub cut-long : (z : ℕ) (ws : List ℕ) → length (cut z ws) ≡ length ws - z
cut-long z ws = let d = length-drop z ws in length-take-le (length ws - z) (drop z ws) (omega arith)

pub cut-at : (z : ℕ) (ws : List ℕ) (k d : ℕ) → k < length (cut z ws) → get_or (cut z ws) k d ≡ get_or ws (z + k) 0
cut-at z ws k d l =
    get_or_default (cut z ws) k d 0 l ∙ get_or-take (length ws - z) (drop z ws) k 0 (omega (arith, cut-long z ws)) ∙ get_or-drop z ws k 0
