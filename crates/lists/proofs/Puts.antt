-- The laws of `put`: words written one by one over others. Assumes nothing.
use mathlib.Core.Path.{◌≡◌, sym, ◌∙◌, ap, ap₂}
use mathlib.Core.List.{List, [], ◌∷◌, ◌++◌, append_assoc, append-nil}
use Prim.Native.Nat.{ℕ, suc, ◌+◌, ◌≤◌, ◌<◌}
use native.Mathlib.Numerals.{add-one}
use native.Mathlib.Omega.{arith}
use lib.ListN.{length, take, drop, set, length-append, length-drop, take-append-drop, drop_of_length-le}
use lib.Seq.{drop-set-lt, take-suc-set, length-take-le}
use Rattle.lists.specs.Lists.{put}
use Rattle.lists.proofs.Concats.{drop-next}

pub put-none : (i : ℕ) (ws : List ℕ) → put i [] ws ≡ ws
put-none i ws = take-append-drop i ws

pub put-end : (i : ℕ) (xs ws : List ℕ) → length xs ≡ 0 → put i xs ws ≡ ws
put-end i [] ws e = put-none i ws
put-end i (x ∷ xs) ws e = absurd (omega arith)

pub put_whole : (xs ws : List ℕ) → length ws ≡ length xs → put 0 xs ws ≡ xs
put_whole xs ws e =
    ap (λ (l : List ℕ). xs ++ l) (drop_of_length-le ws {i = length xs} (omega arith)) ∙ append-nil xs

pub put-more : (i x : ℕ) (xs ws : List ℕ) → i < length ws → put (i + 1) xs (set ws i x) ≡ put i (x ∷ xs) ws
put-more i x xs ws h =
    let l : i < i + 1 = omega arith in
    let s : drop (i + 1) (set ws i x) ≡ drop (i + 1) ws = drop-set-lt (i + 1) ws i x l in
    let t : take (i + 1) (set ws i x) ≡ take i ws ++ (x ∷ []) = ap (λ (k : ℕ). take k (set ws i x)) (add-one i) ∙ take-suc-set ws i x h in
    ap₂ (λ (p q : List ℕ). p ++ (xs ++ drop (length xs) q)) t s
    ∙ append_assoc (take i ws) (x ∷ []) (xs ++ drop (length xs) (drop (i + 1) ws))
    ∙ ap (λ (q : List ℕ). take i ws ++ (x ∷ (xs ++ drop (suc (length xs)) q))) (sym (drop-next ws i h))

pub length-put : (i : ℕ) (xs ws : List ℕ) → i + length xs ≤ length ws → length (put i xs ws) ≡ length ws
length-put i xs ws h =
    let a : i ≤ length ws = omega arith in
    omega (
      arith,
      length-append (take i ws) (xs ++ drop (length xs) (drop i ws)),
      length-append xs (drop (length xs) (drop i ws)),
      length-take-le i ws a,
      length-drop (length xs) (drop i ws),
      length-drop i ws,
    )
