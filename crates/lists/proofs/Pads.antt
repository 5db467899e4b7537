-- The laws of `pad` and `zeroed`, and of lists that a loop or a lent part leaves. Assumes nothing.
use mathlib.Core.Bool.{false, ◌&&◌}
use mathlib.Core.List.{List, [], ◌∷◌, ◌++◌, append_assoc, append-nil}
use mathlib.Core.Path.{◌≡◌, refl, sym, ap, ap₂, ◌∙◌}
use Prim.Native.Nat.{ℕ, zero, suc, ◌+◌, ◌-◌, ◌≤◌, ◌<◌}
use native.Mathlib.Numerals.{add-one}
use native.Mathlib.Omega.{arith}
use lib.ListN.{length, get_or, set, take, drop, replicate, length-set, length-append, length-replicate, length-drop, take-append-drop}
use lib.ListN.{drop_of_length-le, replicate-append-replicate}
use lib.Seq.{take-append-add, take_at, drop_at, take_all, take-suc, drop-cons, length-take-le, set_at, set-append_left, append_snoc}
use lib.Seq.{sets, sets-eq, ext_get_or}
use borrow.Rule.Slice.PartMut.{put_mid, Post-is}
use Rattle.lists.specs.Lists.{pad, zeroed, same}
use Rattle.lists.proofs.Tests.{same-append, same-no}

-- ---- zeros
pub get_or-zeros : (n i : ℕ) → ◌≡◌ {A = ℕ} (get_or (replicate n 0) i 0) 0
get_or-zeros zero i = refl
get_or-zeros (suc n) zero = refl
get_or-zeros (suc n) (suc i) = get_or-zeros n i

pub length-zeroed : (xs : List ℕ) → length (zeroed xs) ≡ length xs
unfolding zeroed
length-zeroed xs = length-replicate (length xs) 0

pub get_or-zeroed : (xs : List ℕ) (i : ℕ) → get_or (zeroed xs) i 0 ≡ 0
unfolding zeroed
get_or-zeroed xs i = get_or-zeros (length xs) i

pub zeroed-of : (xs : List ℕ) → ((i : ℕ) → i < length xs → get_or xs i 0 ≡ 0) → xs ≡ zeroed xs
zeroed-of xs h =
    ext_get_or 0 xs (zeroed xs) (sym (length-zeroed xs)) (λ i l. h i l ∙ sym (get_or-zeroed xs i))

pub zeroed-cong : (xs ys : List ℕ) → length xs ≡ length ys → zeroed xs ≡ zeroed ys
unfolding zeroed
zeroed-cong xs ys e = ap (λ (n : ℕ). replicate n 0) e

pub zeroed-append : (xs ys : List ℕ) → zeroed (xs ++ ys) ≡ zeroed xs ++ zeroed ys
unfolding zeroed
zeroed-append xs ys =
    ap (λ (n : ℕ). replicate n 0) (length-append xs ys) ∙ sym (replicate-append-replicate (length xs) (length ys) 0)

pub take-zeros : (n k : ℕ) → k ≤ n → ◌≡◌ {A = List ℕ} (take k (replicate n 0)) (replicate k 0)
take-zeros n zero l = refl
take-zeros zero (suc k) l = absurd (omega arith)
take-zeros (suc n) (suc k) l = ap (λ (r : List ℕ). 0 ∷ r) (take-zeros n k (omega arith))

pub drop-zeros : (n k : ℕ) → ◌≡◌ {A = List ℕ} (drop k (replicate n 0)) (replicate (n - k) 0)
drop-zeros n zero = let e : n - 0 ≡ n = omega arith in rw e
drop-zeros zero (suc k) = let e : 0 - suc k ≡ 0 = omega arith in rw e
drop-zeros (suc n) (suc k) = let e : suc n - suc k ≡ n - k = omega arith in rw e (drop-zeros n k)

pub take-zeroed : (k : ℕ) (xs : List ℕ) → take k (zeroed xs) ≡ zeroed (take k xs)
unfolding zeroed
take-zeroed zero xs = refl
take-zeroed (suc k) [] = refl
take-zeroed (suc k) (x ∷ xs) = ap (λ (r : List ℕ). 0 ∷ r) (take-zeroed k xs)

pub drop-zeroed : (k : ℕ) (xs : List ℕ) → drop k (zeroed xs) ≡ zeroed (drop k xs)
unfolding zeroed
drop-zeroed k xs = drop-zeros (length xs) k ∙ ap (λ (n : ℕ). replicate n 0) (sym (length-drop k xs))

-- ---- `pad`
pub pad-nil : (n : ℕ) → pad n [] ≡ replicate n 0
unfolding pad
pad-nil n = let e : n - 0 ≡ n = omega arith in ap (λ (k : ℕ). replicate k 0) e

pub pad-zeroed : (xs : List ℕ) → pad (length xs) [] ≡ zeroed xs
unfolding zeroed
pad-zeroed xs = pad-nil (length xs)

pub length-pad : (n : ℕ) (xs : List ℕ) → length xs ≤ n → length (pad n xs) ≡ n
unfolding pad
length-pad n xs l =
    omega (arith, length-append xs (replicate (n - length xs) 0), length-replicate {A = ℕ} (n - length xs) 0)

pub take-pad : (n : ℕ) (xs : List ℕ) → take (length xs) (pad n xs) ≡ xs
unfolding pad
take-pad n xs = take_at xs (replicate (n - length xs) 0) (length xs) refl

pub shorter-pad : (m n : ℕ) (xs : List ℕ) → length xs ≤ m → m ≤ n → take m (pad n xs) ≡ pad m xs
unfolding pad
shorter-pad m n xs l h =
    let e : length xs + (m - length xs) ≡ m = omega arith in
    ap (λ (k : ℕ). take k (xs ++ replicate (n - length xs) 0)) (sym e)
    ∙ take-append-add xs (replicate (n - length xs) 0) (m - length xs)
    ∙ ap (λ (z : List ℕ). xs ++ z) (take-zeros (n - length xs) (m - length xs) (omega arith))

pub drop-pad : (n : ℕ) (xs : List ℕ) → drop (length xs) (pad n xs) ≡ replicate (n - length xs) 0
unfolding pad
drop-pad n xs = drop_at xs (replicate (n - length xs) 0) (length xs) refl

pub get_or-pad : (n : ℕ) (xs : List ℕ) (i : ℕ) → get_or (pad n xs) i 0 ≡ get_or xs i 0
unfolding pad
get_or-pad n xs i = go (n - length xs) xs i
  where
    go : (k : ℕ) (xs : List ℕ) (i : ℕ) → get_or (xs ++ replicate k 0) i 0 ≡ get_or xs i 0
    go k [] i = get_or-zeros k i
    go k (x ∷ xs) zero = refl
    go k (x ∷ xs) (suc i) = go k xs i

pub set-pad : (n : ℕ) (xs : List ℕ) (i a : ℕ) → i < length xs → set (pad n xs) i a ≡ pad n (set xs i a)
unfolding pad
set-pad n xs i a l =
    set-append_left xs (replicate (n - length xs) 0) i a l
    ∙ ap (λ (k : ℕ). set xs i a ++ replicate (n - k) 0) (sym (length-set xs i a))

pub pad-append : (n : ℕ) (xs ys : List ℕ) → pad n (xs ++ ys) ≡ xs ++ pad (n - length xs) ys
unfolding pad
pad-append n xs ys =
    let e : n - length (xs ++ ys) ≡ n - length xs - length ys = omega (arith, length-append xs ys) in
    append_assoc xs ys (replicate (n - length (xs ++ ys)) 0)
    ∙ ap (λ (k : ℕ). xs ++ (ys ++ replicate k 0)) e

pub pad-full : (n : ℕ) (xs : List ℕ) → n ≤ length xs → pad n xs ≡ xs
unfolding pad
pad-full n xs l = let e : n - length xs ≡ 0 = omega arith in ap (λ (k : ℕ). xs ++ replicate k 0) e ∙ append-nil xs

-- a list whose first part is xs and whose rest is zeros
pub pad-of : (ws xs : List ℕ) (n : ℕ) → length xs ≡ n → take n ws ≡ xs → drop n ws ≡ zeroed (drop n ws) → ws ≡ pad (length ws) xs
unfolding pad zeroed
pad-of ws xs n l t d =
    let e : length (drop n ws) ≡ length ws - length xs = omega (arith, length-drop n ws) in
    sym (take-append-drop n ws) ∙ ap₂ (λ (x y : List ℕ). x ++ y) t (d ∙ ap (λ (k : ℕ). replicate k 0) e)

-- the test of a padded list, in two parts
pub same-pad : (ws xs : List ℕ) (n : ℕ) → length xs ≡ n → n ≤ length ws →
    same ws (pad (length ws) xs) ≡ (same (take n ws) xs && same (drop n ws) (zeroed (drop n ws)))
unfolding pad zeroed
same-pad ws xs n e l =
    let k : length ws - length xs ≡ length (drop n ws) = omega (arith, length-drop n ws) in
    same-append n ws xs (replicate (length ws - length xs) 0) l e
    ∙ ap (λ (m : ℕ). same (take n ws) xs && same (drop n ws) (replicate m 0)) k

pub same-pad-short : (ws xs : List ℕ) → length ws < length xs → same ws (pad (length ws) xs) ≡ false
same-pad-short ws xs l =
    same-no ws (pad (length ws) xs) (λ e. let k = ap length (e ∙ pad-full (length ws) xs (omega arith)) in omega arith)

-- ---- a lent part that came back as ys
pub put-at : (a e : ℕ) (xs ys : List ℕ) → a ≤ e → put_mid a (e - a) xs ys ≡ take a xs ++ (ys ++ drop e xs)
put-at a e xs ys h = ap (λ (z : List ℕ). take a xs ++ (ys ++ z)) (Post-is a e xs h)

-- the part from a on to the end: as it is lent, and after it came back
pub rest_part : (xs : List ℕ) (a : ℕ) → take (length xs - a) (drop a xs) ≡ drop a xs
rest_part xs a = take_all (length xs - a) (drop a xs) (omega (arith, length-drop a xs))

pub put_rest : (xs ys : List ℕ) (a : ℕ) → put_mid a (length xs - a) xs ys ≡ take a xs ++ ys
put_rest xs ys a =
    let d : drop (length xs - a) (drop a xs) ≡ [] = drop_of_length-le (drop a xs) {i = length xs - a} (omega (arith, length-drop a xs)) in
    ap (λ (z : List ℕ). take a xs ++ (ys ++ z)) d ∙ ap (λ (z : List ℕ). take a xs ++ z) (append-nil ys)

-- the tail zeroed
pub put-zeroed : (xs ys : List ℕ) (a : ℕ) → length ys ≡ a → take a xs ≡ ys →
    put_mid a (length xs - a) xs (zeroed (take (length xs - a) (drop a xs))) ≡ pad (length xs) ys
unfolding pad zeroed
put-zeroed xs ys a e t =
    let k : length (drop a xs) ≡ length xs - length ys = omega (arith, length-drop a xs) in
    put_rest xs (zeroed (take (length xs - a) (drop a xs))) a
    ∙ ap₂ (λ (x y : List ℕ). x ++ y) t (ap zeroed (rest_part xs a) ∙ ap (λ (n : ℕ). replicate n 0) k)

-- ---- a list that a loop fills from the front
pub copy_more : (s d : List ℕ) (i : ℕ) → i < length s → length d ≡ length s →
    set (take i s ++ drop i d) i (get_or s i 0) ≡ take (i + 1) s ++ drop (i + 1) d
copy_more s d i h e =
    let k : i < length d = omega arith in
    let l : length (take i s) ≡ i = length-take-le i s (omega arith) in
    rw (add-one, drop-cons d i 0, set_at (take i s) _ _ _ i l, take-suc s i 0)
    (sym (append_snoc (take i s) (get_or s i 0) (drop (suc i) d)))

-- stores from the front on, as many as there are
pub sets-all : (vs l : List ℕ) → length vs ≡ length l → sets l 0 vs ≡ vs
sets-all vs l e =
    let h : length l ≤ length vs = omega arith in
    let z : 0 + length vs ≡ length vs = omega arith in
    sets-eq vs l 0 (omega arith) ∙ simp (z, drop_of_length-le l h) (append-nil vs)
