-- The laws of `concat` and `sum`, of lists made of blocks of one length, and of the words from a place on. Assumes nothing.
use mathlib.Core.List.{List, [], ◌∷◌, ◌++◌, map, append_assoc, append-nil}
use mathlib.Core.Path.{◌≡◌, refl, sym, ap, ◌∙◌}
use Prim.Native.Nat.{ℕ, zero, suc, ◌+◌, ◌-◌, ◌*◌, ◌≤◌, ◌<◌}
use native.Mathlib.Nat.{sub-zero}
use native.Mathlib.Numerals.{add-one}
use native.Mathlib.Omega.{arith}
use lib.ListN.{length, get_or, set, take, drop, length-append}
use lib.Seq.{take_at, take-nil, drop_at, drop-cons, set_split, take-append-add, drop-append-add}
use borrow.Rule.Slice.PartMut.{put_mid}
use Rattle.lists.specs.Lists.{concat, sum}

pub sum-append : (xs ys : List ℕ) → sum (xs ++ ys) ≡ sum xs + sum ys
unfolding sum
sum-append [] ys = omega arith
sum-append (x ∷ xs) ys = omega (arith, sum-append xs ys)

module _ {A : Type 0} where
  pub concat-append : (xss yss : List (List A)) → concat (xss ++ yss) ≡ concat xss ++ concat yss
  unfolding concat
  concat-append [] yss = refl
  concat-append (xs ∷ xss) yss =
      ap (λ (r : List A). xs ++ r) (concat-append xss yss) ∙ sym (append_assoc xs (concat xss) (concat yss))

  pub length-concat : (xss : List (List A)) → length (concat xss) ≡ sum (map length xss)
  unfolding concat sum
  length-concat [] = refl
  length-concat (xs ∷ xss) = length-append xs (concat xss) ∙ ap (λ (n : ℕ). length xs + n) (length-concat xss)

pub map-append : {A B : Type 0} (f : A → B) (xs ys : List A) → map f (xs ++ ys) ≡ map f xs ++ map f ys
map-append f [] ys = refl
map-append {A} {B} f (x ∷ xs) ys = ap (λ (r : List B). f x ∷ r) (map-append f xs ys)

module _ {A B : Type 0} (f : A → List B) where
  pub concat-map-append : (xs ys : List A) → concat (map f (xs ++ ys)) ≡ concat (map f xs) ++ concat (map f ys)
  concat-map-append xs ys = ap concat (map-append f xs ys) ∙ concat-append (map f xs) (map f ys)

  pub concat-map-one : (x : A) → concat (map f (x ∷ [])) ≡ f x
  unfolding concat
  concat-map-one x = append-nil (f x)

-- each block is of length w; zs may follow
abbrev pub Blocks : {A B : Type 0} → (A → List B) → ℕ → List A → Type 0
Blocks {A} f w es = (i : ℕ) (d : A) → i < length es → length (f (get_or es i d)) ≡ w

module _ {A B : Type 0} (f : A → List B) (w : ℕ) where
  blocks-head : (e : A) (es : List A) → Blocks f w (e ∷ es) → length (f e) ≡ w
  blocks-head e es b = b 0 e (omega arith)

  blocks-tail : (e : A) (es : List A) → Blocks f w (e ∷ es) → Blocks f w es
  blocks-tail e es b = λ i d l. b (suc i) d (omega arith)

  pub length-blocks : (es : List A) → Blocks f w es → length (concat (map f es)) ≡ w * length es
  unfolding concat
  length-blocks [] b = omega arith
  length-blocks (e ∷ es) b =
      length-append (f e) (concat (map f es))
      ∙ omega (arith, blocks-head e es b, length-blocks es (blocks-tail e es b))

  pub drop_block : (es : List A) (p : ℕ) (zs : List B) → Blocks f w es → p ≤ length es →
      drop (w * p) (concat (map f es) ++ zs) ≡ concat (map f (drop p es)) ++ zs
  unfolding concat
  drop_block es zero zs b l = let e : w * 0 ≡ 0 = omega arith in ap (λ (k : ℕ). drop k (concat (map f es) ++ zs)) e
  drop_block [] (suc p) zs b l = absurd (omega arith)
  drop_block (e ∷ es) (suc p) zs b l =
      let k : w * suc p ≡ length (f e) + w * p = omega (arith, blocks-head e es b) in
      ap (λ (r : List B). drop (w * suc p) r) (append_assoc (f e) (concat (map f es)) zs)
      ∙ ap (λ (n : ℕ). drop n (f e ++ (concat (map f es) ++ zs))) k
      ∙ drop-append-add (f e) (concat (map f es) ++ zs) (w * p)
      ∙ drop_block es p zs (blocks-tail e es b) (omega arith)

  pub take-block : (es : List A) (p : ℕ) (zs : List B) → Blocks f w es → p ≤ length es →
      take (w * p) (concat (map f es) ++ zs) ≡ concat (map f (take p es))
  unfolding concat
  take-block es zero zs b l = let e : w * 0 ≡ 0 = omega arith in ap (λ (k : ℕ). take k (concat (map f es) ++ zs)) e
  take-block [] (suc p) zs b l = absurd (omega arith)
  take-block (e ∷ es) (suc p) zs b l =
      let k : w * suc p ≡ length (f e) + w * p = omega (arith, blocks-head e es b) in
      ap (λ (r : List B). take (w * suc p) r) (append_assoc (f e) (concat (map f es)) zs)
      ∙ ap (λ (n : ℕ). take n (f e ++ (concat (map f es) ++ zs))) k
      ∙ take-append-add (f e) (concat (map f es) ++ zs) (w * p)
      ∙ ap (λ (r : List B). f e ++ r) (take-block es p zs (blocks-tail e es b) (omega arith))

  rest_at : (es : List A) (p : ℕ) (d : A) (zs : List B) → Blocks f w es → p < length es →
      drop (w * p) (concat (map f es) ++ zs) ≡ f (get_or es p d) ++ (concat (map f (drop (suc p) es)) ++ zs)
  unfolding concat
  rest_at es p d zs b l =
      drop_block es p zs b (omega arith)
      ∙ ap (λ (r : List A). concat (map f r) ++ zs) (drop-cons es p d l)
      ∙ append_assoc (f (get_or es p d)) (concat (map f (drop (suc p) es))) zs

  -- the block at a position
  pub block_at : (es : List A) (p : ℕ) (d : A) (zs : List B) → Blocks f w es → p < length es →
      take w (drop (w * p) (concat (map f es) ++ zs)) ≡ f (get_or es p d)
  block_at es p d zs b l =
      ap (take w) (rest_at es p d zs b l)
      ∙ take_at (f (get_or es p d)) (concat (map f (drop (suc p) es)) ++ zs) w (b p d l)

  -- the block at a position replaced
  pub block-put : (es : List A) (p : ℕ) (e : A) (zs : List B) → Blocks f w es → p < length es →
      put_mid (w * p) w (concat (map f es) ++ zs) (f e) ≡ concat (map f (set es p e)) ++ zs
  unfolding concat
  block-put es p e zs b l =
      let r = concat (map f (drop (suc p) es)) in
      let t : take (w * p) (concat (map f es) ++ zs) ≡ concat (map f (take p es)) = take-block es p zs b (omega arith) in
      let d : drop w (drop (w * p) (concat (map f es) ++ zs)) ≡ r ++ zs =
      ap (drop w) (rest_at es p e zs b l) ∙ drop_at (f (get_or es p e)) (r ++ zs) w (b p e l) in
      let s : concat (map f (set es p e)) ≡ concat (map f (take p es)) ++ (f e ++ r) =
      ap (λ (x : List A). concat (map f x)) (set_split es p e l) ∙ concat-map-append f (take p es) (e ∷ drop (suc p) es) in
      rw (t, d, s) (ap (λ (x : List B). concat (map f (take p es)) ++ x) (sym (append_assoc (f e) r zs))
      ∙ sym (append_assoc (concat (map f (take p es))) (f e ++ r) zs))

  -- one block more, where n words are left after the blocks
  pub block_more : (es : List A) (e : A) (zs : List B) → Blocks f w es →
      put_mid (w * length es) w (concat (map f es) ++ zs) (f e) ≡ concat (map f (es ++ (e ∷ []))) ++ drop w zs
  block_more es e zs b =
      let n : length (concat (map f es)) ≡ w * length es = length-blocks es b in
      let m : concat (map f (es ++ (e ∷ []))) ≡ concat (map f es) ++ f e =
      concat-map-append f es (e ∷ []) ∙ ap (λ (r : List B). concat (map f es) ++ r) (concat-map-one f e) in
      rw (take_at (concat (map f es)) zs (w * length es) n, drop_at (concat (map f es)) zs (w * length es) n, m)
      (sym (append_assoc (concat (map f es)) (f e) (drop w zs)))

-- ---- the words from a place on
-- the end of a beginning is a beginning of the end
pub drop-take : (m n : ℕ) (ws : List ℕ) → drop m (take n ws) ≡ take (n - m) (drop m ws)
drop-take zero n ws = ap (λ (k : ℕ). take k ws) (sym (sub-zero n))
drop-take (suc m) zero ws = ap (λ (k : ℕ). take k (drop (suc m) ws)) (let e : 0 ≡ 0 - suc m = omega arith in e)
drop-take (suc m) (suc n) [] = sym (take-nil (suc n - suc m))
drop-take (suc m) (suc n) (w ∷ ws) =
    drop-take m n ws ∙ ap (λ (k : ℕ). take k (drop m ws)) (let e : n - m ≡ suc n - suc m = omega arith in e)

pub drop-next : (ws : List ℕ) (i : ℕ) → i < length ws → drop i ws ≡ get_or ws i 0 ∷ drop (i + 1) ws
drop-next ws i l = drop-cons ws i 0 l ∙ ap (λ (k : ℕ). get_or ws i 0 ∷ drop k ws) (sym (add-one i))

pub drop-three : (ws : List ℕ) (i : ℕ) → i + 3 ≤ length ws
    → drop i ws ≡ get_or ws i 0 ∷ get_or ws (i + 1) 0 ∷ get_or ws (i + 2) 0 ∷ drop (i + 3) ws
drop-three ws i h =
    drop-one i (i + 1) (omega arith) (omega arith)
    ∙ ap (λ (l : List ℕ). get_or ws i 0 ∷ l) (drop-one (i + 1) (i + 2) (omega arith) (omega arith))
    ∙ ap (λ (l : List ℕ). get_or ws i 0 ∷ get_or ws (i + 1) 0 ∷ l) (drop-one (i + 2) (i + 3) (omega arith) (omega arith))
  where
    drop-one : (i j : ℕ) → i < length ws → suc i ≡ j → drop i ws ≡ get_or ws i 0 ∷ drop j ws
    drop-one i j l e = drop-cons ws i 0 l ∙ ap (λ (k : ℕ). get_or ws i 0 ∷ drop k ws) e
