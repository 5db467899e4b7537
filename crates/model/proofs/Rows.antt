-- A row over n atoms by its parts: how many codes, below what, in which order. Assumes nothing.
use mathlib.Core.Path.{◌≡◌, refl, ap, ◌∙◌}
use mathlib.Core.Bool.{Bool, true, false, ◌&&◌}
use mathlib.Core.List.{List, [], ◌∷◌, map}
use Prim.Native.Nat.{ℕ, suc, ◌*◌, ◌≤◌}
use native.Mathlib.Omega.{arith}
use lib.Dec.{leb}
use lib.ListN.{length}
use borrow.Author.Tests.{lt-ltb, le-leb, leb-true}
use Rattle.lists.specs.Lists.{ascending, above, below}
use Rattle.lists.proofs.Bools.{and_both, and_yes}
use Rattle.lists.proofs.Tests.{below_each, each_below}
use Rattle.words.specs.Literal.{atom}
use Rattle.model.specs.Records.{Row, is_row, is_row_over, within, max_conditions, max_outputs}
use Rattle.model.proofs.Packing.{Asc}

-- ---- order as a test
asc-above : (x : ℕ) (xs : List ℕ) → Asc (suc x) xs → above x xs ≡ true
unfolding above
asc-above x [] a = refl
asc-above x (y ∷ ys) a =
    ap (λ (b : Bool). elim b as (λ k. Bool) [ true ↦ above y ys | false ↦ false ]) (lt-ltb x y a.0) ∙ asc-above y ys a.1

pub asc-ascending : (k : ℕ) (xs : List ℕ) → Asc k xs → ascending xs ≡ true
unfolding ascending
asc-ascending k [] a = refl
asc-ascending k (x ∷ xs) a = asc-above x xs a.1

-- ---- a row by its parts
pub record Parts (n : ℕ) (r : Row) : Type 0 where
  pub few : length r.conditions ≤ max_conditions
  pub many : length r.outputs ≤ max_outputs
  pub conditions_under : below (2 * n) r.conditions ≡ true
  pub outputs_under : below (2 * n) r.outputs ≡ true
  pub conditions_rise : ascending (map atom r.conditions) ≡ true
  pub outputs_rise : ascending r.outputs ≡ true

pub row-parts : (n : ℕ) (r : Row) → is_row n r ≡ true → Parts n r
unfolding is_row within is_row_over
row-parts n r e =
    let s = and_both (within max_conditions max_outputs r) (is_row_over n r) e in
    let w = and_both (leb (length r.conditions) max_conditions) (leb (length r.outputs) max_outputs) s.0 in
    let o = and_both (below (2 * n) r.conditions && below (2 * n) r.outputs)
    (ascending (map atom r.conditions) && ascending r.outputs) s.1 in
    let u = and_both (below (2 * n) r.conditions) (below (2 * n) r.outputs) o.0 in
    let a = and_both (ascending (map atom r.conditions)) (ascending r.outputs) o.1 in
    record {
      few = leb-true (length r.conditions) max_conditions w.0;
      many = leb-true (length r.outputs) max_outputs w.1;
      conditions_under = u.0;
      outputs_under = u.1;
      conditions_rise = a.0;
      outputs_rise = a.1;
    }

pub parts-row : (n : ℕ) (r : Row) → Parts n r → is_row n r ≡ true
unfolding is_row within is_row_over
parts-row n r p =
    and_yes _ _ (and_yes _ _ (le-leb (length r.conditions) max_conditions p.few) (le-leb (length r.outputs) max_outputs p.many))
    (and_yes _ _ (and_yes _ _ p.conditions_under p.outputs_under) (and_yes _ _ p.conditions_rise p.outputs_rise))

-- ---- a row over more atoms
below_more : (m n : ℕ) (xs : List ℕ) → m ≤ n → below m xs ≡ true → below n xs ≡ true
below_more m n xs h e = each_below n xs (λ v k. let l = below_each m xs e v k in omega arith)

-- a row over m atoms is one over more
pub row_more : (m n : ℕ) (r : Row) → m ≤ n → is_row m r ≡ true → is_row n r ≡ true
row_more m n r h e =
    let p = row-parts m r e in
    parts-row n r (record {
      few = p.few;
      many = p.many;
      conditions_under = below_more (2 * m) (2 * n) r.conditions (omega arith) p.conditions_under;
      outputs_under = below_more (2 * m) (2 * n) r.outputs (omega arith) p.outputs_under;
      conditions_rise = p.conditions_rise;
      outputs_rise = p.outputs_rise;
    })
