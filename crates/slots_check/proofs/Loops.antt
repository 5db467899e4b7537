-- The loops of the slot check, step by step. Assumes nothing.
use mathlib.Core.Path.{◌≡◌, refl, sym, ap, ap₂, ◌∙◌, subst}
use mathlib.Core.Bool.{Bool, true, false, ◌&&◌}
use mathlib.Core.List.{List, [], ◌∷◌, ◌++◌}
use Prim.Native.Nat.{ℕ, zero, suc, ◌+◌, ◌-◌, ◌*◌, ◌^◌, ◌≤◌, ◌<◌, min}
use native.Mathlib.Numerals.{add-one}
use native.Mathlib.Omega.{arith}
use lib.Bits.{bit_or}
use lib.Count.{ones}
use lib.Dec.{eqb, leb}
use lib.ListN.{length, get_or}
use borrow.Author.Tests.{le-leb, lt-leb}
use Rattle.std.specs.Prelude.{Option, Some, None}
use Rattle.std.specs.Option.{option_eq}
use Rattle.model.specs.Records.{group_length}
use Rattle.slots_check.specs.Check.{bits_below, group_ok, groups_ok, code_count, side_codes}
use Rattle.slots_check.proofs.Groups.{group-passed}

-- ---- groups
-- three words before the others
pub front-three : (g rest : List ℕ) → length g ≡ group_length → g ++ rest ≡ get_or g 0 0 ∷ get_or g 1 0 ∷ get_or g 2 0 ∷ rest
front-three [] rest l = absurd (omega arith)
front-three (x ∷ []) rest l = absurd (omega arith)
front-three (x ∷ p ∷ []) rest l = absurd (omega arith)
front-three (x ∷ p ∷ a ∷ []) rest l = refl
front-three (x ∷ p ∷ a ∷ b ∷ bs) rest l = absurd (omega arith)

module _ (apart : Bool) (n least : ℕ) (ws g rest : List ℕ) (e : ws ≡ g ++ rest) (l : length g ≡ group_length) where
  abbrev x : ℕ
  x = get_or g 0 0

  abbrev passes : Bool
  passes = group_ok apart n x (get_or g 1 0) (get_or g 2 0)

  groups-at : groups_ok apart n least ws ≡ ((leb least x && passes) && groups_ok apart n (suc x) rest)
  unfolding groups_ok
  groups-at = ap (groups_ok apart n least) (e ∙ front-three g rest l)

  pub groups-low : x < least → groups_ok apart n least ws ≡ false
  groups-low h = groups-at ∙ ap (λ (b : Bool). (b && passes) && groups_ok apart n (suc x) rest) (lt-leb least x h)

  module _ (h : least ≤ x) where
    pub groups-bad : passes ≡ false → groups_ok apart n least ws ≡ false
    groups-bad q = groups-at ∙ ap₂ (λ (a b : Bool). (a && b) && groups_ok apart n (suc x) rest) (le-leb least x h) q

    pub groups-next : passes ≡ true → groups_ok apart n least ws ≡ groups_ok apart n (x + 1) rest
    groups-next q =
        groups-at ∙ ap₂ (λ (a b : Bool). (a && b) && groups_ok apart n (suc x) rest) (le-leb least x h) q
        ∙ ap (λ (k : ℕ). groups_ok apart n k rest) (sym (add-one x))

pub groups-end : (apart : Bool) (n least : ℕ) (ws : List ℕ) → length ws ≡ 0 → groups_ok apart n least ws ≡ true
unfolding groups_ok
groups-end apart n least [] e = refl
groups-end apart n least (x ∷ ws) e = absurd (omega arith)

-- ---- the number of codes
pub count_next : (ws g rest : List ℕ) → ws ≡ g ++ rest → length g ≡ group_length →
    code_count ws ≡ (ones (get_or g 1 0) + ones (get_or g 2 0)) + code_count rest
unfolding code_count
count_next ws g rest e l = ap code_count (e ∙ front-three g rest l)

pub count-end : (ws : List ℕ) → length ws ≡ 0 → code_count ws ≡ 0
unfolding code_count
count-end [] e = refl
count-end (x ∷ ws) e = absurd (omega arith)

-- ---- a side
module _ (apart : Bool) (n : ℕ) (ws : List ℕ) where
  pub side-no : groups_ok apart n 0 ws ≡ false → None ≡ side_codes apart n ws
  unfolding side_codes
  side-no e = rw (e, side_codes)

  pub side-yes : (k : ℕ) → groups_ok apart n 0 ws ≡ true → k ≡ code_count ws → Some k ≡ side_codes apart n ws
  unfolding side_codes
  side-yes k e q = rw (e, side_codes) (ap Some q)

  -- both tests of a side at once
  pub side-test : (m : ℕ) → option_eq eqb (side_codes apart n ws) (Some m) ≡ (groups_ok apart n 0 ws && eqb (code_count ws) m)
  unfolding side_codes
  side-test m = go (groups_ok apart n 0 ws)
    where
      go : (b : Bool) → option_eq eqb (elim b as (λ k. Option ℕ) [ true ↦ Some (code_count ws) | false ↦ None ]) (Some m)
          ≡ (b && eqb (code_count ws) m)
      go true = refl
      go false = refl

-- a group that passes is of a word below the atoms' end
pub group_index : (apart : Bool) (n x p a : ℕ) → group_ok apart n x p a ≡ true → 64 * x < n
unfolding bits_below
group_index apart n x p a e = let t = group-passed apart n x p a e in go (n - 64 * x) refl t.some t.fits
  where
    go : (k : ℕ) → n - 64 * x ≡ k → 0 < bit_or p a → bit_or p a < 2 ^ min 64 (n - 64 * x) → 64 * x < n
    go zero q s f = let z : min 64 (n - 64 * x) ≡ 0 = omega arith in absurd (none (subst (λ (m : ℕ). bit_or p a < 2 ^ m) z f) s)
      where
        none : bit_or p a < 1 → 0 < bit_or p a → ⊥
        none h l = omega arith
    go (suc k) q s f = omega arith
