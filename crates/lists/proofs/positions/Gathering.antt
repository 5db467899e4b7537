-- The loop of `gather`: the marked positions below p stand in front, and from p on all is as it was; and that of `up_to`.
-- Assumes nothing.
use mathlib.Core.Bool.{true, false}
use mathlib.Core.List.{List, [], ◌∷◌, ◌++◌, append-nil}
use mathlib.Core.Path.{◌≡◌, refl, sym, ap, ap₂, ◌∙◌}
use Prim.Native.Nat.{ℕ, ◌+◌, ◌-◌, ◌≤◌, ◌<◌}
use native.Mathlib.Numerals.{add-one}
use native.Mathlib.Omega.{arith}
use lib.ListN.{length, get_or, set, take, length-set}
use lib.Seq.{get_or-set_other, take-suc-set, take-set-le, append_snoc, length-take-le}
use borrow.Author.Tests.{eq-eqb, ne_eqb}
use Rattle.lists.specs.Lists.{select, range, up_to}
use Rattle.lists.specs.Marks.{is_marked, marked}
use Rattle.lists.proofs.Selects.{select_yes, select_no, range-turn, up_to-more}

-- the marked positions from p on
abbrev pub later : List ℕ → ℕ → List ℕ
later ms p = select (is_marked ms) (range p (length ms - p))

pub record Gathered (ms out : List ℕ) (k p : ℕ) : Type 0 where
  pub long : length out ≡ length ms
  pub behind : k ≤ p
  pub whole : take k out ++ later ms p ≡ marked ms
  pub rest : (q : ℕ) → p ≤ q → get_or out q 0 ≡ get_or ms q 0

pub gathered-start : (ms : List ℕ) → Gathered ms ms 0 0
unfolding marked up_to
gathered-start ms =
    let e : length ms - 0 ≡ length ms = omega arith in
    record {
      long = refl;
      behind = omega arith;
      whole = ap (λ (n : ℕ). select (is_marked ms) (range 0 n)) e;
      rest = λ q h. refl;
    }

module _ (ms out : List ℕ) (k p : ℕ) where
  turn : Gathered ms out k p → p < length ms →
      later ms p ≡ select (is_marked ms) (p ∷ range (p + 1) (length ms - (p + 1)))
  turn g l = ap (select (is_marked ms)) (range-turn p (length ms) l)

  stays : Gathered ms out k p → (q : ℕ) → p + 1 ≤ q → get_or (set out k p) q 0 ≡ get_or ms q 0
  stays g q h = get_or-set_other out k q p 0 (λ e. omega (arith, g.behind)) ∙ g.rest q (omega arith)

  pub gathered-mark : Gathered ms out k p → p < length ms → (get_or out p 0 ≡ 0 → ⊥) →
      Gathered ms (set out k p) (k + 1) (p + 1)
  unfolding is_marked
  gathered-mark g l n =
      let m : get_or ms p 0 ≡ 0 → ⊥ = λ e. n (g.rest p (omega arith) ∙ e) in
      let y : is_marked ms p ≡ true = rw (ne_eqb (get_or ms p 0) 0 m) in
      let t : take (k + 1) (set out k p) ≡ take k out ++ (p ∷ []) =
      ap (λ (j : ℕ). take j (set out k p)) (add-one k) ∙ take-suc-set out k p (omega (arith, g.behind, g.long)) in
      let s : later ms p ≡ p ∷ later ms (p + 1) =
      turn g l ∙ select_yes (is_marked ms) p (range (p + 1) (length ms - (p + 1))) y in
      record {
        long = length-set out k p ∙ g.long;
        behind = omega (arith, g.behind);
        whole = ap (λ (r : List ℕ). r ++ later ms (p + 1)) t ∙ append_snoc (take k out) p (later ms (p + 1))
            ∙ ap (λ (r : List ℕ). take k out ++ r) (sym s) ∙ g.whole;
        rest = stays g;
      }

  pub gathered-skip : Gathered ms out k p → p < length ms → get_or out p 0 ≡ 0 → Gathered ms (set out k p) k (p + 1)
  unfolding is_marked
  gathered-skip g l e =
      let m : get_or ms p 0 ≡ 0 = sym (g.rest p (omega arith)) ∙ e in
      let y : is_marked ms p ≡ false = rw (eq-eqb (get_or ms p 0) 0 m) in
      let s : later ms p ≡ later ms (p + 1) =
      turn g l ∙ select_no (is_marked ms) p (range (p + 1) (length ms - (p + 1))) y in
      record {
        long = length-set out k p ∙ g.long;
        behind = omega (arith, g.behind);
        whole = ap₂ (λ (x y : List ℕ). x ++ y) (take-set-le k out k p (omega arith)) (sym s) ∙ g.whole;
        rest = stays g;
      }

pub gathered-end : (ms out : List ℕ) (k p : ℕ) → Gathered ms out k p → p ≡ length ms → take k out ≡ marked ms
unfolding select range
gathered-end ms out k p g h =
    let e : length ms - p ≡ 0 = omega arith in
    sym (append-nil (take k out)) ∙ ap (λ (n : ℕ). take k out ++ select (is_marked ms) (range p n)) (sym e) ∙ g.whole

pub gathered-count : (ms out : List ℕ) (k p : ℕ) → Gathered ms out k p → p ≡ length ms → k ≡ length (marked ms)
gathered-count ms out k p g h =
    sym (length-take-le k out (omega (arith, g.behind, g.long))) ∙ ap length (gathered-end ms out k p g h)

-- ---- a turn of `up_to`
pub up_more : (out : List ℕ) (i : ℕ) → i < length out → take i out ≡ up_to i → take (i + 1) (set out i i) ≡ up_to (i + 1)
up_more out i l e =
    ap (λ (j : ℕ). take j (set out i i)) (add-one i) ∙ take-suc-set out i i l
    ∙ ap (λ (r : List ℕ). r ++ (i ∷ [])) e ∙ sym (up_to-more i)
