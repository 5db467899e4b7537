-- The atoms that a region has not decided, and the one that a decision takes from them. Assumes nothing.
use mathlib.Core.Path.{◌≡◌, refl, sym, ap, ◌∙◌}
use mathlib.Core.Logic.{◌⊎◌, inl, inr}
use mathlib.Core.Bool.{Bool, true, false, not, ◌||◌, or-true, or-false}
use Prim.Native.Nat.{ℕ, ◌+◌, ◌≤◌, ◌<◌}
use native.Mathlib.Omega.{arith}
use lib.Dec.{eqb}
use lib.ListN.{length}
use borrow.Author.Tests.{eq-eqb, ne_eqb}
use Rattle.lists.specs.Counts.{is, times, Each}
use Rattle.lists.specs.Lists.{up_to}
use Rattle.lists.proofs.Counts.{same_or, lt-or-ge, is-equal, is-other, times-select-yes, times-select-no, each_none}
use Rattle.lists.proofs.Selects.{each-select, select_short, length-up_to, range-from}
use Rattle.lists.proofs.Marks.{times-range}
use Rattle.words.specs.Literal.{atom}
use Rattle.words.specs.Region.{Region, holds, contradicts, decided, mark_literal}
use Rattle.words.proofs.Regions.{Sound}
use Rattle.words.proofs.Decided.{decided-not, decided-mark}
use Rattle.close_note.specs.Noting.{undecided}

-- ---- how often an atom is among those not decided
module _ (n : ℕ) (r : Region) where
  pub times-open : (v : ℕ) → decided r v ≡ false → times v (undecided n r) ≡ times v (up_to n)
  unfolding undecided
  times-open v e = times-select-yes (λ a. not (decided r a)) v (up_to n) (ap not e)

  pub times-decided : (v : ℕ) → decided r v ≡ true → times v (undecided n r) ≡ 0
  unfolding undecided
  times-decided v e = times-select-no (λ a. not (decided r a)) v (up_to n) (ap not e)

  pub undecided-below : Each (λ a. a < n) (undecided n r)
  unfolding undecided up_to
  undecided-below =
      each-select (λ a. a < n) (λ a. not (decided r a)) (up_to n) (λ a h. let b = range-from 0 n a h in omega arith)

  pub undecided-once : (v : ℕ) → times v (undecided n r) ≤ 1
  unfolding up_to
  undecided-once v = go (decided r v) refl (lt-or-ge v n)
    where
      go : (b : Bool) → decided r v ≡ b → (v < n) ⊎ (n ≤ v) → times v (undecided n r) ≤ 1
      go true e o = let z = times-decided v e in omega arith
      go false e (inl l) = let t = times-open v e in let u = times-range v 0 n (omega arith) (omega arith) in omega arith
      go false e (inr l) = let z = each_none (λ a. a < n) v (undecided n r) undecided-below (λ h. omega arith) in omega arith

  pub undecided-few : length (undecided n r) ≤ n
  unfolding undecided
  undecided-few = let a = select_short (λ a. not (decided r a)) (up_to n) in let b = length-up_to n in omega arith

-- a literal marked of which neither sign held: its atom is taken from them
module _ (n : ℕ) (r : Region) (c : ℕ) (s : Sound n r) (l : atom c < n) (h : holds r c ≡ false) (o : contradicts r c ≡ false) where
  pub undecided-atom : times (atom c) (undecided n r) ≡ 1
  unfolding up_to
  undecided-atom = times-open n r (atom c) (decided-not r c h o) ∙ times-range (atom c) 0 n (omega arith) (omega arith)

  pub undecided-marked : (v : ℕ) → times v (undecided n r) ≡ is v (atom c) + times v (undecided n (mark_literal r c))
  undecided-marked v = go (same_or v (atom c))
    where
      after : (b : Bool) → eqb v (atom c) ≡ b → decided (mark_literal r c) v ≡ (decided r v || b)
      after b e = decided-mark r c n v s l ∙ ap (λ (b : Bool). decided r v || b) e

      other : (b : Bool) → decided r v ≡ b → decided (mark_literal r c) v ≡ decided r v
          → times v (undecided n r) ≡ times v (undecided n (mark_literal r c))
      other true d e = times-decided n r v d ∙ sym (times-decided n (mark_literal r c) v (e ∙ d))
      other false d e = times-open n r v d ∙ sym (times-open n (mark_literal r c) v (e ∙ d))

      go : (v ≡ atom c) ⊎ (v ≡ atom c → ⊥) → times v (undecided n r) ≡ is v (atom c) + times v (undecided n (mark_literal r c))
      go (inl e) =
          let a = is-equal v (atom c) e in
          let b = times-decided n (mark_literal r c) v (after true (eq-eqb v (atom c) e) ∙ or-true (decided r v)) in
          let d : times v (undecided n r) ≡ 1 = ap (λ (x : ℕ). times x (undecided n r)) e ∙ undecided-atom in
          omega arith
      go (inr f) =
          let a = is-other v (atom c) f in
          let b = other (decided r v) refl (after false (ne_eqb v (atom c) f) ∙ or-false (decided r v)) in
          omega arith
