-- The atoms decided, before and after a literal is marked. Assumes nothing.
use mathlib.Core.Path.{◌≡◌, refl, sym, ap, ap₂, ◌∙◌}
use mathlib.Core.Bool.{Bool, true, false, ◌||◌, or-false}
use mathlib.Core.List.{List}
use Prim.Native.Nat.{ℕ, ◌<◌}
use lib.Dec.{eqb}
use lib.ListN.{length}
use Rattle.lists.proofs.Bools.{or_assoc}
use Rattle.words.specs.Literal.{atom, is_present, word_of}
use Rattle.words.specs.Region.{Region, region, has, mark, holds, contradicts, decided, mark_literal}
use Rattle.words.proofs.Regions.{Set, Sound, has-mark}
use Rattle.words.proofs.Deciding.{holds-present, holds-absent, mark-present, mark-absent, contradicts-present, contradicts-absent}
use Rattle.words.proofs.Deciding.{word-inside}

decided-either : (r : Region) (a : ℕ) → decided r a ≡ (has r.held a || has r.cut a)
unfolding decided
decided-either r a = go (has r.held a)
  where
    go : (b : Bool) → (elim b as (λ k. Bool) [ true ↦ true | false ↦ has r.cut a ]) ≡ (b || has r.cut a)
    go true = refl
    go false = refl

module _ (r : Region) (c : ℕ) where
  -- neither sign of the literal holds: its atom is open
  pub decided-not : holds r c ≡ false → contradicts r c ≡ false → decided r (atom c) ≡ false
  decided-not h o = decided-either r (atom c) ∙ go (is_present c) refl
    where
      go : (p : Bool) → is_present c ≡ p → (has r.held (atom c) || has r.cut (atom c)) ≡ false
      go true e = ap₂ ◌||◌ (sym (holds-present r c e) ∙ h) (sym (contradicts-present r c e) ∙ o)
      go false e = ap₂ ◌||◌ (sym (contradicts-absent r c e) ∙ o) (sym (holds-absent r c e) ∙ h)

  -- the atom of the literal, and those that were
  pub decided-mark : (n a : ℕ) → Sound n r → atom c < n → decided (mark_literal r c) a ≡ (decided r a || eqb a (atom c))
  unfolding word_of
  decided-mark n a s l = go (is_present c) refl ∙ sym (ap (λ (b : Bool). b || eqb a (atom c)) (decided-either r a))
    where
      marks : (ws : List ℕ) → Set n ws → has (mark ws (atom c)) a ≡ (has ws a || eqb a (atom c))
      marks ws t = has-mark ws (atom c) a (word-inside n (atom c) (length ws) t.long l)

      swap : (x y z : Bool) → ((x || y) || z) ≡ ((x || z) || y)
      swap true y z = refl
      swap false true true = refl
      swap false true false = refl
      swap false false z = sym (or-false z)

      go : (p : Bool) → is_present c ≡ p
          → decided (mark_literal r c) a ≡ ((has r.held a || has r.cut a) || eqb a (atom c))
      go true e =
          ap (λ (q : Region). decided q a) (mark-present r c e) ∙ decided-either (region (mark r.held (atom c)) r.cut) a
          ∙ ap (λ (b : Bool). b || has r.cut a) (marks r.held s.held)
          ∙ swap (has r.held a) (eqb a (atom c)) (has r.cut a)
      go false e =
          ap (λ (q : Region). decided q a) (mark-absent r c e) ∙ decided-either (region r.held (mark r.cut (atom c))) a
          ∙ ap (λ (b : Bool). has r.held a || b) (marks r.cut s.cut)
          ∙ sym (or_assoc (has r.held a) (has r.cut a) (eqb a (atom c)))
