-- The tests of a position and of a region, that come after those of the ledger. Assumes nothing.
use mathlib.Core.Path.{◌≡◌, refl}
use mathlib.Core.Bool.{Bool, true, false}
use mathlib.Core.List.{List, [], ◌∷◌}
use mathlib.Core.Option.{none, some}
use Prim.Native.Nat.{ℕ, ◌≤◌, ◌<◌}
use borrow.Author.Tests.{lt-ltb, le-ltb}
use Rattle.words.specs.Region.{is_region, region}
use Rattle.model.specs.declared.Header.{Header}
use Rattle.model.specs.Refusals.{Lent, refusal}
use Rattle.model.specs.Operations.{position_ok, region_ok}
use Rattle.contents.specs.Lent.{lent}

-- no test left
pub all-passed : refusal [] ≡ none
unfolding refusal
all-passed = refl

module _ (h : Header) (slots postings : List ℕ) where
  abbrev s : Lent
  s = lent h slots postings

  module _ (p : ℕ) where
    pub position-no : (ts : List (Bool × ℕ)) → h.rows ≤ p → refusal ((position_ok s p, 5) ∷ ts) ≡ some 5
    unfolding refusal position_ok
    position-no ts l = rw (le-ltb p h.rows l)

    pub position-yes : (ts : List (Bool × ℕ)) → p < h.rows → refusal ((position_ok s p, 5) ∷ ts) ≡ refusal ts
    unfolding refusal position_ok
    position-yes ts l = rw (lt-ltb p h.rows l)

  module _ (held cut : List ℕ) where
    pub region-no : (ts : List (Bool × ℕ)) → is_region h.limits.atoms (region held cut) ≡ false
        → refusal ((region_ok s held cut, 6) ∷ ts) ≡ some 6
    unfolding refusal region_ok
    region-no ts e = rw e

    pub region-yes : (ts : List (Bool × ℕ)) → is_region h.limits.atoms (region held cut) ≡ true
        → refusal ((region_ok s held cut, 6) ∷ ts) ≡ refusal ts
    unfolding refusal region_ok
    region-yes ts e = rw e
