-- The four tests of an offered row are the definition. Assumes nothing.
use mathlib.Core.Path.{◌≡◌, refl, sym, ◌∙◌, ap, ap₂}
use mathlib.Core.Bool.{Bool, true, false, ◌&&◌, and-false}
use mathlib.Core.List.{List, map}
use Prim.Native.Nat.{ℕ, ◌*◌, ◌≤◌, ◌<◌}
use lib.Dec.{leb}
use lib.ListN.{length}
use borrow.Author.Tests.{le-leb, lt-leb}
use Rattle.lists.specs.Lists.{ascending, below}
use Rattle.words.specs.Literal.{atom}
use Rattle.words.specs.Codes.{climbs}
use Rattle.words.proofs.Codes.{climbs-conditions, climbs-outputs}
use Rattle.model.specs.Records.{within, is_row_over}
use Rattle.slots.specs.Layout.{row_of}

abbrev tests : Bool → Bool → Bool → Bool → Bool
tests p q r s = p && (q && (r && s))

regroup : (p q r s t u : Bool) → tests p q (r && t) (s && u) ≡ (p && q) && ((r && s) && (t && u))
regroup false q r s t u = refl
regroup true false r s t u = refl
regroup true true false s t u = refl
regroup true true true false t u = and-false t
regroup true true true true t u = refl

module _ (n c o : ℕ) (cs os : List ℕ) where
  abbrev is_offer : Bool
  is_offer = within c o (row_of cs os) && is_row_over n (row_of cs os)

  in_order : tests (leb (length cs) c) (leb (length os) o) (climbs n 1 cs) (climbs n 0 os) ≡ is_offer
  unfolding within is_row_over
  in_order =
      ap₂ (λ (p q : Bool). tests (leb (length cs) c) (leb (length os) o) p q) (climbs-conditions n cs) (climbs-outputs n os)
      ∙ regroup (leb (length cs) c) (leb (length os) o) (below (2 * n) cs) (below (2 * n) os) (ascending (map atom cs)) (ascending os)

  pub row-long : c < length cs → false ≡ is_offer
  row-long h =
      ap (λ (b : Bool). tests b (leb (length os) o) (climbs n 1 cs) (climbs n 0 os)) (sym (lt-leb (length cs) c h)) ∙ in_order

  pub row-wide : length cs ≤ c → o < length os → false ≡ is_offer
  row-wide g h =
      ap₂ (λ (b d : Bool). tests b d (climbs n 1 cs) (climbs n 0 os)) (sym (le-leb (length cs) c g)) (sym (lt-leb (length os) o h))
      ∙ in_order

  pub row-codes : length cs ≤ c → length os ≤ o → {b : Bool} → b ≡ climbs n 1 cs → b && climbs n 0 os ≡ is_offer
  row-codes g h e =
      ap (λ (b : Bool). b && climbs n 0 os) e
      ∙ ap₂ (λ (b d : Bool). tests b d (climbs n 1 cs) (climbs n 0 os)) (sym (le-leb (length cs) c g)) (sym (le-leb (length os) o h))
      ∙ in_order
