-- The chunk of a packed side is the codes of a group's words. Assumes nothing.
use mathlib.Core.Path.{◌≡◌, sym, ap, ◌∙◌}
use mathlib.Core.Bool.{true}
use mathlib.Core.List.{List, [], ◌∷◌}
use Prim.Native.Nat.{ℕ, ◌<◌}
use native.Mathlib.Omega.{arith}
use lib.Bits.{bit_and, bit_or}
use lib.ListN.{get_or}
use Rattle.words.specs.Region.{Region}
use Rattle.model.specs.Slots.{codes_of}
use Rattle.model.specs.Deduction.{contradictions}
use Rattle.slots.specs.declared.Side.{Side}
use Rattle.slots.proofs.Codes.{codes-none}
use Rattle.row_deduce.specs.declared.Group.{Group}
use Rattle.row_deduce.specs.Chunks.{chunk_at, group_at, Readable, Inside}
use Rattle.row_deduce.proofs.Groups.{outputs-contradicted}
use Rattle.row_deduce.proofs.Turns.{chunk-group}

module _ (ws : List ℕ) (s : Side) (g : ℕ) (k : Group) (is : k ≡ group_at ws s g) where
  pub group-chunk : s.packed ≡ true → chunk_at ws s g ≡ codes_of k.index k.present k.absent
  group-chunk p = chunk-group ws s g p ∙ ap (λ (y : Group). codes_of y.index y.present y.absent) (sym is)

  -- it lies within the words of a region that the side may be read in
  pub group-inside : (held cut : List ℕ) → Readable ws s held cut → g < s.count → Inside k held cut
  group-inside held cut w h = record {
    index = let i = w.index g h in let e = ap (λ (y : Group). y.index) is in omega arith;
    few = w.few;
    same = w.same;
  }

-- the contradicted outputs of the group that stands at g: the codes of the joined masks, of which the first is taken
module _ (r : Region) (ws : List ℕ) (s : Side) (g : ℕ) (k : Group) (packed : s.packed ≡ true) (is : k ≡ group_at ws s g) where
  abbrev present : ℕ
  present = bit_and k.present (get_or r.cut k.index 0)

  abbrev absent : ℕ
  absent = bit_and k.absent (get_or r.held k.index 0)

  packed-contradicted : contradictions r (chunk_at ws s g) ≡ codes_of k.index present absent
  packed-contradicted =
      ap (contradictions r) (group-chunk ws s g k is packed) ∙ outputs-contradicted r k.index k.present k.absent

  pub packed-hit : {o : ℕ} {os : List ℕ} → codes_of k.index present absent ≡ o ∷ os → contradictions r (chunk_at ws s g) ≡ o ∷ os
  packed-hit e = packed-contradicted ∙ e

  pub packed-miss : bit_or absent present ≡ 0 → contradictions r (chunk_at ws s g) ≡ []
  packed-miss e = packed-contradicted ∙ codes-none k.index present absent e
