-- The sides of a row's slot by chunks are the chunks of the row's lists; what the walks need of it is there. Assumes nothing.
use mathlib.Core.Path.{◌≡◌, refl, sym, ap, ap₂, ◌∙◌, subst}
use mathlib.Core.Bool.{Bool, true, false}
use mathlib.Core.List.{List, [], ◌∷◌, map}
use Prim.Native.Nat.{ℕ, zero, suc, ◌+◌, ◌<◌}
use native.Mathlib.Nat.{zero-add, add-zero, add-suc, suc-add, zero-lt-suc}
use native.Mathlib.Omega.{arith}
use lib.ListN.{length, get_or}
use Rattle.words.specs.Region.{region}
use Rattle.words.specs.Literal.{code_bits}
use Rattle.words.proofs.Regions.{Sound, sound-of}
use Rattle.words.proofs.Widths.{words-for-le}
use Rattle.model.specs.Rows.{groups, packed}
use Rattle.model.specs.Slots.{row_in}
use Rattle.model.specs.Deduction.{chunks}
use Rattle.slots.specs.declared.Side.{Side}
use Rattle.slots.specs.Cursor as cursor
use Rattle.slots.specs.Layout.{condition_side, output_side, Stored}
use Rattle.slots.proofs.Storing.{Grouped, Singles, singles, laid-stored, form-stored, grouped-stored, conditions-apart}
use Rattle.row_deduce.specs.Chunks.{chunk_at, chunks_from, chunks_of, Readable, Walkable, OneSigned, Matched}
use Rattle.row_deduce.proofs.Turns.{chunk-group, chunk-code}

-- ---- the chunks of a side by what stands at each
chunks-are : (ws : List ℕ) (s : Side) (ks : List (List ℕ)) (g : ℕ) → ((i : ℕ) → i < length ks → chunk_at ws s (g + i) ≡ get_or ks i [])
    → chunks_from ws s (length ks) g ≡ ks
unfolding chunks_from
chunks-are ws s [] g f = refl
chunks-are ws s (k ∷ ks) g f =
    ap₂ {C = List (List ℕ)} (λ (x : List ℕ) (xs : List (List ℕ)). x ∷ xs)
    (ap (chunk_at ws s) (sym (add-zero g)) ∙ f 0 (zero-lt-suc (length ks)))
    (chunks-are ws s ks (suc g) (λ i l. ap (chunk_at ws s) (suc-add g i ∙ sym (add-suc g i)) ∙ f (suc i) (omega arith)))

abbrev alone : List ℕ → List (List ℕ)
alone cs = map (λ c. c ∷ []) cs

length-alone : (cs : List ℕ) → length (alone cs) ≡ length cs
length-alone [] = refl
length-alone (c ∷ cs) = ap suc (length-alone cs)

get_or-alone : (cs : List ℕ) (i : ℕ) → i < length cs → get_or (alone cs) i [] ≡ get_or cs i 0 ∷ []
get_or-alone [] i h = absurd (omega arith)
get_or-alone (c ∷ cs) zero h = refl
get_or-alone (c ∷ cs) (suc i) h = get_or-alone cs i (omega arith)

module _ (ws : List ℕ) (s : Side) where
  grouped-chunks : (n : ℕ) (cs : List ℕ) → Grouped n ws s (groups cs) → chunks_of ws s ≡ chunks true cs
  unfolding chunks
  grouped-chunks n cs d =
      ap (λ (k : ℕ). chunks_from ws s k 0) d.count
      ∙ chunks-are ws s (groups cs) 0 (λ i l. ap (chunk_at ws s) (zero-add i) ∙ chunk-group ws s i d.form ∙ sym (d.codes i l))

  single-chunks : (cs : List ℕ) → s.packed ≡ false → Singles ws s cs → chunks_of ws s ≡ chunks false cs
  unfolding chunks
  single-chunks cs p d =
      ap (λ (k : ℕ). chunks_from ws s k 0) (d.count ∙ sym (length-alone cs))
      ∙ chunks-are ws s (alone cs) 0
      (λ i l. let h : i < length cs = omega (arith, length-alone cs) in
      ap (chunk_at ws s) (zero-add i) ∙ chunk-code ws s i p ∙ ap (λ (x : ℕ). x ∷ []) (d.code i h) ∙ sym (get_or-alone cs i h))

module _ (n : ℕ) (ws : List ℕ) (s : Stored n ws) where
  pub condition-chunks : chunks_of ws (condition_side ws) ≡ chunks (packed (row_in ws)) (row_in ws).conditions
  condition-chunks = go (packed (row_in ws)) refl
    where
      go : (b : Bool) → packed (row_in ws) ≡ b → chunks_of ws (condition_side ws) ≡ chunks b (row_in ws).conditions
      go true e = grouped-chunks ws (condition_side ws) n (row_in ws).conditions (grouped-stored n ws s e).0
      go false e =
          let f = (form-stored n ws s).0 ∙ e in
          let l = laid-stored n ws s in
          single-chunks ws (condition_side ws) (row_in ws).conditions f
          (subst (Singles ws (condition_side ws)) l.conditions (singles ws (condition_side ws) l.first f))

  pub output-chunks : chunks_of ws (output_side ws) ≡ chunks (packed (row_in ws)) (row_in ws).outputs
  output-chunks = go (packed (row_in ws)) refl
    where
      go : (b : Bool) → packed (row_in ws) ≡ b → chunks_of ws (output_side ws) ≡ chunks b (row_in ws).outputs
      go true e = grouped-chunks ws (output_side ws) n (row_in ws).outputs (grouped-stored n ws s e).1
      go false e =
          let f = (form-stored n ws s).1 ∙ e in
          let l = laid-stored n ws s in
          single-chunks ws (output_side ws) (row_in ws).outputs f
          (subst (Singles ws (output_side ws)) l.outputs (singles ws (output_side ws) l.second f))

-- ---- what the walks over a packed side ask
module _ (slot held cut : List ℕ) (m : Matched slot held cut) where
  abbrev sound : Sound m.holds.atoms (region held cut)
  sound = sound-of m.holds.atoms (region held cut) m.region

  readable : (s : Side) (gs : List (List ℕ)) → Grouped m.holds.atoms slot s gs → cursor.Sound slot s → Readable slot s held cut
  readable s gs d w = record {
    packed = d.form;
    whole = w.whole d.form;
    index = λ g h. (let i = d.inside g (let e = d.count in omega arith) in let e = sound.held.long in omega arith);
    few = (let e = sound.held.long in let h = words-for-le code_bits m.holds.atoms m.holds.stored.atoms in omega arith);
    same = sound.cut.long ∙ sym sound.held.long;
  }

  pub conditions-readable : (condition_side slot).packed ≡ true
      → Readable slot (condition_side slot) held cut × OneSigned slot (condition_side slot)
  conditions-readable p =
      let e = sym (form-stored m.holds.atoms slot m.holds.stored).0 ∙ p in
      let d = (grouped-stored m.holds.atoms slot m.holds.stored e).0 in (
        readable (condition_side slot) (groups (row_in slot).conditions) d (laid-stored m.holds.atoms slot m.holds.stored).first,
        λ g h. conditions-apart m.holds.atoms slot m.holds.stored e g (let q = d.count in omega arith),
      )

  pub outputs-readable : (output_side slot).packed ≡ true → Readable slot (output_side slot) held cut
  outputs-readable p =
      readable (output_side slot) (groups (row_in slot).outputs)
      (grouped-stored m.holds.atoms slot m.holds.stored (sym (form-stored m.holds.atoms slot m.holds.stored).1 ∙ p)).1
      (laid-stored m.holds.atoms slot m.holds.stored).second

  pub conditions-walkable : Walkable slot (condition_side slot) held cut
  conditions-walkable =
      record { groups = λ p. (conditions-readable p).0; codes = (laid-stored m.holds.atoms slot m.holds.stored).first.single }

  pub outputs-walkable : Walkable slot (output_side slot) held cut
  outputs-walkable = record { groups = outputs-readable; codes = (laid-stored m.holds.atoms slot m.holds.stored).second.single }
