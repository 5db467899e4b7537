-- The postings of one atom in ascending postings: none before the first that is not below it, none after the first of another atom.
-- Assumes nothing.
use mathlib.Core.Path.{◌≡◌, refl, sym, ap}
use mathlib.Core.List.{List, [], ◌∷◌, map}
use Prim.Native.Nat.{ℕ, ◌+◌, ◌*◌, ◌/◌, ◌%◌, ◌≤◌, ◌<◌}
use native.Mathlib.Omega.{arith}
use lib.Dec.{eqb}
use lib.ListN.{length, get_or, drop, drop_of_length-le}
use borrow.Author.Tests.{eq-eqb, ne_eqb}
use Rattle.lists.specs.Lists.{select, sort_of, distinct, concat, sum}
use Rattle.lists.specs.Counts.{Perm, Each, Sorted}
use Rattle.lists.specs.Marks.{lower_bound}
use Rattle.lists.proofs.Counts.{each_append, each_map, perm-select, perm-map, perm-length, perm-concat}
use Rattle.lists.proofs.Sorts.{sort-perm, sort-cong}
use Rattle.lists.proofs.Selects.{each-select, select-nothing, select-drop-yes}
use Rattle.lists.proofs.Marks.{lower_of, select-lower, select-past}
use Rattle.words.specs.Literal.{atoms_wide}
use Rattle.model.specs.Records.{max_rows}
use Rattle.model.specs.Postings.{posted_at, search_ticks, positions}

-- ---- a search in ascending postings
module _ (a : ℕ) (ps : List ℕ) where
  -- none past the atoms that have codes of w bits
  pub posted-beyond : (w : ℕ) → Each (λ x. x < atoms_wide w * max_rows) ps → atoms_wide w ≤ a → posted_at ps a ≡ []
  unfolding posted_at
  posted-beyond w h l =
      ap (map (λ x. x % max_rows))
      (select-nothing (λ x. eqb (x / max_rows) a) ps (λ x k. ne_eqb (x / max_rows) a (λ e. omega (arith, h x k))))

  -- it may begin at the first posting that is not below the atom's
  pub posted-from : Sorted ps → posted_at (drop (lower_bound (a * max_rows) ps) ps) a ≡ posted_at ps a
  unfolding posted_at
  posted-from s =
      ap (map (λ x. x % max_rows))
      (sym (select-lower (λ x. eqb (x / max_rows) a) (a * max_rows) ps s (λ x l. ne_eqb (x / max_rows) a (λ e. omega arith))))

  pub posted-here : (i : ℕ) → i < length ps → get_or ps i 0 / max_rows ≡ a →
      posted_at (drop i ps) a ≡ get_or ps i 0 % max_rows ∷ posted_at (drop (i + 1) ps) a
  unfolding posted_at
  posted-here i l e =
      ap (map (λ x. x % max_rows))
      (select-drop-yes (λ x. eqb (x / max_rows) a) ps i 0 l (eq-eqb (get_or ps i 0 / max_rows) a e))

  -- and ends at the first of another atom
  pub posted-past : (i : ℕ) → Sorted ps → lower_bound (a * max_rows) ps ≤ i → i < length ps → (get_or ps i 0 / max_rows ≡ a → ⊥) →
      posted_at (drop i ps) a ≡ []
  unfolding posted_at
  posted-past i s h l n =
      let far : get_or ps i 0 < (a + 1) * max_rows → ⊥ = λ f. n (omega (arith, (lower_of (a * max_rows) ps s).after i h l)) in
      ap (map (λ x. x % max_rows))
      (select-past (λ x. eqb (x / max_rows) a) ps i s l (λ x k. ne_eqb (x / max_rows) a (λ e. far (omega arith))))

  pub posted-end : (i : ℕ) → length ps ≤ i → posted_at (drop i ps) a ≡ []
  unfolding posted_at select
  posted-end i l = ap (λ (r : List ℕ). posted_at r a) (drop_of_length-le ps l)

-- ---- the order of the postings does not matter
posted-perm : (ps qs : List ℕ) (a : ℕ) → Perm ps qs → Perm (posted_at ps a) (posted_at qs a)
unfolding posted_at
posted-perm ps qs a p =
    perm-map (λ x. x % max_rows) (select (λ x. eqb (x / max_rows) a) ps) (select (λ x. eqb (x / max_rows) a) qs)
    (perm-select (λ x. eqb (x / max_rows) a) ps qs p)

pub ticks-sort : (ps atoms : List ℕ) → search_ticks (sort_of ps) atoms ≡ search_ticks ps atoms
unfolding search_ticks sum
ticks-sort ps [] = refl
ticks-sort ps (a ∷ atoms) =
    let same = perm-length (posted_at (sort_of ps) a) (posted_at ps a) (posted-perm (sort_of ps) ps a (sort-perm ps)) in
    omega (arith, same, ticks-sort ps atoms)

pub positions-sort : (ps atoms : List ℕ) → positions (sort_of ps) atoms ≡ positions ps atoms
unfolding positions
positions-sort ps atoms =
    ap distinct
    (sort-cong (concat (map (posted_at (sort_of ps)) atoms)) (concat (map (posted_at ps) atoms))
    (perm-concat (posted_at (sort_of ps)) (posted_at ps) atoms (λ a. posted-perm (sort_of ps) ps a (sort-perm ps))))

-- ---- the positions found are those that the postings have
posted-each : (P : ℕ → Type 0) (ps : List ℕ) (a : ℕ) → Each (λ x. P (x % max_rows)) ps → Each P (posted_at ps a)
unfolding posted_at
posted-each P ps a h =
    each_map P (λ x. x % max_rows) (select (λ x. eqb (x / max_rows) a) ps)
    (each-select (λ x. P (x % max_rows)) (λ x. eqb (x / max_rows) a) ps h)

pub found-each : (P : ℕ → Type 0) (ps atoms : List ℕ) → Each (λ x. P (x % max_rows)) ps → Each P (concat (map (posted_at ps) atoms))
unfolding concat
found-each P ps [] h = λ v k. absurd (omega arith)
found-each P ps (a ∷ atoms) h =
    each_append P (posted_at ps a) (concat (map (posted_at ps) atoms)) (posted-each P ps a h) (found-each P ps atoms h)
