-- The first half of demand 3, and that no rule is invented, with evictions or without. Assumes nothing.
use mathlib.Core.Path.{◌≡◌, refl, sym, subst}
use mathlib.Core.Bool.{Bool, true, false, ◌&&◌}
use mathlib.Core.List.{List, [], ◌∷◌}
use mathlib.Core.Option.{Option, none, some}
use Prim.Native.Nat.{ℕ, ◌*◌, ◌<◌}
use native.Mathlib.Omega.{arith}
use lib.Dec.{T, eqb}
use lib.ListN.{length}
use Rattle.lists.proofs.Bools.{not-of}
use Rattle.words.specs.Region.{atoms_ok}
use Rattle.model.specs.declared.LearningLimits.{LearningLimits}
use Rattle.model.specs.declared.Header.{Header}
use Rattle.model.specs.Records.{rows_of, limits_ok, fresh, slot_words, posting_words}
use Rattle.model.specs.Refusals.{refusal}
use Rattle.model.specs.Answers.{refused, answered}
use Rattle.model.specs.Operations.{MakeEnd, make}
use Rattle.model.specs.Calls.{run}
use Rattle.model.specs.Priority.{FirstHalf, NothingInvented, EvictionsCounted}
use Rattle.model.proofs.Cover.{and_left, covers-forces}
use Rattle.model.proofs.Priority.Steps.{Over, refusal-cons}
use Rattle.model.proofs.Priority.Following.{run_ok, IsMade}
use Rattle.model.proofs.Priority.Conditions.{force-iff}

-- Make accepted the limits
made-limits : (l : LearningLimits) (i : ℕ) (ss ps : List ℕ) (h : Header) → (make l i ss ps).header ≡ some h → T (limits_ok l)
unfolding make
made-limits l i ss ps h e = go _ refl _ _ e
  where
    tests : List (Bool × ℕ)
    tests = (limits_ok l, 1) ∷ (eqb (length ss) (slot_words * l.tier_rows) && eqb (length ps) (posting_words * l.tier_rows), 2) ∷ []

    go : (o : Option ℕ) → refusal tests ≡ o → (xs ys : List ℕ)
        → (elim o as (λ k. MakeEnd) [
          | some n ↦ record { answer = refused n; header = none; slots = ss; postings = ps; ticks = 0 }
          | none ↦ record { answer = answered 0 0; header = some (fresh l i); slots = xs; postings = ys; ticks = 0 }
        ]).header ≡ some h
        → T (limits_ok l)
    go (some n) r xs ys q = absurd (subst IsMade (sym q) tt)
    go none r xs ys q = (refusal-cons _ _ _ r).0

atoms-of : (l : LearningLimits) → T (limits_ok l) → T (atoms_ok l.atoms)
unfolding limits_ok
atoms-of l t = and_left (atoms_ok l.atoms) _ t

pub first-half : FirstHalf
unfolding rows_of
first-half l m i j ss ps us qs h k cs ds a b e p q =
    let x = run_ok l i ss ps h cs a in
    let y = run_ok m j us qs k ds b in
    let ca = x.alike (not-of _ p) in
    let cb = y.alike (not-of _ q) in
    let f = force-iff l.atoms (run h (make l i ss ps) cs).taken (run k (make m j us qs) ds).taken
    (atoms-of l (made-limits l i ss ps h a)) x.over (subst (λ (n : ℕ). Over n (run k (make m j us qs) ds).taken) (sym e) y.over) in (
      λ g. let z = f.0 (λ r w o. (
        λ v. covers-forces _ _ cb.back r o ((g r w o).0 (covers-forces _ _ ca.there r o v)),
        λ v. covers-forces _ _ ca.back r o ((g r w o).1 (covers-forces _ _ cb.there r o v)),
      )) in (z.there, z.back),
      λ g r w o. (
        λ v. covers-forces _ _ cb.there r o ((f.1 (record { there = g.0; back = g.1 }) r w o).0 (covers-forces _ _ ca.back r o v)),
        λ v. covers-forces _ _ ca.there r o ((f.1 (record { there = g.0; back = g.1 }) r w o).1 (covers-forces _ _ cb.back r o v)),
      ),
    )

pub nothing-invented : NothingInvented
unfolding rows_of
nothing-invented l i ss ps h cs e = (run_ok l i ss ps h cs e).from

pub evictions-counted : EvictionsCounted
evictions-counted l i ss ps h cs e =
    let k = (run_ok l i ss ps h cs e).counted in
    (k.calm, λ z. go (run h (make l i ss ps) cs).evicted (run h (make l i ss ps) cs).ledger.header.evicted z k.some)
  where
    go : (b : Bool) (n : ℕ) → n ≡ 0 → (b ≡ true → 0 < n) → b ≡ false
    go true n z f = absurd (let l = f refl in no_way n z l)
      where
        no_way : (n : ℕ) → n ≡ 0 → 0 < n → ⊥
        no_way n z l = omega arith
    go false n z f = refl
