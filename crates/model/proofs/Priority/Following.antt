-- Lists of calls from Make on: what is held and what was taken cover each other. Assumes nothing.
use mathlib.Core.Path.{◌≡◌, refl, sym, ◌∙◌, ap, subst}
use mathlib.Core.Bool.{Bool, false, not}
use mathlib.Core.List.{List, [], ◌∷◌}
use mathlib.Core.Option.{Option, none, some}
use Prim.Native.Nat.{ℕ}
use lib.Dec.{T}
use Rattle.model.specs.declared.LearningLimits.{LearningLimits}
use Rattle.model.specs.declared.Header.{Header}
use Rattle.model.specs.Records.{Row, fresh}
use Rattle.model.specs.Slots.{entries_in}
use Rattle.model.specs.Refusals.{Lent, ledger_in, refusal}
use Rattle.model.specs.Answers.{refused, answered}
use Rattle.model.specs.Operations.{MakeEnd, make}
use Rattle.model.specs.Calls.{Call, Offer, Hit, Begin, Candidates, Close, SeedAsTier, SeedAsStore, DeliverAsTier, DeliverAsStore}
use Rattle.model.specs.Calls.{Followed, followed, step, run_from, run}
use Rattle.model.specs.Priority.{Covers}
use Rattle.model.proofs.Priority.Covering.{rows_e, covers-refl, covers-trans}
use Rattle.model.proofs.Priority.Retaining.{Alike, alike_refl, alike-trans}
use Rattle.model.proofs.Priority.Steps.{alike-app, covers-app, nor-left, nor-right, Over, over-app, StepOk, offer-ok}
use Rattle.model.proofs.Priority.Fine.{Counted, none-counted, both-counted}
use Rattle.model.proofs.Priority.Quiet.{hit-ok, begin-ok, candidates-ok, close-ok}
use Rattle.model.proofs.Priority.Moving.{seed-ok, deliver-ok}

pub record RunOk (l : LearningLimits) (u : Followed) : Type 0 where
  pub limits : u.ledger.header.limits ≡ l
  pub alike : T (not u.evicted) → Alike (rows_e (ledger_in u.ledger).entries) u.taken
  pub over : Over l.atoms u.taken
  pub from : Covers u.taken (rows_e (ledger_in u.ledger).entries)
  pub counted : Counted u.evicted 0 u.ledger.header.evicted

follow : (l : LearningLimits) (u : Followed) (s : Lent) (took : List Row) (evicts : Bool) → RunOk l u → StepOk u.ledger s took evicts
    → RunOk l (followed s took evicts u)
unfolding followed
follow l u s took evicts k d = record {
  limits = d.limits ∙ k.limits;
  alike = λ t. alike-trans (d.alike (nor-left evicts u.evicted t)) (alike-app took (k.alike (nor-right evicts u.evicted t)));
  over = over-app l.atoms took u.taken (subst (λ (x : LearningLimits). Over x.atoms took) k.limits d.over) k.over;
  from = covers-trans (covers-app took u.taken (rows_e (ledger_in u.ledger).entries) k.from) d.from;
  counted = both-counted evicts u.evicted 0 u.ledger.header.evicted s.header.evicted k.counted d.counted;
}

step_ok : (l : LearningLimits) (u : Followed) (c : Call) → RunOk l u → RunOk l (step u c)
unfolding step
step_ok l u (Offer c o source m) k = follow l u _ _ _ k (offer-ok u.ledger c o source m)
step_ok l u (Hit p) k = follow l u _ _ _ k (hit-ok u.ledger p)
step_ok l u Begin k = follow l u _ _ _ k (begin-ok u.ledger)
step_ok l u (Candidates a b m) k = follow l u _ _ _ k (candidates-ok u.ledger a b m)
step_ok l u (Close h c x y m) k = follow l u _ _ _ k (close-ok u.ledger h c x y m)
step_ok l u (SeedAsTier s m) k = follow l u _ _ _ k (seed-ok u.ledger s m).tier
step_ok l u (SeedAsStore t m) k = follow l u _ _ _ k (seed-ok t u.ledger m).store
step_ok l u (DeliverAsTier s m) k = follow l u _ _ _ k (deliver-ok u.ledger s m).tier
step_ok l u (DeliverAsStore t m) k = follow l u _ _ _ k (deliver-ok t u.ledger m).store

runs-ok : (l : LearningLimits) (u : Followed) (cs : List Call) → RunOk l u → RunOk l (run_from u cs)
unfolding run_from
runs-ok l u [] k = k
runs-ok l u (c ∷ cs) k = runs-ok l (step u c) cs (step_ok l u c k)

-- the header that Make returns is the fresh one
abbrev made-header : Option Header → Header → Header
made-header none h = h
made-header (some k) h = k

abbrev pub IsMade : Option Header → Type 0
IsMade none = ⊥
IsMade (some k) = Unit {0}

pub fresh-of : (l : LearningLimits) (i : ℕ) (ss ps : List ℕ) (h : Header) → (make l i ss ps).header ≡ some h → h ≡ fresh l i
unfolding make
fresh-of l i ss ps h e = go (refusal _) _ _ e
  where
    go : (o : Option ℕ) (xs ys : List ℕ)
        → (elim o as (λ k. MakeEnd) [
          | some n ↦ record { answer = refused n; header = none; slots = ss; postings = ps; ticks = 0 }
          | none ↦ record { answer = answered 0 0; header = some (fresh l i); slots = xs; postings = ys; ticks = 0 }
        ]).header ≡ some h
        → h ≡ fresh l i
    go (some n) xs ys q = absurd (subst IsMade (sym q) tt)
    go none xs ys q = sym (ap (λ (a : Option Header). made-header a h) q)

first : (l : LearningLimits) (i : ℕ) (ss ps : List ℕ)
    → RunOk l (record { ledger = record { header = fresh l i; slots = ss; postings = ps }; taken = []; evicted = false })
unfolding fresh ledger_in entries_in
first l i ss ps =
    record { limits = refl; alike = λ t. alike_refl []; over = λ r m. absurd m; from = covers-refl []; counted = none-counted 0 }

pub run_ok : (l : LearningLimits) (i : ℕ) (ss ps : List ℕ) (h : Header) (cs : List Call) → (make l i ss ps).header ≡ some h
    → RunOk l (run h (make l i ss ps) cs)
unfolding run
run_ok l i ss ps h cs e = runs-ok l _ cs (start (fresh-of l i ss ps h e))
  where
    start : h ≡ fresh l i
        → RunOk l
        (record {
          ledger = record { header = h; slots = (make l i ss ps).slots; postings = (make l i ss ps).postings };
          taken = [];
          evicted = false;
        })
    start q =
        subst (λ (k : Header). RunOk l
        (record {
          ledger = record { header = k; slots = (make l i ss ps).slots; postings = (make l i ss ps).postings };
          taken = [];
          evicted = false;
        })) (sym q) (first l i (make l i ss ps).slots (make l i ss ps).postings)
