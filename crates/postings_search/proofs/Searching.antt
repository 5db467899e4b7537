-- Candidates, by the ways that it ends. Assumes nothing.
use mathlib.Core.Path.{◌≡◌, refl, sym, ap, ap₂, ◌∙◌}
use mathlib.Core.Bool.{Bool, true, false, ◌&&◌}
use mathlib.Core.List.{List, [], ◌∷◌}
use mathlib.Core.Option.{none, some}
use Prim.Native.Nat.{ℕ, ◌≤◌}
use native.Mathlib.Omega.{arith}
use lib.Dec.{eqb}
use lib.ListN.{length}
use borrow.Author.Tests.{eqb-true}
use Rattle.meter.specs.declared.Meter.{Meter}
use Rattle.meter.specs.Meter.{made}
use Rattle.model.specs.declared.Header.{Header}
use Rattle.std.specs.Prelude.{Ok, Err}
use Rattle.model.specs.declared.Refusal.{Refusal}
use Rattle.model.specs.Records.{limits_ok}
use Rattle.model.specs.Slots.{entries_in}
use Rattle.model.specs.Postings.{Search, filed}
use Rattle.model.specs.Postings as model
use Rattle.model.specs.Refusals.{Lent, refusal, accepts, lengths_ok, contents_ok, ledger_in, lent_of}
use Rattle.model.specs.Answers.{number_of, candidates_reply}
use Rattle.model.specs.Operations.{CandidatesEnd, candidates}
use Rattle.contents.specs.Lent.{lent}
use Rattle.contents.proofs.Accepting.{accepted}
use Rattle.postings.specs.declared.searching.Searched.{Searched}
use Rattle.slots.specs.Layout.{rows_in}
use Rattle.postings.specs.Searching.{SearchEnd, search_end, found_end}
use Rattle.postings.proofs.Keeping.{candidates-keep}
use Rattle.postings_search.specs.Ends.{candidates_end}
use Rattle.slots.proofs.Holding.{stands-few}
use Rattle.model.proofs.Priority.Quiet.{search-ok}
use Rattle.postings_search.proofs.Standing.{lent-under}

some-none : (n : ℕ) → some n ≡ none → ⊥
some-none n e = let z : ◌≡◌ {A = ℕ} 0 1 = cc in omega arith

-- the lengths of the other slices are tested
all_three : (a b o c : Bool) → refusal ((a, 1) ∷ (b && o, 2) ∷ (c, 3) ∷ []) ≡ none → o ≡ true
unfolding refusal
all_three a b true c e = refl
all_three true true false c e = absurd (some-none 2 e)
all_three true false false c e = absurd (some-none 2 e)
all_three false b false c e = absurd (some-none 1 e)

others-true : (s : Lent) (o : Bool) → refusal (accepts s o []) ≡ none → o ≡ true
unfolding accepts
others-true s o e = all_three (limits_ok s.header.limits) (lengths_ok s) o (contents_ok s) e

-- the answer has a word for each row of the tier
abbrev pub others : Header → List ℕ → Bool
others h answer = eqb (length answer) h.limits.tier_rows

module _ (h : Header) (slots words answer : List ℕ) where
  abbrev s : Lent
  s = lent h slots words

  pub room : refusal (accepts s (others h answer) []) ≡ none → h.rows ≤ length answer
  room e =
      let f = stands-few (accepted h slots words (others h answer) [] e).stands in
      let l : length answer ≡ h.limits.tier_rows =
      eqb-true (length answer) h.limits.tier_rows (others-true s (others h answer) e) in
      omega arith

  module _ (atoms : List ℕ) (m : Meter) where
    pub candidates-refused : (r : Refusal) → refusal (accepts s (others h answer) []) ≡ some (number_of r) →
        candidates_end (record { answer = Err r; header = h; meter = m; ticks = 0 }) slots words answer ≡ candidates s atoms answer m
    unfolding candidates
    candidates-refused r e = rw (e, candidates)

    -- the end of a search, with the ledger after it
    ended : SearchEnd → Lent → CandidatesEnd
    ended x l = record { answer = candidates_reply x.answer; ledger = l; found = x.found; meter = x.meter; ticks = made m x.meter }

    pub candidates-done : refusal (accepts s (others h answer) []) ≡ none → (r : Searched) (ps found : List ℕ) (t : ℕ) →
        found_end r found ≡ search_end (model.candidates (ledger_in s) atoms m) (length answer) →
        ps ≡ filed h.limits.tier_rows r.header.stale (rows_in h.rows slots) → t ≡ made m r.meter →
        candidates_end (record { answer = Ok r.answer; header = r.header; meter = r.meter; ticks = t }) slots ps found
        ≡ candidates s atoms answer m
    unfolding candidates ledger_in ended
    candidates-done e r ps found t q p u =
        let x : Search = model.candidates (ledger_in s) atoms m in
        let k = candidates-keep (ledger_in s) atoms m in
        let same : r.header ≡ x.header = ap (λ (y : SearchEnd). y.header) q in
        let after : lent r.header slots ps ≡ lent_of (record { header = x.header; entries = entries_in h.rows slots }) =
        lent-under h slots words (accepted h slots words (others h answer) [] e) r.header ps
        (ap (λ (y : Header). y.limits) same ∙ k.0) (ap (λ (y : Header). y.rows) same ∙ k.1)
        (ap (λ (y : Header). y.founded) same ∙ (search-ok (ledger_in s) atoms m).counted) p
        ∙ ap (λ (y : Header). lent_of (record { header = y; entries = entries_in h.rows slots })) same in
        ap (λ (n : ℕ). candidates_end (record { answer = Ok r.answer; header = r.header; meter = r.meter; ticks = n }) slots ps found) u
        ∙ ap₂ ended q after ∙ sym (rw (e, candidates))
