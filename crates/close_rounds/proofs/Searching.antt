-- One round of a closing: the search, and the rows that it found. Assumes nothing.
use mathlib.Core.Path.{◌≡◌, refl, sym, ap, ap₂, ◌∙◌, subst}
use mathlib.Core.Bool.{Bool, true, false}
use mathlib.Core.List.{List, map}
use mathlib.Core.Option.{Option, none, some}
use Rattle.std.specs.Prelude.{Result, Ok, Err, IfOk}
use Prim.Native.Nat.{ℕ, ◌-◌, ◌≤◌, ◌<◌}
use native.Mathlib.Nat.{le_refl, sub-zero}
use native.Mathlib.Omega.{arith}
use lib.ListN.{length, take, replicate, length-append}
use Rattle.lists.specs.Lists.{sort_of, concat, pad, up_to}
use Rattle.lists.specs.Counts.{Each}
use Rattle.lists.proofs.Selects.{range-from}
use Rattle.lists.proofs.Sorts.{sort-each, distinct-each}
use Rattle.lists.proofs.Pads.{take-pad}
use Rattle.meter.specs.declared.Meter.{Meter}
use Rattle.meter.specs.Tick.{Tick, Ticked, Stopped}
use Rattle.meter.specs.Meter.{ticks}
use Rattle.model.specs.declared.Header.{Header}
use Rattle.model.specs.Contradicted.{Contradicted}
use Rattle.model.specs.declared.CandidatesAnswer.TheVariants as answer
use Rattle.model.specs.Records.{with_stale}
use Rattle.model.specs.Postings.{Search, searched, rebuilt, search_ticks, positions, posted_at, postings_of, filed, candidates}
use Rattle.model.specs.Refusals.{ledger_in}
use Rattle.model.specs.Operations.{candidates_answer, found_words}
use Rattle.model.specs.Closing.{State, Turn, halted, round}
use Rattle.postings.specs.declared.searching.Searched.{Searched}
use Rattle.slots.specs.Layout.{rows_in}
use Rattle.postings.specs.Searching.{ready_ticks, SearchEnd, search_end, found_end, ledger_of as lent_ledger}
use Rattle.slots.specs.Standing.{Stands}
use Rattle.postings.proofs.Answers.{scans, candidates-scan, candidates-search}
use Rattle.postings.proofs.Finding.{positions-sort, found-each}
use Rattle.postings.proofs.Standing.{here-searchable}
use Rattle.slots.proofs.Holding.{stands-under}
use Rattle.postings.proofs.Keeping.{candidates-keep}
use Rattle.close_note.specs.Noting.{Gathered}
use Rattle.close_publish.specs.declared.Halt.{Halt}
use Rattle.close_publish.specs.declared.Halt.TheVariants.{Stopped as HaltStopped}
use Rattle.close_publish.specs.Turns.{ledger_of, beside, state, ended_as}
use Rattle.close_publish.specs.Standing.{Standing}
use Rattle.close_rounds.specs.Running.{Running}
use Rattle.close_rounds.specs.Rounds.{state_in, one_round, Under}

-- ---- what a search finds are rows
abbrev FoundBelow : ℕ → Option (List ℕ) → Type 0
FoundBelow n none = Unit {0}
FoundBelow n (some ps) = Each (λ p. p < n) ps

module _ (h : Header) (slots postings : List ℕ) (s : Stands h slots postings) (atoms : List ℕ) (m : Meter) where
  abbrev ps : List ℕ
  ps = postings_of (rows_in h.rows slots)

  sorted-below : Each (λ p. p < h.rows) (positions (sort_of ps) atoms)
  unfolding positions
  sorted-below =
      let found : List ℕ = concat (map (posted_at (sort_of ps)) atoms) in
      distinct-each (λ p. p < h.rows) (sort_of found)
      (sort-each (λ p. p < h.rows) found
      (found-each (λ p. p < h.rows) (sort_of ps) atoms (here-searchable s h.rows (le_refl h.rows)).placed))

  posted-below : Each (λ p. p < h.rows) (positions ps atoms)
  posted-below = subst (λ (l : List ℕ). Each (λ p. p < h.rows) l) (positions-sort ps atoms) sorted-below

  scan-below : Each (λ p. p < h.rows) (up_to h.rows)
  unfolding up_to
  scan-below v t = let k = range-from 0 h.rows v t in omega arith

  searched-below : (k : Header) (t : Tick) → FoundBelow h.rows (searched k ps atoms t).found
  unfolding searched
  searched-below k (Stopped x) = tt
  searched-below k (Ticked x) = posted-below

  rebuilt-below : (t : Tick) → FoundBelow h.rows (rebuilt h ps atoms t).found
  unfolding rebuilt
  rebuilt-below (Stopped x) = tt
  rebuilt-below (Ticked x) = searched-below (with_stale h false) (ticks (search_ticks ps atoms) x)

  pub found_below : FoundBelow h.rows (candidates (lent_ledger h slots postings) atoms m).found
  found_below = go (scans h) refl
    where
      go : (b : Bool) → scans h ≡ b → FoundBelow h.rows (candidates (lent_ledger h slots postings) atoms m).found
      go true e = subst (λ (x : Search). FoundBelow h.rows x.found) (sym (candidates-scan h slots postings atoms m e)) scan-below
      go false e =
          subst (λ (x : Search). FoundBelow h.rows x.found) (sym (candidates-search h slots postings atoms m e))
          (rebuilt-below (ready_ticks h.stale (length ps) m))

-- ---- the words that run are those that the rows of a round stand in
pub runs-standing : (h : Header) (slots postings held cut : List ℕ) → Running h slots postings held cut
    → Standing h.limits.atoms h.rows (rows_in h.rows slots) slots held cut
runs-standing h slots postings held cut r = record { holds = r.stands.held; same = refl; region = r.region }

-- they run on under the header of a search, and after the rows were read
pub runs-under : (h k : Header) → Under h k → (slots postings held cut words : List ℕ) → Running h slots postings held cut
    → words ≡ filed h.limits.tier_rows k.stale (rows_in h.rows slots) → Running k slots words held cut
runs-under h k u slots postings held cut words r p = record {
  stands = stands-under h k slots postings words r.stands u.limits u.rows p;
  region = rw u.limits r.region;
}

pub runs_on : (h : Header) (slots postings held cut slots' held' cut' : List ℕ) → Running h slots postings held cut
    → Standing h.limits.atoms h.rows (rows_in h.rows slots) slots' held' cut'
    → length slots' ≡ length slots → Running h slots' (filed h.limits.tier_rows h.stale (rows_in h.rows slots')) held' cut'
runs_on h slots postings held cut slots' held' cut' r s e = record {
  stands = record { held = s.holds; long = e ∙ r.stands.long; filing = refl };
  region = s.region;
}

-- ---- the code's answer
none_found : (o : Option (List ℕ)) → ((c : ℕ) → candidates_answer o ≡ answer.Count c → ⊥) → o ≡ none
unfolding candidates_answer
none_found none t = refl
none_found (some found) t = absurd (t _ refl)

record Found (o : Option (List ℕ)) (c n : ℕ) (ws : List ℕ) : Type 0 where
  at : List ℕ
  is : o ≡ some at
  count : c ≡ length at
  words : ws ≡ pad n at

some-found : (o : Option (List ℕ)) (c n : ℕ) (ws : List ℕ) → answer.Count c ≡ candidates_answer o → ws ≡ found_words o n → Found o c n ws
unfolding candidates_answer found_words
some-found none c n ws a w = absurd (let z : ◌≡◌ {A = ℕ} 0 1 = cc in omega arith)
some-found (some ps) c n ws a w = record { at = ps; is = refl; count = (cc); words = w }

pad-fits : (n : ℕ) (xs : List ℕ) → length (pad n xs) ≡ n → length xs ≤ n
unfolding pad
pad-fits n xs e = let a = length-append xs (replicate (n - length xs) 0) in omega arith

-- a round that does not go on says nothing of the scratch
pub new-ended : (g : Result ℕ Halt) (ys ds : List ℕ) → ((k : ℕ) → g ≡ Ok k → ⊥) → IfOk g (λ k. Gathered k ys ds)
new-ended (Ok k) ys ds i = absurd (i k refl)
new-ended (Err e) ys ds i = tt

pub stopped-ended : {A : Type 0} (a : A) → ◌≡◌ {A = Result A Halt} (Err HaltStopped) (Ok a) → ⊥
stopped-ended a e = let z : ◌≡◌ {A = ℕ} 0 1 = cc in omega arith

-- ---- a round
module _ (h : Header) (slots postings held cut ys : List ℕ) (k : ℕ) (m : Meter) (o : Contradicted)
    (run : Running h slots postings held cut) where
  abbrev rows : ℕ
  rows = h.rows

  abbrev search : Search
  search = candidates (ledger_of h rows slots) (take k ys) m

  abbrev before : State
  before = state_in h slots held cut m o

  lent_is : (as' : List ℕ) → candidates (lent_ledger h slots postings) as' m ≡ candidates (ledger_of h rows slots) as' m
  unfolding ledger_in
  lent_is as' = refl

  after : Option (List ℕ) → Turn
  after z =
      let t : State = state (beside (ledger_of search.header rows slots) o) held cut search.meter in
      elim z [ none ↦ halted t | some ps ↦ round h.limits.atoms ps t ]

  one-is : one_round h.limits.atoms (take k ys) before ≡ after search.found
  unfolding one_round after
  one-is = refl

  module _ (f : Searched) (xs xs' : List ℕ)
      (q : found_end f xs' ≡ search_end (candidates (lent_ledger h slots postings) (take (k - 0) ys) m) (length xs)) where
    end_is : found_end f xs' ≡ search_end search (length xs)
    end_is =
        q ∙ ap (λ (j : ℕ). search_end (candidates (lent_ledger h slots postings) (take j ys) m) (length xs)) (sub-zero k)
        ∙ ap (λ (x : Search). search_end x (length xs)) (lent_is (take k ys))

    header_is : f.header ≡ search.header
    header_is = ap (λ (y : SearchEnd). y.header) end_is

    meter-is : f.meter ≡ search.meter
    meter-is = ap (λ (y : SearchEnd). y.meter) end_is

    pub search-under : Under h f.header
    search-under =
        let c = candidates-keep (ledger_of h rows slots) (take k ys) m in
        record { limits = ap (λ (y : Header). y.limits) header_is ∙ c.0; rows = ap (λ (y : Header). y.rows) header_is ∙ c.1 }

    -- the state after the search, by the code's header
    state-is : (slots held cut : List ℕ) (m : Meter) (x : Contradicted)
        → state_in f.header slots held cut m x ≡ state (beside (ledger_of f.header rows slots) x) held cut m
    state-is slots held cut m x = ap (λ (n : ℕ). state (beside (ledger_of f.header n slots) x) held cut m) search-under.rows

    searched-is : state (beside (ledger_of f.header rows slots) o) held cut f.meter
        ≡ state (beside (ledger_of search.header rows slots) o) held cut search.meter
    searched-is = ap₂ (λ (x : Header) (y : Meter). state (beside (ledger_of x rows slots) o) held cut y) header_is meter-is

    pub search-runs : (postings' : List ℕ) → postings' ≡ filed h.limits.tier_rows f.header.stale (rows_in rows slots)
        → Running f.header slots postings' held cut
    search-runs postings' p = runs-under h f.header search-under slots postings held cut postings' run p

    pub search-stopped : ((c : ℕ) → f.answer ≡ answer.Count c → ⊥)
        → halted (state_in f.header slots held cut f.meter o) ≡ one_round h.limits.atoms (take k ys) before
    unfolding after
    search-stopped i =
        let z = none_found search.found (λ c q. i c (ap (λ (y : SearchEnd). y.answer) end_is ∙ q)) in
        ap halted (state-is slots held cut f.meter o ∙ searched-is) ∙ sym (one-is ∙ ap after z)

    module _ (c : ℕ) (a : f.answer ≡ answer.Count c) where
      found : Found search.found c (length xs) xs'
      found =
          some-found search.found c (length xs) xs' (sym a ∙ ap (λ (y : SearchEnd). y.answer) end_is)
          (ap (λ (y : SearchEnd). y.found) end_is)

      pub search-fits : length xs' ≡ length xs → c ≤ length xs'
      search-fits e =
          let w = found in
          let l = pad-fits (length xs) w.at (sym (ap length w.words) ∙ e) in
          let n = w.count in
          omega arith

      part-is : take (c - 0) xs' ≡ found.at
      part-is = let w = found in ap₂ (λ (i : ℕ) (ws : List ℕ). take i ws) (sub-zero c ∙ w.count) w.words ∙ take-pad (length xs) w.at

      pub search-each : Each (λ p. p < rows) (take (c - 0) xs')
      search-each =
          let b = found_below h slots postings run.stands (take k ys) m in
          subst (λ (ps : List ℕ). Each (λ p. p < rows) ps) (sym part-is)
          (subst (FoundBelow rows) (ap (λ (x : Search). x.found) (lent_is (take k ys)) ∙ found.is) b)

      pub round-turn : {A : Type 0} (g : Result A Halt) (slots' held' cut' : List ℕ) (m' : Meter) (o' : Contradicted)
          → ((k : Header)
          → ended_as g (state (beside (ledger_of k rows slots') o') held' cut' m')
          ≡ round h.limits.atoms (take (c - 0) xs') (state (beside (ledger_of k rows slots) o) held cut f.meter))
          → ended_as g (state_in f.header slots' held' cut' m' o') ≡ one_round h.limits.atoms (take k ys) before
      unfolding after
      round-turn g slots' held' cut' m' o' t =
          ap (ended_as g) (state-is slots' held' cut' m' o') ∙ t f.header
          ∙ ap₂ (λ (ps : List ℕ) (s : State). round h.limits.atoms ps s) part-is searched-is
          ∙ sym (one-is ∙ ap after found.is)

      pub round-runs : (postings' slots' held' cut' : List ℕ)
          → postings' ≡ filed h.limits.tier_rows f.header.stale (rows_in rows slots)
          → Standing h.limits.atoms rows (rows_in rows slots) slots' held' cut' → length slots' ≡ length slots
          → Running f.header slots' postings' held' cut'
      round-runs postings' slots' held' cut' p s e =
          runs-under h f.header search-under slots' _ held' cut' postings'
          (runs_on h slots postings held cut slots' held' cut' run s e)
          (p ∙ ap (filed h.limits.tier_rows f.header.stale) (sym s.same))
