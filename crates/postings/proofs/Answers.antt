-- The ends of a search by its ways: whole, stopped, a full scan, with postings made ready. Assumes nothing.
use mathlib.Core.Path.{◌≡◌, refl, sym, ap, ap₂, ◌∙◌}
use mathlib.Core.Bool.{Bool, true, false, ◌||◌, or-true}
use mathlib.Core.List.{List, [], map}
use mathlib.Core.Option.{some}
use Prim.Native.Nat.{ℕ, ◌≤◌, ◌<◌}
use lib.Dec.{leb}
use lib.ListN.{length}
use borrow.Author.Tests.{le-leb, lt-leb}
use Rattle.lists.specs.Lists.{sort_of, concat, pad, up_to, zeroed}
use Rattle.lists.specs.Marks.{mark_all, marked}
use Rattle.lists.proofs.Selects.{length-up_to}
use Rattle.lists.proofs.Marks.{length-mark, marked-positions}
use Rattle.lists.proofs.Pads.{length-zeroed, pad-zeroed}
use Rattle.meter.specs.declared.Meter.{Meter}
use Rattle.meter.specs.Tick.{Tick, Ticked, Stopped}
use Rattle.meter.specs.Meter.{ticks}
use Rattle.model.specs.declared.CandidatesAnswer.TheVariants as answer
use Rattle.model.specs.declared.Header.{Header}
use Rattle.model.specs.Records.{rows_of, scan_rows, with_full, with_stale}
use Rattle.model.specs.Postings.{posted_at, postings_of, positions, search_ticks, Search, searched, rebuilt, candidates}
use Rattle.model.specs.Refusals.{ledger_in}
use Rattle.model.specs.Operations.{candidates_answer, found_words}
use Rattle.model.proofs.Slots.{entries-length}
use Rattle.postings.specs.Steps.{Walk, walked, walk}
use Rattle.slots.specs.Layout.{rows_in}
use Rattle.postings.specs.Searching.{look, looks_all, ready_ticks, Searchable, SearchEnd, search_end, ledger_of}
use Rattle.postings.proofs.Walking.{walk-ticks, walk-whole}
use Rattle.postings.proofs.Finding.{ticks-sort, positions-sort, found-each}
use Rattle.postings.proofs.Marking.{looks-ticks, looks-marks}

-- ---- a search among postings ps, in an answer b that was zeroed
module _ (h : Header) (ps atoms b : List ℕ) (work : Meter) (ms : List ℕ) where
  search-ticks : {t : Tick} → walked t ms ≡ walk look (looks_all ps atoms) (zeroed b) work → t ≡ ticks (search_ticks ps atoms) work
  search-ticks q =
      ap (λ (w : Walk (List ℕ)). w.end) q ∙ walk-ticks look (looks_all ps atoms) (zeroed b) work
      ∙ ap (λ (n : ℕ). ticks n work) (looks-ticks ps atoms)

  all-marks : {m : Meter} → walked (Ticked m) ms ≡ walk look (looks_all ps atoms) (zeroed b) work →
      ms ≡ mark_all (zeroed b) (concat (map (posted_at ps) atoms))
  all-marks {m} q =
      ap (λ (w : Walk (List ℕ)). w.state) q
      ∙ walk-whole look (looks_all ps atoms) (zeroed b) work m (sym (ap (λ (w : Walk (List ℕ)). w.end) q))
      ∙ looks-marks ps atoms (zeroed b)

  -- nothing stopped it
  pub search-whole : (m : Meter) → Searchable (length b) ps → walked (Ticked m) ms ≡ walk look (looks_all ps atoms) (zeroed b) work →
      ◌≡◌ {A =
      SearchEnd} (record { answer = answer.Count (length (marked ms)); header = h; meter = m; found = pad (length ms) (marked ms) })
      (search_end (searched h ps atoms (ticks (search_ticks ps atoms) work)) (length b))
  unfolding searched candidates_answer found_words positions
  search-whole m s q =
      let found = concat (map (posted_at ps) atoms) in
      let long : length ms ≡ length b = ap length (all-marks q) ∙ length-mark (zeroed b) found ∙ length-zeroed b in
      let here : marked ms ≡ positions ps atoms =
      ap marked (all-marks q) ∙ marked-positions b found (found-each (λ v. v < length b) ps atoms s.placed) in
      ap₂ {C = SearchEnd} (λ (k : ℕ) (xs : List ℕ). record { answer = answer.Count (length xs); header = h; meter = m; found = pad k xs })
      long here
      ∙ ap (λ (t : Tick). search_end (searched h ps atoms t) (length b)) (search-ticks q)

  pub search-stopped : (m : Meter) → length ms ≡ length b → walked (Stopped m) ms ≡ walk look (looks_all ps atoms) (zeroed b) work →
      ◌≡◌ {A = SearchEnd} (record { answer = answer.Stopped; header = h; meter = m; found = zeroed ms })
      (search_end (searched h ps atoms (ticks (search_ticks ps atoms) work)) (length b))
  unfolding searched candidates_answer found_words
  search-stopped m l q =
      ap {B = SearchEnd} (λ (xs : List ℕ). record { answer = answer.Stopped; header = h; meter = m; found = xs })
      (sym (pad-zeroed ms) ∙ ap (λ (n : ℕ). pad n []) l)
      ∙ ap (λ (t : Tick). search_end (searched h ps atoms t) (length b)) (search-ticks q)

-- the order of the postings does not matter
pub searched-sort : (h : Header) (ps atoms : List ℕ) (m : Meter) →
    searched h (sort_of ps) atoms (ticks (search_ticks (sort_of ps) atoms) m) ≡ searched h ps atoms (ticks (search_ticks ps atoms) m)
unfolding searched
searched-sort h ps atoms m =
    ap (λ (n : ℕ). searched h (sort_of ps) atoms (ticks n m)) (ticks-sort ps atoms) ∙ go (ticks (search_ticks ps atoms) m)
  where
    go : (t : Tick) → searched h (sort_of ps) atoms t ≡ searched h ps atoms t
    go (Ticked k) = ap {B = Search} (λ (xs : List ℕ). record { header = h; meter = k; found = some xs }) (positions-sort ps atoms)
    go (Stopped k) = refl

-- ---- the candidates of a ledger by its words
-- whether all rows are scanned
abbrev pub scans : Header → Bool
scans h = leb h.rows scan_rows || h.full

module _ (h : Header) where
  pub scan-few : h.rows ≤ scan_rows → scans h ≡ true
  scan-few l = ap (λ (b : Bool). b || h.full) (le-leb h.rows scan_rows l)

  pub scan-full : h.full ≡ true → scans h ≡ true
  scan-full e = ap (λ (b : Bool). leb h.rows scan_rows || b) e ∙ or-true (leb h.rows scan_rows)

  pub scan-not : scan_rows < h.rows → h.full ≡ false → scans h ≡ false
  scan-not l e = ap₂ ◌||◌ (lt-leb h.rows scan_rows l) e

module _ (h : Header) (slots postings atoms : List ℕ) (m : Meter) where
  pub candidates-scan : scans h ≡ true
      → candidates (ledger_of h slots postings) atoms m ≡ record { header = with_full h false; meter = m; found = some (up_to h.rows) }
  unfolding candidates ledger_in
  candidates-scan e =
      rw (entries-length h.rows slots, e, candidates)
      (ap {B = Search} (λ (n : ℕ). record { header = with_full h false; meter = m; found = some (up_to n) }) (entries-length h.rows slots))

  pub candidates-search : scans h ≡ false →
      candidates (ledger_of h slots postings) atoms m
      ≡ rebuilt h (postings_of (rows_in h.rows slots)) atoms (ready_ticks h.stale (length (postings_of (rows_in h.rows slots))) m)
  unfolding candidates ledger_in rows_of rows_in ready_ticks
  candidates-search e = rw (entries-length h.rows slots, e, candidates) refl

  -- ---- the ends, with n words for the answer
  pub end-scan : (n : ℕ) → scans h ≡ true →
      ◌≡◌ {A = SearchEnd} (record { answer = answer.Count h.rows; header = with_full h false; meter = m; found = pad n (up_to h.rows) })
      (search_end (candidates (ledger_of h slots postings) atoms m) n)
  unfolding candidates_answer found_words
  end-scan n e =
      ap {B =
      SearchEnd} (λ (k : ℕ). record { answer = answer.Count k; header = with_full h false; meter = m; found = pad n (up_to h.rows) })
      (sym (length-up_to h.rows))
      ∙ ap (λ (x : Search). search_end x n) (sym (candidates-scan e))

  abbrev ps : List ℕ
  ps = postings_of (rows_in h.rows slots)

  end_by : {t : Tick} (n : ℕ) → scans h ≡ false → t ≡ ready_ticks h.stale (length ps) m →
      search_end (rebuilt h ps atoms t) n ≡ search_end (candidates (ledger_of h slots postings) atoms m) n
  end_by n e q = ap (λ (t : Tick). search_end (rebuilt h ps atoms t) n) q ∙ ap (λ (x : Search). search_end x n) (sym (candidates-search e))

  pub end-search : (k : Meter) (n : ℕ) → scans h ≡ false →
      Ticked k ≡ ready_ticks h.stale (length (postings_of (rows_in h.rows slots))) m →
      search_end
      (searched (with_stale h false) (sort_of (postings_of (rows_in h.rows slots))) atoms
      (ticks (search_ticks (sort_of (postings_of (rows_in h.rows slots))) atoms) k)) n
      ≡ search_end (candidates (ledger_of h slots postings) atoms m) n
  unfolding rebuilt
  end-search k n e q = ap (λ (x : Search). search_end x n) (searched-sort (with_stale h false) ps atoms k) ∙ end_by n e q

  pub end-stopped : (k : Meter) (b : List ℕ) → scans h ≡ false →
      Stopped k ≡ ready_ticks h.stale (length (postings_of (rows_in h.rows slots))) m →
      ◌≡◌ {A = SearchEnd} (record { answer = answer.Stopped; header = h; meter = k; found = zeroed b })
      (search_end (candidates (ledger_of h slots postings) atoms m) (length b))
  unfolding rebuilt candidates_answer found_words
  end-stopped k b e q =
      ap {B = SearchEnd} (λ (xs : List ℕ). record { answer = answer.Stopped; header = h; meter = k; found = xs }) (sym (pad-zeroed b))
      ∙ end_by (length b) e q

-- a search keeps its header
pub searched-header : (h : Header) (ps atoms : List ℕ) (t : Tick) → (searched h ps atoms t).header ≡ h
unfolding searched
searched-header h _ _ (Ticked _) = refl
searched-header h _ _ (Stopped _) = refl
