-- `candidates`: a full scan, a search with the postings ready, or a stop on the way. Assumes nothing.
use mathlib.Core.Path.{◌≡◌, refl, sym, ap, ◌∙◌}
use mathlib.Core.Bool.{Bool, true, false}
use mathlib.Core.List.{List}
use Prim.Native.Nat.{ℕ, ◌-◌}
use native.Mathlib.Omega.{arith}
use lib.ListN.{length, take}
use Rattle.lists.specs.Lists.{sort_of}
use Rattle.meter.specs.Tick.{Tick, Ticked}
use Rattle.meter.specs.Meter.{ticks}
use Rattle.model.specs.declared.CandidatesAnswer.TheVariants as answer
use Rattle.model.specs.Records.{Row, with_full, with_stale}
use Rattle.model.specs.Postings.{postings_of, filed, searched, search_ticks}
use Rattle.slots.specs.Layout.{rows_in}
use Rattle.postings.specs.Steps.{walked}
use Rattle.postings.specs.Filling.{filled_to}
use Rattle.postings.specs.Searching.{ready_ticks, SearchEnd, search_end}
use Rattle.postings.proofs.Filing.{Ready, refiled-ready, refiled-unready, unready-stale}
use Rattle.postings.proofs.Standing.{here-short, part-code, here-searchable, postings-long}
use Rattle.postings.proofs.Answers.{scans, scan-few, scan-full, scan-not, end-scan, end-search, end-stopped, searched-header}
use Rattle.postings.proofs.searching.candidates.Goals.{After-ready_postings, In-Ok}
use Rattle.postings.proofs.searching.candidates.Goals.{then-header-le-SCAN_ROWS-via-then-header-le-SCAN_ROWS}
use Rattle.postings.proofs.searching.candidates.Goals.{then-header-le-SCAN_ROWS-via-else-header-le-SCAN_ROWS+then-header}
use Rattle.postings.proofs.searching.candidates.Goals as goal

module _ (c : After-ready_postings) where
  abbrev rs : List Row
  rs = rows_in c.args.header.rows c.args.slots.now

  -- the ticks of the postings made ready
  abbrev due : Tick
  due = ready_ticks c.args.header.stale (length (postings_of rs)) c.args.work

  no-scan : scans c.args.header ≡ false
  no-scan = scan-not c.args.header c.if-header-le-SCAN_ROWS.false c.if-header.false

module _ (c : In-Ok) where
  abbrev rows : List Row
  rows = rows_in c.args.header.rows c.args.slots.now

  ready : Ready c.args.header.limits.tier_rows rows
      (walked (Ticked c.ready_postings.new.meter) (filled_to c.in-Ok.count c.ready_postings.new.postings))
      c.ready_postings.new.meter (due (goal.at.In-Ok c).After-ready_postings)
  ready = refiled-ready _ _ _ _ _ c.in-Ok.ensures refl

  part : take (c.in-Ok.count - 0) c.ready_postings.new.postings ≡ sort_of (postings_of rows)
  part = part-code c.args.header.limits.tier_rows rows c.ready_postings.new.postings c.in-Ok.count ready.count ready.words

pub returns-then-header-le-SCAN_ROWS : goal.returns-then-header-le-SCAN_ROWS
unfolding with_full
returns-then-header-le-SCAN_ROWS c =
    let a = c.args in
    let yes : scans a.header ≡ true =
    elim c.then-header-le-SCAN_ROWS.branch [
      | then-header-le-SCAN_ROWS-via-then-header-le-SCAN_ROWS w ↦ scan-few a.header w.if-header-le-SCAN_ROWS.true
      | then-header-le-SCAN_ROWS-via-else-header-le-SCAN_ROWS+then-header w ↦ scan-full a.header w.if-header.true
    ] in
    record {
      found = ap {B = SearchEnd}
          (λ (xs : List ℕ). record { answer = answer.Count a.header.rows; header = with_full a.header false; meter = a.work; found = xs })
          c.up_to.ensures
          ∙ end-scan a.header a.slots.now a.postings.now a.atoms.now a.work (length a.answer.now) yes;
      filing = c.requires.fact_1.filing;
    }

pub slice_bounds-search-end : goal.slice_bounds-search-end
slice_bounds-search-end c =
    omega (arith, (ready (goal.at.slice_bounds-search-end c).In-Ok).count, here-short c.requires.fact_1, postings-long c.requires.fact_1)

pub search-requires : goal.search-requires
search-requires c =
    rw (part (goal.at.search-requires c).In-Ok) (here-searchable c.requires.fact_1 (length c.args.answer.now) c.requires.fact_2)

pub returns-in-Ok : goal.returns-in-Ok
unfolding with_stale
returns-in-Ok c =
    let at = goal.at.returns-in-Ok c in
    let made = ready at.In-Ok in
    let a = c.args in
    let e = c.search.ensures in
    let h = with_stale a.header false in
    let n = length a.answer.now in
    let m = c.ready_postings.new.meter in
    record {
      found = e ∙ ap (λ (xs : List ℕ). search_end (searched h xs a.atoms.now (ticks (search_ticks xs a.atoms.now) m)) n) (part at.In-Ok)
          ∙ end-search a.header a.slots.now a.postings.now a.atoms.now a.work m n (no-scan at.After-ready_postings) made.end;
      filing = made.words ∙ ap (λ (s : Bool). filed a.header.limits.tier_rows s (rs at.After-ready_postings))
          (sym (ap (λ (x : SearchEnd). x.header.stale) e ∙ ap (λ x. x.stale) (searched-header h _ a.atoms.now _)));
    }

pub returns-in-Err : goal.returns-in-Err
returns-in-Err c =
    let before = (goal.at.returns-in-Err c).After-ready_postings in
    let a = c.args in
    let m = c.ready_postings.new.meter in
    let tier = a.header.limits.tier_rows in
    let u = refiled-unready tier (rs before) _ m (due before) c.in-Err.ensures refl in
    record {
      found = ap {B = SearchEnd} (λ (xs : List ℕ). record { answer = answer.Stopped; header = a.header; meter = m; found = xs })
          c.fill_zero.ensures
          ∙ end-stopped a.header a.slots.now a.postings.now a.atoms.now a.work m a.answer.now (no-scan before) u.0;
      filing = u.1 ∙ ap (λ (s : Bool). filed tier s (rs before))
          (sym (unready-stale a.header.stale (length (postings_of (rs before))) a.work m u.0));
    }
