-- A search changes no limit and no row. Assumes nothing.
use mathlib.Core.Path.{◌≡◌, refl, ap}
use mathlib.Core.Bool.{Bool, true, false, ◌||◌}
use mathlib.Core.List.{List}
use mathlib.Core.Option.{some}
use Prim.Native.Nat.{ℕ}
use lib.Dec.{leb}
use lib.ListN.{length}
use Rattle.lists.specs.Lists.{up_to}
use Rattle.meter.specs.declared.Meter.{Meter}
use Rattle.meter.specs.Tick.{Tick, Ticked, Stopped}
use Rattle.meter.specs.Meter.{ticks}
use Rattle.model.specs.declared.Header.{Header}
use Rattle.model.specs.Records.{Ledger, rows_of, scan_rows, with_full, with_stale}
use Rattle.model.specs.Postings.{postings_of, search_ticks, Search, rebuilt, candidates}
use Rattle.postings.proofs.Answers.{searched-header}

-- stale and full alone change
rebuilt-keeps : (h : Header) (ps atoms : List ℕ) (t : Tick) →
    ((rebuilt h ps atoms t).header.limits ≡ h.limits) × ((rebuilt h ps atoms t).header.rows ≡ h.rows)
unfolding rebuilt with_stale
rebuilt-keeps h ps atoms (Stopped m) = (refl, refl)
rebuilt-keeps h ps atoms (Ticked m) =
    let e = searched-header (with_stale h false) ps atoms (ticks (search_ticks ps atoms) m) in
    (ap (λ (k : Header). k.limits) e, ap (λ (k : Header). k.rows) e)

pub candidates-keep : (l : Ledger) (atoms : List ℕ) (m : Meter) →
    ((candidates l atoms m).header.limits ≡ l.header.limits) × ((candidates l atoms m).header.rows ≡ l.header.rows)
unfolding candidates with_full
candidates-keep l atoms m = go (leb (length l.entries) scan_rows || l.header.full)
  where
    h : Header
    h = l.header

    ps : List ℕ
    ps = postings_of (rows_of l)

    t : Tick
    t = elim h.stale as (λ x. Tick) [ true ↦ ticks (length ps) m | false ↦ Ticked m ]

    go : (b : Bool) → let x = elim b as (λ y. Search) [
      | true ↦ record { header = with_full h false; meter = m; found = some (up_to (length l.entries)) }
      | false ↦ rebuilt h ps atoms t
    ] in (x.header.limits ≡ h.limits) × (x.header.rows ≡ h.rows)
    go true = (refl, refl)
    go false = rebuilt-keeps h ps atoms t
