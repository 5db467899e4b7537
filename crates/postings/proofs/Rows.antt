-- The rows of slots as a filling meets them: side by side, then row by row. Assumes nothing.
use mathlib.Core.Path.{◌≡◌, sym, ap, ap₂, ◌∙◌}
use mathlib.Core.List.{List, [], ◌∷◌, ◌++◌}
use Prim.Native.Nat.{ℕ, ◌+◌, ◌*◌, ◌≤◌, ◌<◌}
use native.Mathlib.Numerals.{add-one}
use native.Mathlib.Omega.{arith}
use lib.ListN.{length}
use Rattle.meter.specs.declared.Meter.{Meter}
use Rattle.meter.specs.Tick.{Stopped}
use Rattle.model.specs.Records.{posting_words}
use Rattle.model.specs.Slots.{row_in}
use Rattle.model.specs.Postings.{row_postings, postings_from, postings_of}
use Rattle.slots.specs.Cursor.{list_of}
use Rattle.slots.specs.Layout.{condition_side, output_side, Laid, Stored, slot_at, rows_in}
use Rattle.slots.proofs.Storing.{laid-stored}
use Rattle.slots.proofs.Rows.{rows_from, rows_all, rows_next, rows_none, rows-length, rows_at}
use Rattle.postings.specs.Steps.{Walk, onward, walk}
use Rattle.postings.specs.Filling.{Filled, put, filled_to, side_postings, Postable, RowPostable, RowsPostable}
use Rattle.postings.proofs.Walking.{walk-append, walk-stopped}
use Rattle.postings.proofs.Fills.{fill-next}
use Rattle.postings.proofs.Posting.{RowFit, row-fit, row-sides, row-short, side-short, AllFit}

-- ---- the two sides of a row
stored-fit : {n : ℕ} {ws : List ℕ} → Stored n ws → RowFit n (row_in ws)
stored-fit {n} {ws} s = row-fit n (row_in ws) s.row

module _ {ws : List ℕ} {p at n : ℕ} where
  pub row_laid : RowPostable ws p at n → Laid ws
  row_laid f = laid-stored f.holds.atoms ws f.holds.stored

  fit : (f : RowPostable ws p at n) → RowFit f.holds.atoms (row_in ws)
  fit f = stored-fit f.holds.stored

  pub first-side : RowPostable ws p at n → Postable ws (condition_side ws) p at n
  first-side f =
      let e = (row_laid f).conditions in
      record {
        sound = (row_laid f).first;
        low = rw e (λ c h. omega (arith, f.holds.stored.atoms, (fit f).conditions.low c h));
        place = f.place;
        room = omega (arith, ap length e, (fit f).few, f.room);
      }

  -- after the conditions
  pub second-side : RowPostable ws p at n → (r : Walk Filled) (b : List ℕ) (m : Meter) →
      r ≡ walk put (side_postings p (list_of ws (condition_side ws))) (filled_to at b) m → Postable ws (output_side ws) p r.state.next n
  second-side f r b m q =
      let e = (row_laid f).outputs in
      let cs = list_of ws (condition_side ws) in
      record {
        sound = (row_laid f).second;
        low = rw e (λ c h. omega (arith, f.holds.stored.atoms, (fit f).outputs.low c h));
        place = f.place;
        room = omega (
          arith,
          ap length e,
          ap length (row_laid f).conditions,
          (fit f).few,
          (fit f).many,
          f.room,
          ap (λ (w : Walk Filled). w.state.next) q,
          fill-next (side_postings p cs) at b m,
          side-short p cs,
        );
      }

  row-parts : RowPostable ws p at n → row_postings p (row_in ws)
      ≡ side_postings p (list_of ws (condition_side ws)) ++ side_postings p (list_of ws (output_side ws))
  row-parts f =
      row-sides f.holds.atoms p (row_in ws) (fit f)
      ∙ ap₂ (λ (x y : List ℕ). side_postings p x ++ side_postings p y) (sym (row_laid f).conditions) (sym (row_laid f).outputs)

  -- the row, by how its conditions ended
  pub row-walk : RowPostable ws p at n → (r : Walk Filled) (b : List ℕ) (m : Meter) →
      r ≡ walk put (side_postings p (list_of ws (condition_side ws))) (filled_to at b) m →
      walk put (row_postings p (row_in ws)) (filled_to at b) m
      ≡ onward r.end r.state (walk put (side_postings p (list_of ws (output_side ws))))
  row-walk f r b m q =
      rw (row-parts f) (walk-append put (side_postings p (list_of ws (condition_side ws))) (side_postings p (list_of ws (output_side ws)))
      (filled_to at b) m q)

  -- stopped in its conditions, the row is stopped
  pub row-stopped : RowPostable ws p at n → (b : List ℕ) (m k : Meter)
      → Stopped k ≡ (walk put (side_postings p (list_of ws (condition_side ws))) (filled_to at b) m).end
      → Stopped k ≡ (walk put (row_postings p (row_in ws)) (filled_to at b) m).end
  row-stopped f b m k e =
      rw (row-parts f) (walk-stopped put (side_postings p (list_of ws (condition_side ws))) (side_postings p (list_of ws (output_side ws)))
      (filled_to at b) m k e)

-- ---- the rows of slots
pub rows_start : (n : ℕ) (ws : List ℕ) → postings_from 0 (rows_from n ws 0) ≡ postings_of (rows_in n ws)
unfolding postings_of
rows_start n ws = ap (postings_from 0) (rows_all n ws)

pub rows-first : (n : ℕ) (ws : List ℕ) → 0 < n → rows_in n ws ≡ row_in (slot_at ws 0) ∷ rows_from n ws 1
rows-first n ws l =
    let e : 0 + 1 ≡ 1 = omega arith in
    sym (rows_all n ws) ∙ rows_next n ws 0 l ∙ ap (λ (k : ℕ). row_in (slot_at ws 0) ∷ rows_from n ws k) e

pub rows-turn : (n : ℕ) (ws : List ℕ) (p : ℕ) → p < n →
    postings_from p (rows_from n ws p) ≡ row_postings p (row_in (slot_at ws p)) ++ postings_from (p + 1) (rows_from n ws (p + 1))
unfolding postings_from
rows-turn n ws p l =
    ap (postings_from p) (rows_next n ws p l)
    ∙ ap (λ (k : ℕ). row_postings p (row_in (slot_at ws p)) ++ postings_from k (rows_from n ws (p + 1))) (sym (add-one p))

pub rows_end : (n : ℕ) (ws : List ℕ) (p : ℕ) → n ≤ p → postings_from p (rows_from n ws p) ≡ []
unfolding postings_from
rows_end n ws p l = ap (postings_from p) (rows_none n ws p l)

-- ---- a filling of all rows
module _ {rows : ℕ} {ws : List ℕ} {n : ℕ} where
  pub all-rows : (f : RowsPostable rows ws n) → AllFit f.held.atoms (rows_in rows ws)
  all-rows f i d l =
      let k : i < rows = omega (arith, rows-length rows ws) in rw (rows_at rows ws i d k) (stored-fit (f.held.over.stored i k))

  pub row_room : RowsPostable rows ws n → (p at : ℕ) → p < rows → at ≤ posting_words * p → RowPostable (slot_at ws p) p at n
  row_room f p at l h =
      record {
        holds = record { atoms = f.held.atoms; stored = f.held.over.stored p l };
        place = omega (arith, f.held.over.few);
        room = omega (arith, f.room);
      }

  -- where the next row begins
  pub row_next : RowsPostable rows ws n → (p at : ℕ) (b : List ℕ) (m : Meter) (r : Walk Filled) → p < rows → at ≤ posting_words * p →
      r ≡ walk put (row_postings p (row_in (slot_at ws p))) (filled_to at b) m → r.state.next ≤ posting_words * (p + 1)
  row_next f p at b m r l h q =
      let t = row_in (slot_at ws p) in
      omega (
        arith,
        ap (λ (w : Walk Filled). w.state.next) q,
        fill-next (row_postings p t) at b m,
        row-short f.held.atoms p t (stored-fit (f.held.over.stored p l)),
      )

-- the rows from position p on, by how the row there ended
pub rows-walk : (rows : ℕ) (ws : List ℕ) (p at : ℕ) (b : List ℕ) (m : Meter) (r : Walk Filled) → p < rows →
    r ≡ walk put (row_postings p (row_in (slot_at ws p))) (filled_to at b) m →
    walk put (postings_from p (rows_from rows ws p)) (filled_to at b) m
    ≡ onward r.end r.state (walk put (postings_from (p + 1) (rows_from rows ws (p + 1))))
rows-walk rows ws p at b m r l q =
    ap (λ (k : List ℕ). walk put k (filled_to at b) m) (rows-turn rows ws p l)
    ∙ walk-append put (row_postings p (row_in (slot_at ws p))) (postings_from (p + 1) (rows_from rows ws (p + 1))) (filled_to at b) m q

pub rows-stopped : (rows : ℕ) (ws : List ℕ) (p at : ℕ) (b : List ℕ) (m k : Meter) → p < rows
    → Stopped k ≡ (walk put (row_postings p (row_in (slot_at ws p))) (filled_to at b) m).end
    → Stopped k ≡ (walk put (postings_from p (rows_from rows ws p)) (filled_to at b) m).end
rows-stopped rows ws p at b m k l e =
    rw (rows-turn rows ws p l) (walk-stopped put (row_postings p (row_in (slot_at ws p)))
    (postings_from (p + 1) (rows_from rows ws (p + 1))) (filled_to at b) m k e)
