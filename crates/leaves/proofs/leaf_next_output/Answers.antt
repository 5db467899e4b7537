-- `leaf_next_output` meets its contract: what it was not given, or the next output of the stored row. Assumes nothing.
use Rattle.leaves.proofs.Fitting.{yes, no, told, fits-stored, fits-row, matched-of, pointed-of}
use Rattle.leaves.proofs.Leaving.{next-unfit, next-unmarked, next-unpointed, next-done}
use Rattle.leaves.proofs.leaf_next_output.Goals as goal

pub returns-then-not-store : goal.returns-then-not-store
returns-then-not-store c = next-unfit _ _ _ _ _ _ _ (no c.store.ensures.0 c.if-not-store.true)

pub returns-then-not-is_region : goal.returns-then-not-is_region
returns-then-not-is_region c =
    next-unmarked _ _ _ _ _ _ _ (yes c.store.ensures.0 c.if-not-store.false) (no c.is_region.ensures c.if-not-is_region.true)

pub cursor_ok-requires : goal.cursor_ok-requires
cursor_ok-requires c =
    let x = c.store.ensures in
    record { atoms = _; stored = fits-stored _ _ (yes x.0 c.if-not-store.false) _ (told _ x.1 c.if-not-store.false) }

pub returns-then-not-cursor_ok : goal.returns-then-not-cursor_ok
returns-then-not-cursor_ok c =
    let x = c.store.ensures in
    let f = yes x.0 c.if-not-store.false in
    next-unpointed _ _ _ _ _ _ _ f (yes c.is_region.ensures c.if-not-is_region.false) (fits-row _ _ f _ (told _ x.1 c.if-not-store.false))
    c.cursor_of-k.ensures (no c.cursor_ok.ensures c.if-not-cursor_ok.true)

pub next_publication_output-found-requires : goal.next_publication_output-found-requires
next_publication_output-found-requires c =
    let x = c.store.ensures in
    let s = fits-stored _ _ (yes x.0 c.if-not-store.false) _ (told _ x.1 c.if-not-store.false) in record {
      fact_1 = matched-of _ _ _ _ s (yes c.is_region.ensures c.if-not-is_region.false);
      fact_2 = pointed-of _ _ _ s (yes c.cursor_ok.ensures c.if-not-cursor_ok.false);
    }

pub returns : goal.returns
returns c =
    let x = c.store.ensures in
    let f = yes x.0 c.if-not-store.false in
    next-done _ _ _ _ _ _ _ f (yes c.is_region.ensures c.if-not-is_region.false) (fits-row _ _ f _ (told _ x.1 c.if-not-store.false))
    c.cursor_of-k.ensures _ _ c.next_publication_output-found.result (yes c.cursor_ok.ensures c.if-not-cursor_ok.false)
    c.meter_of-meter.ensures
    c.next_publication_output-found.ensures c.put_cursor.ensures c.put_next.ensures
