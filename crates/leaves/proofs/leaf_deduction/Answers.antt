-- `leaf_deduction` meets its contract: what it was not given, or the deduction of the stored row. Assumes nothing.
use Rattle.leaves.proofs.Fitting.{yes, no, told, fits-stored, fits-row, matched-of}
use Rattle.leaves.proofs.Leaving.{deduction-unfit, deduction-unmarked, deduction-done}
use Rattle.leaves.proofs.leaf_deduction.Goals as goal

pub returns-then-not-store : goal.returns-then-not-store
returns-then-not-store c = deduction-unfit _ _ _ _ _ _ _ (no c.store.ensures.0 c.if-not-store.true)

pub returns-then-not-is_region : goal.returns-then-not-is_region
returns-then-not-is_region c =
    deduction-unmarked _ _ _ _ _ _ _ (yes c.store.ensures.0 c.if-not-store.false) (no c.is_region.ensures c.if-not-is_region.true)

pub deduction_times-found-requires : goal.deduction_times-found-requires
deduction_times-found-requires c =
    let x = c.store.ensures in
    matched-of _ _ _ _ (fits-stored _ _ (yes x.0 c.if-not-store.false) _ (told _ x.1 c.if-not-store.false))
    (yes c.is_region.ensures c.if-not-is_region.false)

pub returns : goal.returns
returns c =
    let x = c.store.ensures in
    let f = yes x.0 c.if-not-store.false in
    let there = yes c.is_region.ensures c.if-not-is_region.false in
    let fits = fits-row _ _ f _ (told _ x.1 c.if-not-store.false) in
    deduction-done _ _ _ _ _ _ _ f _ c.deduction_times-found.result there fits
    c.meter_of-meter.ensures c.deduction_times-found.ensures c.put_deduced.ensures
