-- `rebuild_postings`: a whole filling is sorted, a stopped one zeroed. Assumes nothing.
use mathlib.Core.Path.{◌≡◌, refl, sym, ap, ◌∙◌}
use mathlib.Core.List.{List}
use Prim.Native.Nat.{ℕ, ◌≤◌}
use native.Mathlib.Omega.{arith}
use lib.ListN.{length, take}
use Rattle.meter.specs.Tick.{Ticked, Stopped}
use Rattle.model.specs.Records.{Row}
use Rattle.model.specs.Postings.{postings_of}
use Rattle.postings.specs.Steps.{walked}
use Rattle.slots.specs.Layout.{rows_in}
use Rattle.postings.specs.Filling.{filled_to}
use Rattle.postings.proofs.Filing.{filling-count, filling-front, refiled-whole, refiled-stopped}
use Rattle.postings.proofs.Standing.{rows-room, here-short, here-low, postings-long}
use Rattle.postings.proofs.filling.rebuild_postings.Goals.{After-post_rows, In-Ok}
use Rattle.postings.proofs.filling.rebuild_postings.Goals as goal

module _ (c : After-post_rows) where
  abbrev rs : List Row
  rs = rows_in c.args.header.rows c.args.slots.now

  short : length (postings_of rs) ≤ length c.args.postings.now
  short = omega (arith, here-short c.requires, postings-long c.requires)

module _ (c : In-Ok) where
  count : c.in-Ok.count ≡ length (postings_of (rows_in c.args.header.rows c.args.slots.now))
  count = filling-count _ _ _ _ _ c.in-Ok.ensures refl

  front : take c.in-Ok.count c.post_rows.new.postings ≡ postings_of (rows_in c.args.header.rows c.args.slots.now)
  front = filling-front _ _ _ _ _ c.in-Ok.ensures refl (short (goal.at.In-Ok c).After-post_rows)

pub post_rows-requires : goal.post_rows-requires
post_rows-requires c = rows-room (length c.args.postings.now) c.requires (omega (arith, postings-long c.requires))

pub sort-requires-clause-n_in_bounds : goal.sort-requires-clause-n_in_bounds
sort-requires-clause-n_in_bounds c =
    let at = goal.at.sort-requires-clause-n_in_bounds c in
    omega (arith, count at.In-Ok, short at.After-post_rows)

pub sort-requires-clause-each : goal.sort-requires-clause-each
sort-requires-clause-each c =
    rw (front (goal.at.sort-requires-clause-each c).In-Ok) (λ v h. omega (arith, here-low c.requires v h))

pub zero_from-requires : goal.zero_from-requires
zero_from-requires c =
    let at = goal.at.zero_from-requires c in
    omega (arith, count at.In-Ok, short at.After-post_rows)

pub returns-in-Ok : goal.returns-in-Ok
returns-in-Ok c =
    let a = c.args in
    ap (λ (w : List ℕ). walked (Ticked c.post_rows.new.meter) (filled_to c.in-Ok.count w)) c.zero_from.ensures
    ∙ refiled-whole _ _ _ _ _ a.header.limits.tier_rows _ c.in-Ok.ensures refl (short (goal.at.returns-in-Ok c).After-post_rows)
    (omega (arith, postings-long c.requires)) c.sort.ensures

pub returns-in-Err : goal.returns-in-Err
returns-in-Err c =
    ap (λ (w : List ℕ). walked (Stopped c.post_rows.new.meter) (filled_to 0 w)) c.zero_from-in-Err.ensures
    ∙ refiled-stopped _ _ _ _ _ c.args.header.limits.tier_rows _ refl (sym c.in-Err.ensures) (omega (arith, postings-long c.requires))
