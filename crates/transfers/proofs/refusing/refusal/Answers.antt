-- `refusal` meets its contract. One law for each way out. Assumes nothing.
use Rattle.std.proofs.lemmas.Result.{err_from_is_err_and}
use Rattle.model.specs.Refusals.{Lent}
use Rattle.contents.specs.Lent.{lent}
use Rattle.transfers.proofs.Ending.{tier-refused, store-refused, atoms-refused, none-refused}
use Rattle.transfers.proofs.refusing.refusal.Goals.{Start}
use Rattle.transfers.proofs.refusing.refusal.Goals as goal

module _ (t : Start) where
  abbrev T : Lent
  T = lent t.args.tier t.args.tier_slots.now t.args.tier_postings.now

  abbrev S : Lent
  S = lent t.args.store t.args.store_slots.now t.args.store_postings.now

pub returns-in_err-accept : goal.returns-in_err-accept
returns-in_err-accept c =
    let start = (goal.at.returns-in_err-accept c).Start in
    let p = err_from_is_err_and c.from_residual.result c.from_residual.ensures.1 in
    rw (p.1, p.2) (tier-refused (T start) (S start) _ c.in_err-accept.ensures)

pub returns-in_err-accept-2 : goal.returns-in_err-accept-2
returns-in_err-accept-2 c =
    let start = (goal.at.returns-in_err-accept-2 c).Start in
    let p = err_from_is_err_and c.from_residual-in_err-accept-2.result c.from_residual-in_err-accept-2.ensures.1 in
    rw (p.1, p.2) (store-refused (T start) (S start) c.in_ok-accept.ensures _ c.in_err-accept-2.ensures)

pub returns-then-tier-store : goal.returns-then-tier-store
returns-then-tier-store c =
    let start = (goal.at.returns-then-tier-store c).Start in
    atoms-refused (T start) (S start) c.in_ok-accept.ensures c.in_ok-accept-2.ensures c.if-tier-store.true

pub returns : goal.returns
returns c =
    let start = (goal.at.returns c).Start in
    none-refused (T start) (S start) c.in_ok-accept.ensures c.in_ok-accept-2.ensures c.if-tier-store.false
