-- A row that fits an offer, and the ledger with one attempt more. Assumes nothing.
use mathlib.Core.Path.{◌≡◌, refl, sym, ap, ◌∙◌, subst}
use mathlib.Core.Bool.{Bool, true, ◌&&◌}
use mathlib.Core.List.{List, []}
use Prim.Native.Nat.{ℕ, ◌≤◌, ◌<◌}
use native.Mathlib.Nat.{le_trans}
use lib.Dec.{leb, ltb}
use lib.ListN.{length}
use borrow.Author.Tests.{leb-true, le-leb, ltb-true}
use Rattle.lists.proofs.Bools.{T_true, and_both, and_yes}
use Rattle.words.specs.Region.{atoms_ok}
use Rattle.model.specs.declared.LearningLimits.{LearningLimits}
use Rattle.model.specs.declared.Header.{Header}
use Rattle.model.specs.Records.{Row, is_row, is_row_over, within, limits_ok, max_rows, max_conditions, max_outputs}
use Rattle.model.specs.Slots.{row_in}
use Rattle.model.specs.Refusals.{Lent, refusal, accepts, entry_ok}
use Rattle.model.proofs.Headers.{set_attempts}
use Rattle.model.proofs.Priority.Steps.{accepted}
use mathlib.Core.Option.{none}
use Rattle.model.specs.Operations.{fits_offer}
use Rattle.contents.specs.Accepted.{Accepted}
use Rattle.slots.specs.Layout.{proposal}
use Rattle.slots.proofs.Storing.{row-proposal}
use Rattle.slots.proofs.Holding.{stands-under}
use Rattle.contents.proofs.Limits.{limits-atoms}
use Rattle.row_propose.specs.Proposed.{Proposed}
use Rattle.row_propose.proofs.Proposing.{proposed-over}
use Rattle.offer.specs.Ends.{may_capture}

module _ (l : LearningLimits) (ok : limits_ok l ≡ true) where
  sizes : (leb l.founded_conditions max_conditions && leb l.founded_outputs max_outputs) ≡ true
  unfolding limits_ok
  sizes =
      (and_both (leb 1 l.tier_rows && leb l.tier_rows max_rows) _
      (and_both (atoms_ok l.atoms) _ ok).1).1

  most-conditions : l.founded_conditions ≤ max_conditions
  most-conditions =
      leb-true l.founded_conditions max_conditions
      (and_both (leb l.founded_conditions max_conditions) (leb l.founded_outputs max_outputs) sizes).0

  pub most-outputs : l.founded_outputs ≤ max_outputs
  most-outputs =
      leb-true l.founded_outputs max_outputs
      (and_both (leb l.founded_conditions max_conditions) (leb l.founded_outputs max_outputs) sizes).1

  module _ (t : Row) (fit : fits_offer l t ≡ true) where
    parts : (within l.founded_conditions l.founded_outputs t ≡ true) × (is_row_over l.atoms t ≡ true)
    unfolding fits_offer
    parts = and_both (within l.founded_conditions l.founded_outputs t) (is_row_over l.atoms t) fit

    lengths : (leb (length t.conditions) l.founded_conditions ≡ true) × (leb (length t.outputs) l.founded_outputs ≡ true)
    unfolding within
    lengths =
        and_both (leb (length t.conditions) l.founded_conditions) (leb (length t.outputs) l.founded_outputs) parts.0

    pub fit-conditions : length t.conditions ≤ max_conditions
    fit-conditions = le_trans (leb-true (length t.conditions) l.founded_conditions lengths.0) most-conditions

    pub fit-outputs : length t.outputs ≤ max_outputs
    fit-outputs = le_trans (leb-true (length t.outputs) l.founded_outputs lengths.1) most-outputs

    pub fit_row : is_row l.atoms t ≡ true
    unfolding is_row within
    fit_row =
        and_yes (leb (length t.conditions) max_conditions && leb (length t.outputs) max_outputs) (is_row_over l.atoms t)
        (and_yes (leb (length t.conditions) max_conditions) (leb (length t.outputs) max_outputs)
        (le-leb (length t.conditions) max_conditions fit-conditions) (le-leb (length t.outputs) max_outputs fit-outputs)) parts.1

    pub fit-proposed : (p : List ℕ) → p ≡ proposal t → Proposed p
    fit-proposed p e = subst Proposed (sym e) (proposed-over l.atoms t (limits-atoms l ok) fit_row)

    pub fit-proposal : (p : List ℕ) → p ≡ proposal t → is_row l.atoms (row_in p) ≡ true
    fit-proposal p e = subst (λ (x : Row). is_row l.atoms x ≡ true) (sym (ap row_in e ∙ row-proposal t)) fit_row

-- ---- one attempt more
pub tried-accepted : (h : Header) (n : ℕ) (slots postings : List ℕ) → Accepted h slots postings → Accepted (set_attempts h n) slots postings
unfolding entry_ok
tried-accepted h n slots postings a = record {
  stands = stands-under h (set_attempts h n) slots postings postings a.stands refl refl a.stands.filing;
  one = a.one;
  atoms = a.atoms;
  some = a.some;
  wide = a.wide;
  founded = a.founded;
  entries = a.entries;
}

pub may-attempts : (h : Header) → may_capture h ≡ true → h.attempts < h.limits.founded_attempts
unfolding may_capture
may-attempts h e =
    ltb-true h.attempts h.limits.founded_attempts (and_both (ltb h.attempts h.limits.founded_attempts) _ e).0

pub limits-passed : (s : Lent) (o : Bool) → refusal (accepts s o []) ≡ none → limits_ok s.header.limits ≡ true
limits-passed s o e = T_true (limits_ok s.header.limits) (accepted s o [] e).0.limits
