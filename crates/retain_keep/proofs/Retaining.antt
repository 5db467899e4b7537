-- A retention of a row over the ledger's atoms leaves a ledger that is accepted again. Assumes nothing.
use mathlib.Core.Path.{◌≡◌, refl, sym, ap, ◌∙◌, subst}
use mathlib.Core.Logic.{inl, inr}
use mathlib.Core.Bool.{Bool, true, false, ◌&&◌}
use mathlib.Core.List.{List, [], ◌∷◌}
use Prim.Native.Nat.{ℕ, suc, ◌≤◌}
use native.Mathlib.Omega.{arith}
use lib.Dec.{leb}
use lib.ListN.{length, length-set}
use borrow.Author.Tests.{le-leb, leb-true, leb-false}
use Rattle.lists.specs.Lists.{all}
use Rattle.lists.proofs.Bools.{and_both, and_yes}
use Rattle.words.specs.Bit.{max_word}
use Rattle.meter.specs.declared.Meter.{Meter}
use Rattle.meter.specs.declared.Account.{Account}
use Rattle.meter.specs.Read.{Read, Paid, Declined, Stopped}
use Rattle.meter.specs.Meter.{and_then, pay}
use Rattle.model.specs.declared.Header.{Header}
use Rattle.model.specs.declared.Source.{Source}
use Rattle.model.specs.Records.{Row, Entry, Ledger, is_row, saturating_add, with_hits, with_added, max_outputs}
use Rattle.model.specs.Retention.{halved, settle, newborn, Placement, subsumed, protected, placing, evicting, placement}
use Rattle.model.specs.Retention.{untaken, carry_out, retained, retain_reads, retain}
use Rattle.model.specs.Refusals.{entry_ok}
use Rattle.model.specs.Priority.{In}
use Rattle.model.proofs.Priority.Covering.{rows_e}
use Rattle.model.proofs.Priority.Fine.{PlacementKeeps, placement-keeps}
use Rattle.model.proofs.Union.{grown-row}
use Rattle.model.proofs.Entries.{halved-length}
use Rattle.contents.proofs.Limits.{limits-some}
use Rattle.retain_keep.specs.Good.{Good}
use Rattle.retain_keep.proofs.Placing.{PlacementHas, placement-has, place-fits, placed-all, set_all}

-- ---- an entry over n atoms, born by b
abbrev ok : ℕ → ℕ → Entry → Bool
ok n b e = is_row n e.row && (leb 1 e.born && leb e.born b)

ok-more : (n b c : ℕ) (e : Entry) → b ≤ c → ok n b e ≡ true → ok n c e ≡ true
ok-more n b c e l h =
    let s = and_both (is_row n e.row) _ h in
    let u = and_both (leb 1 e.born) (leb e.born b) s.1 in
    let v = leb-true e.born b u.1 in
    and_yes (is_row n e.row) _ s.0 (and_yes (leb 1 e.born) (leb e.born c) u.0 (le-leb e.born c (omega arith)))

all_more : (n b c : ℕ) (es : List Entry) → b ≤ c → all (ok n b) es ≡ true → all (ok n c) es ≡ true
unfolding all
all_more n b c [] l h = refl
all_more n b c (e ∷ es) l h =
    let s = and_both (ok n b e) _ h in
    and_yes (ok n c e) _ (ok-more n b c e l s.0) (all_more n b c es l s.1)

saturating_add-more : (b : ℕ) → b ≤ max_word → b ≤ saturating_add b 1
unfolding saturating_add
saturating_add-more b l = omega arith

saturating_add-most : (b : ℕ) → saturating_add b 1 ≤ max_word
unfolding saturating_add
saturating_add-most b = omega arith

saturating_add-some : (b : ℕ) → 1 ≤ saturating_add b 1
unfolding saturating_add
saturating_add-some b = omega arith

newborn-ok : (h : Header) (n : ℕ) (p : Row) (hits : ℕ) (source : Source) → is_row n p ≡ true
    → ok n (saturating_add h.born 1) (newborn h p hits source) ≡ true
unfolding newborn
newborn-ok h n p hits source e =
    and_yes (is_row n p) _ e
    (and_yes (leb 1 (saturating_add h.born 1)) _ (le-leb 1 (saturating_add h.born 1) (saturating_add-some h.born))
    (le-leb (saturating_add h.born 1) (saturating_add h.born 1) (omega arith)))

halved-all : (n b : ℕ) (es : List Entry) → all (ok n b) (halved es) ≡ all (ok n b) es
unfolding halved with_hits all
halved-all n b [] = refl
halved-all n b (e ∷ es) = ap (λ (x : Bool). ok n b e && x) (halved-all n b es)

-- ---- the row is settled
settle-good : (l : Ledger) (es : List Entry) (v : ℕ) → Good l → length es ≤ l.header.limits.tier_rows
    → all (ok l.header.limits.atoms (saturating_add l.header.born 1)) es ≡ true → Good (settle l.header es v)
unfolding settle with_added entry_ok
settle-good l es v g few e = go (leb l.header.limits.tier_rows (suc l.header.epoch)) refl
  where
    h : Header
    h = l.header

    go : (b : Bool) → leb l.header.limits.tier_rows (suc l.header.epoch) ≡ b →
        Good (elim b as (λ x. Ledger) [
          | true ↦ record { header = with_added l.header 0 v; entries = halved es }
          | false ↦ record { header = with_added l.header (suc l.header.epoch) v; entries = es }
        ])
    go true q = record {
      limits = g.limits;
      few = let n = halved-length es in omega arith;
      epoch = let s = limits-some l.header.limits g.limits in omega arith;
      attempts = g.attempts;
      born = saturating_add-most l.header.born;
      entries = halved-all l.header.limits.atoms (saturating_add l.header.born 1) es ∙ e;
    }
    go false q = record {
      limits = g.limits;
      few = few;
      epoch = leb-false l.header.limits.tier_rows (suc l.header.epoch) q;
      attempts = g.attempts;
      born = saturating_add-most l.header.born;
      entries = e;
    }

older : (l : Ledger) → Good l → all (ok l.header.limits.atoms (saturating_add l.header.born 1)) l.entries ≡ true
unfolding entry_ok
older l g =
    all_more l.header.limits.atoms l.header.born (saturating_add l.header.born 1) l.entries
    (saturating_add-more l.header.born g.born) g.entries

carry-good : (l : Ledger) (t : Row) (hits : ℕ) (source : Source) (a : Account) (m : Meter) (v : Placement) → Good l
    → PlacementKeeps (λ r. is_row l.header.limits.atoms r ≡ true) v → PlacementHas l.header.limits l.entries v
    → Good (carry_out l t hits source a m v).ledger
unfolding carry_out untaken
carry-good l t hits source a m (subsumed p) g k s = g
carry-good l t hits source a m protected g k s = g
carry-good l t hits source a m (placing ks p) g k s =
    let h = l.header in
    settle-good l _ h.evicted g (place-fits h.limits.tier_rows (newborn h p hits source) l.entries ks s.0 s.1 g.few)
    (placed-all (ok h.limits.atoms (saturating_add h.born 1)) (newborn h p hits source) l.entries ks s.0
    (newborn-ok h h.limits.atoms p hits source k) (older l g))
carry-good l t hits source a m (evicting v p) g k s =
    let h = l.header in
    settle-good l _ _ g (subst (λ (n : ℕ). n ≤ h.limits.tier_rows) (sym (length-set l.entries v (newborn h p hits source))) g.few)
    (set_all (ok h.limits.atoms (saturating_add h.born 1)) v (newborn h p hits source) l.entries
    (newborn-ok h h.limits.atoms p hits source k) (older l g))

-- the rows of entries that pass the test
all-rows : (n b : ℕ) (es : List Entry) → all (ok n b) es ≡ true → (r : Row) → In r (rows_e es) → is_row n r ≡ true
unfolding all
all-rows n b [] h r m = absurd m
all-rows n b (e ∷ es) h r (inl q) =
    subst (λ (x : Row). is_row n x ≡ true) (sym q) (and_both (is_row n e.row) _ (and_both (ok n b e) _ h).0).0
all-rows n b (e ∷ es) h r (inr m) = all-rows n b es (and_both (ok n b e) _ h).1 r m

module _ (l : Ledger) (most hits : ℕ) (source : Source) (t : Row) (k : most ≤ max_outputs) (g : Good l)
    (r : is_row l.header.limits.atoms t ≡ true) where
  retained-good : (run : Read) → Good (retained l most hits source t run).ledger
  unfolding retained untaken entry_ok
  retained-good (Paid a m) =
      carry-good l t hits source a m (placement l.header.limits most t l.entries) g
      (placement-keeps (λ x. is_row l.header.limits.atoms x ≡ true) most (λ x p j. grown-row l.header.limits.atoms most x p k j)
      l.header.limits t l.entries r
      (all-rows l.header.limits.atoms l.header.born l.entries g.entries))
      (placement-has l.header.limits most t l.entries)
  retained-good (Declined a m) = g
  retained-good (Stopped a m) = g

  pub retain-good : (run : Read) → Good (retain l most hits source t run).ledger
  unfolding retain
  retain-good run = retained-good (and_then run (pay (retain_reads l.header.limits most t l.entries)))
