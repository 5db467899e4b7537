-- A good ledger, laid out and filed, is accepted and read again; what is accepted is good. Assumes nothing.
use mathlib.Core.Path.{◌≡◌, refl, sym, ap, subst}
use mathlib.Core.Bool.{Bool, true, ◌&&◌}
use mathlib.Core.List.{List, []}
use mathlib.Core.Option.{none}
use Prim.Native.Nat.{ℕ, ◌≤◌}
use lib.Dec.{leb, ltb, T}
use lib.ListN.{length}
use borrow.Author.Tests.{le-leb, leb-true, lt-ltb, ltb-true}
use Rattle.lists.specs.Lists.{all}
use Rattle.lists.proofs.Bools.{T_true, T_of, and_both, and_yes}
use Rattle.words.specs.Bit.{max_word}
use Rattle.model.specs.declared.Header.{Header}
use Rattle.model.specs.Records.{Entry, Ledger, limits_ok, rows_of, with_counts, founded_rows}
use Rattle.model.specs.Slots.{entries_in}
use Rattle.model.specs.Refusals.{Lent, refusal, accepts, entry_ok, counts_ok, founded_ok, contents_ok, words_ok, ledger_in}
use Rattle.model.specs.Refusals.{lent_of}
use Rattle.model.proofs.Accepting.{encoded-accepted, entries-valid}
use Rattle.model.proofs.Slots.{decode-encode, entries-length}
use Rattle.model.proofs.Priority.Steps.{accepted}
use Rattle.retain_keep.specs.Good.{Good, recounted}

pub recounted-lent : (l : Ledger) → lent_of (recounted l) ≡ lent_of l
unfolding lent_of with_counts rows_of
recounted-lent l = refl

module _ (l : Ledger) (g : Good l) where
  abbrev h : Header
  h = l.header

  counts : counts_ok (with_counts h (length l.entries) (founded_rows l.entries)) ≡ true
  unfolding counts_ok with_counts
  counts =
      and_yes (leb (length l.entries) h.limits.tier_rows) _ (le-leb (length l.entries) h.limits.tier_rows g.few)
      (and_yes (ltb h.epoch h.limits.tier_rows) _ (lt-ltb h.epoch h.limits.tier_rows g.epoch)
      (le-leb h.attempts h.limits.founded_attempts g.attempts))

  fit : T (all (entry_ok (with_counts h (length l.entries) (founded_rows l.entries))) l.entries)
  unfolding entry_ok with_counts
  fit = T_of {x = all (entry_ok h) l.entries} g.entries

  pub good-accepted : refusal (accepts (lent_of l) true []) ≡ none
  unfolding lent_of
  good-accepted =
      encoded-accepted l (T_of {x = limits_ok h.limits} g.limits)
      (T_of {x = counts_ok (with_counts h (length l.entries) (founded_rows l.entries))} counts) fit

  pub good-read : ledger_in (lent_of l) ≡ recounted l
  unfolding ledger_in lent_of with_counts
  good-read =
      ap (λ (es : List Entry). record { header = with_counts h (length l.entries) (founded_rows l.entries); entries = es })
      (decode-encode h.limits.tier_rows l.entries (entries-valid (with_counts h (length l.entries) (founded_rows l.entries))
      l.entries fit))

-- what is accepted is good
pub accepted-good : (s : Lent) (o : Bool) (ts : List (Bool × ℕ)) → refusal (accepts s o ts) ≡ none → s.header.born ≤ max_word
    → Good (ledger_in s)
unfolding ledger_in contents_ok counts_ok words_ok
accepted-good s o ts e b =
    let h : Header = s.header in
    let es : List Entry = entries_in h.rows s.slots in
    let a = (accepted s o ts e).0 in
    let c = and_both (leb h.rows h.limits.tier_rows
    && (ltb h.epoch h.limits.tier_rows && leb h.attempts h.limits.founded_attempts)) _
    (T_true (contents_ok s) a.contents) in
    let x = and_both (leb h.rows h.limits.tier_rows) _ c.0 in
    let y = and_both (ltb h.epoch h.limits.tier_rows) (leb h.attempts h.limits.founded_attempts) x.1 in
    let few : h.rows ≤ h.limits.tier_rows = leb-true h.rows h.limits.tier_rows x.0 in
    record {
      limits = T_true (limits_ok h.limits) a.limits;
      few = subst (λ (n : ℕ). n ≤ h.limits.tier_rows) (sym (entries-length h.rows s.slots)) few;
      epoch = ltb-true h.epoch h.limits.tier_rows y.0;
      attempts = leb-true h.attempts h.limits.founded_attempts y.1;
      born = b;
      entries = (and_both (all (entry_ok h) es) _ (and_both (founded_ok h (ledger_in s)) _ c.1).1).0;
    }
