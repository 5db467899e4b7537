-- Words that are those of a ledger, from one change to the next. Assumes nothing.
use mathlib.Core.Path.{◌≡◌, refl, sym, ap, ap₂, ◌∙◌}
use mathlib.Core.Bool.{Bool, true}
use mathlib.Core.List.{List, []}
use mathlib.Core.Option.{none}
use Prim.Native.Nat.{ℕ, ◌≤◌, ◌<◌}
use lib.ListN.{length}
use Rattle.lists.specs.Lists.{adjust}
use Rattle.words.specs.Bit.{max_word}
use Rattle.meter.specs.Read.{Read}
use Rattle.model.specs.declared.Header.{Header}
use Rattle.model.specs.declared.Source.{Source}
use Rattle.model.specs.Records.{Row, Entry, Ledger, is_row, saturating_add, with_counts, with_hits, with_delivered, max_outputs}
use Rattle.model.specs.Slots.{slots_of, entries_in}
use Rattle.model.specs.Retention.{Retention, retain}
use Rattle.model.specs.Transfers.{change_at}
use Rattle.model.specs.Refusals.{Lent, refusal, accepts, ledger_in, lent_of}
use Rattle.contents.specs.Lent.{lent}
use Rattle.contents.specs.Accepted.{Accepted}
use Rattle.contents.proofs.Accepting.{accepted}
use Rattle.contents.proofs.Lending.{accepted-lent}
use Rattle.slots.specs.Layout.{tier_of, Held}
use Rattle.slots.proofs.Holding.{stands-tier}
use Rattle.tier.specs.Tier.{hits_added, marked_delivered, shared_out}
use Rattle.tier.proofs.Buffer.{hits-added, marked-delivered, shared-out}
use Rattle.retain_keep.specs.Good.{recounted}
use Rattle.retain_keep.specs.Stood.{Stood}
use Rattle.retain_keep.proofs.Retaining.{retain-good}
use Rattle.retain_keep.proofs.Lending.{recounted-lent, good-accepted, good-read, accepted-good}
use Rattle.retain_keep.proofs.Recounting.{recounted_end, retain-recounted}
use Rattle.retain_keep.proofs.Changing.{change-good, change-lent}

module _ (h : Header) (slots postings : List ℕ) (l : Ledger) (s : Stood h slots postings l) where
  pub stood-accepted : Accepted h slots postings
  stood-accepted = accepted h slots postings true [] (ap (λ (x : Lent). refusal (accepts x true [])) s.same ∙ good-accepted l s.good)

  pub stood-read : ledger_in (lent h slots postings) ≡ recounted l
  stood-read = ap ledger_in s.same ∙ good-read l s.good

  pub stood-rows : h.rows ≡ length l.entries
  unfolding lent_of with_counts
  stood-rows = ap (λ (x : Lent). x.header.rows) s.same

  pub stood-entries : entries_in h.rows slots ≡ l.entries
  unfolding ledger_in
  stood-entries = ap (λ (x : Ledger). x.entries) stood-read

  stood-held : Held h.limits.atoms h.rows slots
  stood-held = stood-accepted.stands.held

  pub stood-limits : h.limits ≡ l.header.limits
  unfolding lent_of with_counts
  stood-limits = ap (λ (x : Lent). x.header.limits) s.same

  -- ---- a retention from here
  module _ (most hits : ℕ) (source : Source) (t : Row) (run : Read) where
    same_end : recounted_end (retain (ledger_in (lent h slots postings)) most hits source t run)
        ≡ recounted_end (retain l most hits source t run)
    same_end = ap (λ (x : Ledger). recounted_end (retain x most hits source t run)) stood-read ∙ retain-recounted l most hits source t run

    pub stood-outcome : (retain (ledger_in (lent h slots postings)) most hits source t run).outcome ≡ (retain l most hits source t run).outcome
    stood-outcome = ap (λ (d : Retention). d.outcome) same_end

    pub stood-account : (retain (ledger_in (lent h slots postings)) most hits source t run).account ≡ (retain l most hits source t run).account
    stood-account = ap (λ (d : Retention). d.account) same_end

    pub stood-meter : (retain (ledger_in (lent h slots postings)) most hits source t run).meter ≡ (retain l most hits source t run).meter
    stood-meter = ap (λ (d : Retention). d.meter) same_end

    pub stood-retained : (k : Header) (ws ps : List ℕ) → most ≤ max_outputs → is_row h.limits.atoms t ≡ true →
        lent k ws ps ≡ lent_of (retain (ledger_in (lent h slots postings)) most hits source t run).ledger
        → Stood k ws ps (retain l most hits source t run).ledger
    stood-retained k ws ps m r e = record {
      good = retain-good l most hits source t m s.good (ap (λ x. is_row x.atoms t) (sym stood-limits) ∙ r) run;
      same = e
          ∙ sym (recounted-lent (retain (ledger_in (lent h slots postings)) most hits source t run).ledger)
          ∙ ap (λ (d : Retention). lent_of d.ledger) same_end
          ∙ recounted-lent (retain l most hits source t run).ledger;
    }

  -- ---- a change of one entry that leaves its row, its birth and its source
  module _ (f : Entry → Entry) (row : (e : Entry) → (f e).row ≡ e.row) (born : (e : Entry) → (f e).born ≡ e.born)
      (from : (e : Entry) → (f e).source ≡ e.source) (p : ℕ) where
    stood-changed : (ws : List ℕ) → ws ≡ slots_of (tier_of slots) (adjust f p (entries_in h.rows slots))
        → Stood h ws postings (change_at p f l)
    stood-changed ws e = record {
      good = change-good f row born from p l s.good;
      same = ap₂ (λ (x : Header) (y : List ℕ). lent x ws y) (ap (λ (x : Lent). x.header) s.same)
          (ap (λ (x : Lent). x.postings) s.same)
          ∙ ap (λ (x : List ℕ). lent (lent_of l).header x (lent_of l).postings)
          (e
          ∙ ap₂ (λ (n : ℕ) (es : List Entry). slots_of n (adjust f p es))
          (stands-tier stood-accepted.stands ∙ ap (λ x. x.tier_rows) stood-limits) stood-entries)
          ∙ change-lent f row born from p l;
    }

  module _ (p : ℕ) (at : p < h.rows) where
    pub stood-hits-added : (n : ℕ) → Stood h (hits_added p n slots) postings (change_at p (λ e. with_hits e (saturating_add e.hits n)) l)
    unfolding with_hits
    stood-hits-added n =
        stood-changed (λ e. with_hits e (saturating_add e.hits n)) (λ e. refl) (λ e. refl) (λ e. refl) p _
        (hits-added h.rows p slots stood-held at n)

    pub stood-marked : Stood h (marked_delivered p slots) postings (change_at p (λ e. with_delivered e.unshared e) l)
    unfolding with_delivered
    stood-marked =
        stood-changed (λ e. with_delivered e.unshared e) (λ e. refl) (λ e. refl) (λ e. refl) p _
        (marked-delivered h.rows p slots stood-held at)

    pub stood-shared : Stood h (shared_out p slots) postings (change_at p (with_delivered 0) l)
    unfolding with_delivered
    stood-shared = stood-changed (with_delivered 0) (λ e. refl) (λ e. refl) (λ e. refl) p _ (shared-out h.rows p slots stood-held at)

-- what is accepted stands as it is read
pub accepted-stood : (h : Header) (slots postings : List ℕ) (o : Bool) (ts : List (Bool × ℕ))
    → refusal (accepts (lent h slots postings) o ts) ≡ none → h.born ≤ max_word → Stood h slots postings (ledger_in (lent h slots postings))
accepted-stood h slots postings o ts e b =
    record {
      good = accepted-good (lent h slots postings) o ts e b;
      same = accepted-lent h slots postings (accepted h slots postings o ts e);
    }
