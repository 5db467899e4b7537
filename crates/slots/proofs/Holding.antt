-- All slots of a tier: entries laid out are held, and what is held is read as entries. Assumes nothing.
use mathlib.Core.Path.{◌≡◌, sym, ap, ap₂, ◌∙◌, subst}
use mathlib.Core.Bool.{true, false}
use mathlib.Core.List.{List, [], ◌∷◌}
use Prim.Native.Nat.{ℕ, zero, suc, ◌*◌, ◌≤◌, ◌<◌}
use native.Mathlib.Omega.{arith}
use lib.ListN.{length, get_or}
use Rattle.lists.specs.Lists.{all, pad}
use Rattle.lists.proofs.Tests.{all-at, all_yes}
use Rattle.lists.proofs.Concats.{Blocks, block_at}
use Rattle.lists.proofs.Bools.{T_true, T_of}
use Rattle.words.specs.Literal.{atoms_wide}
use Rattle.model.specs.declared.Header.{Header}
use Rattle.model.specs.declared.Source.TheVariants.{Founded}
use Rattle.model.specs.Records.{Entry, is_row, slot_words, max_rows}
use Rattle.model.specs.Slots.{slot_of, slots_of, row_in, entries_in}
use Rattle.model.specs.Postings.{filed}
use Rattle.model.proofs.Slots.{Valid, AllValid, slot-length, decode-encode, entries-length}
use Rattle.model.proofs.Entries.{all_valid}
use Rattle.model.proofs.Rows.{row_more}
use Rattle.model.proofs.Accepting.{slots_length}
use Rattle.slots.specs.Layout.{StoredWide, slot_at, tier_of, rows_in, HeldWide}
use Rattle.slots.specs.Standing.{Stands}
use Rattle.slots.proofs.Storing.{stored-slot}
use Rattle.slots.proofs.Rows.{row-at}

-- where there is no entry
abbrev pub no-entry : Entry
no-entry = record
    { row = record { conditions = []; outputs = [] }; hits = 0; unshared = 0; born = 0; delivered = false; source = Founded }

-- the rows of entries are rows over n atoms
abbrev pub AllRows : ℕ → List Entry → Type 0
AllRows n es = all (λ e. is_row n e.row) es ≡ true

-- ---- valid entries are blocks of one slot each
pub valid-at : (p : ℕ) (es : List Entry) (d : Entry) → AllValid es → p < length es → Valid (get_or es p d).row
valid-at p [] d v h = absurd (omega arith)
valid-at zero (e ∷ es) d v h = v.0
valid-at (suc p) (e ∷ es) d v h = valid-at p es d v.1 (omega arith)

pub valid-blocks : (es : List Entry) → AllValid es → Blocks slot_of slot_words es
valid-blocks es v i d l = slot-length (get_or es i d) (valid-at i es d v l)

pub slot-at : (tier p : ℕ) (es : List Entry) (d : Entry) → AllValid es → p < length es
    → slot_at (slots_of tier es) p ≡ slot_of (get_or es p d)
unfolding slots_of pad
slot-at tier p es d v l = block_at slot_of slot_words es p d _ (valid-blocks es v) l

-- ---- entries laid out
module _ (n tier : ℕ) (es : List Entry) (a : AllRows n es) (f : length es ≤ tier) where
  valid : AllValid es
  valid = all_valid n es (T_of a)

  pub tier-laid : tier_of (slots_of tier es) ≡ tier
  tier-laid = let l = slots_length tier es valid f in omega arith

  module _ (rows : ℕ) (c : rows ≡ length es) where
    pub entries-laid : entries_in rows (slots_of tier es) ≡ es
    entries-laid = ap (λ (k : ℕ). entries_in k (slots_of tier es)) c ∙ decode-encode tier es valid

    stored-laid : (w : ℕ) → n ≤ atoms_wide w → (p : ℕ) → p < rows → StoredWide w n (slot_at (slots_of tier es) p)
    stored-laid w m p l =
        let i : p < length es = omega arith in
        subst (StoredWide w n) (sym (slot-at tier p es no-entry valid i))
        (stored-slot w n (get_or es p no-entry) (T_of (all-at (λ e. is_row n e.row) es p no-entry a i)) m)

    pub held-laid : (w : ℕ) → n ≤ atoms_wide w → tier ≤ max_rows → HeldWide w n rows (slots_of tier es)
    held-laid w m k =
        let l = slots_length tier es valid f in
        record {
          over = record { atoms = m; few = omega arith; long = omega arith; stored = stored-laid w m };
          most = let t = tier-laid in omega arith;
          same = ap₂ slots_of tier-laid entries-laid;
        }

-- ---- entries read
pub record Holding (rows : ℕ) (ws : List ℕ) : Type 0 where
  pub valid : AllValid (entries_in rows ws)
  pub room : length (entries_in rows ws) ≤ tier_of ws
  pub long : length ws ≡ slot_words * tier_of ws

module _ {w n : ℕ} (rows : ℕ) (ws : List ℕ) (k : HeldWide w n rows ws) where
  pub held-few : rows ≤ tier_of ws
  held-few = let l = k.over.long in omega arith

  pub held_rows : AllRows n (entries_in rows ws)
  held_rows =
      let c = entries-length rows ws in
      all_yes (λ e. is_row n e.row) (entries_in rows ws) no-entry
      (λ p l. let i : p < rows = omega arith in
      ap (is_row n) (row-at rows ws p no-entry i)
      ∙ T_true (is_row n (row_in (slot_at ws p))) (k.over.stored p i).row)

  pub holding : Holding rows ws
  holding =
      let v = all_valid n (entries_in rows ws) (T_of held_rows) in
      let c = entries-length rows ws in
      let f = held-few in
      let r : length (entries_in rows ws) ≤ tier_of ws = omega arith in
      record {
        valid = v;
        room = r;
        long = sym (ap length k.same) ∙ slots_length (tier_of ws) (entries_in rows ws) v r;
      }

  -- rows over n atoms are rows over more
  pub held_more : (m : ℕ) → n ≤ m → m ≤ atoms_wide w → HeldWide w m rows ws
  held_more m a b = record {
    over = record {
      atoms = b;
      few = k.over.few;
      long = k.over.long;
      stored = λ p l.
          let s = k.over.stored p l in
          let r = row_in (slot_at ws p) in
          record { atoms = b; row = T_of (row_more n m r a (T_true (is_row n r) s.row)); same = s.same };
    };
    most = k.most;
    same = k.same;
  }

-- ---- the words of a ledger
module _ {h : Header} {slots postings : List ℕ} (s : Stands h slots postings) where
  pub stands-tier : tier_of slots ≡ h.limits.tier_rows
  stands-tier = omega (arith, s.long)

  pub stands-few : h.rows ≤ h.limits.tier_rows
  stands-few = omega (arith, s.long, s.held.over.long)

  pub stands-laying : slots ≡ slots_of h.limits.tier_rows (entries_in h.rows slots)
  stands-laying = sym s.held.same ∙ ap (λ (n : ℕ). slots_of n (entries_in h.rows slots)) stands-tier

-- under another header with the same limits and rows
pub stands-under : (h k : Header) (slots postings words : List ℕ) → Stands h slots postings → k.limits ≡ h.limits → k.rows ≡ h.rows →
    words ≡ filed h.limits.tier_rows k.stale (rows_in h.rows slots) → Stands k slots words
stands-under h k slots postings words s l r p =
    record {
      held = rw (l, r) s.held;
      long = rw l s.long;
      filing = rw (l, r) p;
    }
