-- A row placed in an accepted ledger: what the settled ledger is made of. Assumes nothing.
use mathlib.Core.Path.{◌≡◌, sym, ap, ◌∙◌, subst}
use mathlib.Core.Bool.{Bool, true}
use mathlib.Core.List.{List, []}
use Prim.Native.Nat.{ℕ, ◌≤◌}
use native.Mathlib.Omega.{arith}
use lib.ListN.{length}
use Rattle.std.specs.Prelude.{Some}
use Rattle.lists.specs.Lists.{pad, zeroed}
use Rattle.lists.proofs.Pads.{pad-zeroed}
use Rattle.words.specs.Literal.{code_bits}
use Rattle.words.specs.Region.{max_atoms}
use Rattle.words.proofs.Widths.{most-coded}
use Rattle.model.specs.declared.Header.{Header}
use Rattle.model.specs.declared.Source.{Source}
use Rattle.model.specs.Records.{Row, Entry, is_row, saturating_add}
use Rattle.model.specs.Slots.{slots_of, row_in, entries_in}
use Rattle.model.specs.Postings.{filed}
use Rattle.model.specs.Retention.{newborn}
use Rattle.model.proofs.Rows.{row_more}
use Rattle.slots.specs.Layout.{rows_in, tier_of, Held}
use Rattle.slots.proofs.Holding.{AllRows, tier-laid, entries-laid, held-laid, held_rows, held-few, stands-tier}
use Rattle.contents.specs.Accepted.{Accepted}
use Rattle.retain_keep.proofs.Holding.{held}
use Rattle.row_propose.specs.Proposed.{Proposed}
use Rattle.retain_compare.specs.Passes.{examined_by}
use Rattle.model.proofs.Slots.{entries-length}
use Rattle.row_write.specs.Forms.{new_entry}
use Rattle.retain.specs.declared.Room.{Room}
use Rattle.retain.specs.Places.{room_of, placed_by, Fits, Placing}
use Rattle.retain.proofs.Placing.{all_placed, placed-fit}
use Rattle.retain.proofs.Rooms.{room-told, room_fits}

-- a ledger with no postings built has nothing but zeros there
pub stale-zero : (h : Header) (slots postings : List ℕ) → Accepted h slots postings → h.stale ≡ true → postings ≡ zeroed postings
unfolding filed
stale-zero h slots postings a s =
    a.stands.filing ∙ ap (λ (b : Bool). filed h.limits.tier_rows b (rows_in h.rows slots)) s
    ∙ ap (λ (n : ℕ). pad n []) (sym a.wide) ∙ pad-zeroed postings

new_row : (h : Header) (p : Row) (hits born : ℕ) (source : Source) → born ≡ saturating_add h.born 1
    → new_entry p hits born source ≡ newborn h p hits source
unfolding newborn
new_row h p hits born source e = ap (λ (n : ℕ). new_entry p hits n source) e

module _ (h : Header) (slots postings : List ℕ) (a : Accepted h slots postings) (room : Room) (p : List ℕ)
    (k : Placing room h.rows slots p) (f : ℕ → Bool) (hits born : ℕ) (source : Source) where
  abbrev es : List Entry
  es = entries_in h.rows slots

  abbrev new : List Entry
  new = placed_by room f es (new_entry (row_in p) hits born source)

  new-rows : AllRows max_atoms new
  new-rows =
      all_placed (λ x. is_row max_atoms x.row) room f es (new_entry (row_in p) hits born source)
      (held_rows h.rows slots k.held) k.row

  new-few : length new ≤ tier_of slots
  new-few =
      let c = entries-length h.rows slots in
      let w = held-few h.rows slots k.held in
      placed-fit room f es (new_entry (row_in p) hits born source) (tier_of slots) (omega arith)
      (subst (λ (n : ℕ). Fits room n (tier_of slots)) (sym c) k.fits)

  module _ (after : List ℕ) (n : ℕ) (w : after ≡ slots_of (tier_of slots) new) (c : n ≡ length new) where
    pub new-held : Held max_atoms n after
    new-held =
        subst (Held max_atoms n) (sym w)
        (held-laid max_atoms (tier_of slots) new new-rows new-few n c code_bits most-coded k.held.most)

    pub new-tier : tier_of after ≡ h.limits.tier_rows
    new-tier = ap tier_of w ∙ tier-laid max_atoms (tier_of slots) new new-rows new-few ∙ stands-tier a.stands

    pub new-entries : born ≡ saturating_add h.born 1 → entries_in n after ≡ placed_by room f es (newborn h (row_in p) hits source)
    new-entries b =
        ap (entries_in n) w ∙ entries-laid max_atoms (tier_of slots) new new-rows new-few n c
        ∙ ap (placed_by room f es) (new_row h (row_in p) hits born source b)

-- the place that was found for a proposal over the ledger's atoms
pub placing-of : (h : Header) (slots postings p : List ℕ) (f : ℕ → Bool) (room : Room) → Accepted h slots postings → Proposed p
    → is_row h.limits.atoms (row_in p) ≡ true
    → Some room ≡ room_of h.limits (entries_in h.rows slots) (examined_by f 0 (entries_in h.rows slots)) → Placing room h.rows slots p
placing-of h slots postings p f room a o r e =
    let es = entries_in h.rows slots in
    record {
      held = held h slots postings a;
      fits = subst (λ (n : ℕ). Fits room n (tier_of slots)) (entries-length h.rows slots)
          (subst (λ (n : ℕ). Fits room (length es) n) (sym (stands-tier a.stands))
          (room_fits h.limits f es room (room-told h.limits es (examined_by f 0 es) e)));
      proposed = o;
      row = row_more h.limits.atoms max_atoms (row_in p) a.atoms r;
    }
