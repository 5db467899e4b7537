-- `contents::by_rows::are_found`. Ascending words, as many as the postings, among which every posting stands as often as it is due.
-- Assumes nothing.
use Rattle.std.proofs.Common.{refl, sym, ◌∙◌}
use Rattle.contents.proofs.Places.{is-some, filed-same}
use Rattle.contents.proofs.by_rows.are_found.Goals as goal

pub returns : goal.returns
returns c =
    let a = c.args in
    λ e. let o = is-some c.find_rows-found.result _ (sym c.eq.ensures ∙ e) in
    let w = rw o at c.find_rows-found.ensures in
    filed-same a.words.now a.slots.now a.rows c.requires w.0 (c.if-not-note_places.ensures refl) w.1
