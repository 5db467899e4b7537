-- `contents::by_postings::FirstRows::posted_less`. By the row at the posting's position. Assumes nothing.
use mathlib.Core.Path.{sym, ap, ◌∙◌}
use mathlib.Core.Bool.{not}
use Prim.Native.Nat.{ℕ, ◌%◌}
use lib.Dec.{ltb}
use Rattle.lists.specs.Counts.{times}
use Rattle.model.specs.Records.{max_rows}
use Rattle.model.specs.Postings.{postings_of}
use Rattle.slots.specs.Layout.{rows_in}
use Rattle.contents.proofs.Filing.{rows-some, holds-code, posted-none, posted-code, none-less}
use Rattle.contents.proofs.by_postings.FirstRows.posted_less.Goals as goal

pub returns-then-self-p : goal.returns-then-self-p
returns-then-self-p c =
    ap (λ (t : ℕ). ltb t c.args.often) (posted-none _ _ (rows-some c.args.self.held) c.args.posting c.if-self-p.true)

pub has_atom-requires-clause-fact_1 : goal.has_atom-requires-clause-fact_1
has_atom-requires-clause-fact_1 c =
    holds-code _ _ (rows-some c.args.self.held) (c.args.posting % max_rows) c.slot_at-slot.ensures.slot c.if-self-p.false

pub returns-then-often-eq1 : goal.returns-then-often-eq1
returns-then-often-eq1 c =
    let t = posted-code _ _ (rows-some c.args.self.held) c.args.posting c.slot_at-slot.ensures.slot c.if-self-p.false in
    ap not (c.has_atom.ensures ∙ ap (ltb 0) t)
    ∙ none-less (times c.args.posting (postings_of (rows_in c.args.self.rows c.args.self.slots.now)))
    ∙ ap (ltb (times c.args.posting (postings_of (rows_in c.args.self.rows c.args.self.slots.now)))) (sym c.if-often-eq1.true)

pub times_posted-requires-clause-fact_1 : goal.times_posted-requires-clause-fact_1
times_posted-requires-clause-fact_1 c =
    holds-code _ _ (rows-some c.args.self.held) (c.args.posting % max_rows) c.slot_at-slot.ensures.slot c.if-self-p.false

pub returns : goal.returns
returns c =
    ap (λ (t : ℕ). ltb t c.args.often)
    (c.times_posted.ensures
    ∙ posted-code _ _ (rows-some c.args.self.held) c.args.posting c.slot_at-slot.ensures.slot c.if-self-p.false)
