use Rattle.std.proofs.Common.{refl, subst, ℕ, List}
use Rattle.model.specs.Postings.{postings_of}
use Rattle.slots.specs.Layout.{rows_in}
use Rattle.contents.specs.Marked.{Walked}
use Rattle.contents.proofs.Marks.{walked-above}
use Rattle.contents.proofs.by_postings.FirstRows.walk_on.Goals as goal

pub loop-at-preserved : goal.loop-at-preserved
loop-at-preserved c =
    let a = c.args in
    let v = c.loop-at.invariant in
    let w = c.loop-at.walk in
    let due : List ℕ = postings_of (rows_in a.self.rows a.self.slots.now) in
    let far = subst (λ (i : ℕ). Walked a.words.now due i w.last.word w.last.times) v.at v.walked in record {
      at = refl;
      marked = c.sees.ensures.marked;
      walked =
          walked-above a.words.now due c.loop-at.at w.last.word w.last.times far c.loop-at-test.true c.if-x-walk.false
          (c.if-not-sees.ensures.bound refl c.if-x-lt-MAX_ROWS.false);
    }
