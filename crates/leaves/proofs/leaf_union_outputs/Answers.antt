-- `leaf_union_outputs` meets its contract: what it was not given, or the union. Assumes nothing.
use Rattle.leaves.proofs.Fitting.{yes, no, told, fits-most}
use Rattle.leaves.proofs.Leaving.{union-unfit, union-unfit2, union-unchosen, union-short, union-done}
use borrow.Author.Rules.{rules}
use Rattle.leaves.proofs.leaf_union_outputs.Goals as goal

pub returns-then-not-lay : goal.returns-then-not-lay
returns-then-not-lay c = union-unfit _ _ _ _ _ _ _ _ (no c.lay.ensures.0 c.if-not-lay.true)

pub returns-then-not-is_row : goal.returns-then-not-is_row
returns-then-not-is_row c =
    union-unfit2 _ _ _ _ _ _ _ _ (yes c.lay.ensures.0 c.if-not-lay.false) (no c.is_row.ensures c.if-not-is_row.true)

pub returns-then-maximum-gt-MAX_OUTPUTS : goal.returns-then-maximum-gt-MAX_OUTPUTS
returns-then-maximum-gt-MAX_OUTPUTS c =
    union-unchosen _ _ _ _ _ _ _ _ (yes c.lay.ensures.0 c.if-not-lay.false) (yes c.is_row.ensures c.if-not-is_row.false)
    c.if-maximum-gt-MAX_OUTPUTS.true

pub returns-then-slot-ne-SLOT_WORDS : goal.returns-then-slot-ne-SLOT_WORDS
returns-then-slot-ne-SLOT_WORDS c =
    union-short _ _ _ _ _ _ _ _ (yes c.lay.ensures.0 c.if-not-lay.false) (yes c.is_row.ensures c.if-not-is_row.false)
    c.if-maximum-gt-MAX_OUTPUTS.false c.if-slot-ne-SLOT_WORDS.true

pub union_times-answered-requires : goal.union_times-answered-requires
union_times-answered-requires c =
    record {
      fact_1 = (told _ c.lay.ensures.1 c.if-not-lay.false).laid;
      fact_2 = fits-most _ _ (yes c.is_row.ensures c.if-not-is_row.false);
      fact_3 = search rules;
      fact_4 = search rules;
    }

pub returns : goal.returns
returns c =
    let x = c.lay.ensures in
    union-done _ _ _ _ _ _ _ _ (yes x.0 c.if-not-lay.false) (yes c.is_row.ensures c.if-not-is_row.false)
    c.if-maximum-gt-MAX_OUTPUTS.false c.if-slot-ne-SLOT_WORDS.false (told _ x.1 c.if-not-lay.false).row
    c.purse_of-purse.ensures.account c.purse_of-purse.ensures.meter
    c.union_times-answered.ensures c.put_judged.ensures
