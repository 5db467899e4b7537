use Rattle.std.proofs.Common.{sym, ap, ◌∙◌, ◌++◌, List, ℕ, append_assoc, arith}
use Rattle.std.proofs.Math.Seq.{take-length}
use Rattle.std.specs.Slice.Exact.{rchunks_exact_rest, rchunks_exact_remainder}
use Rattle.contents.proofs.Filing.{zero-end, block-rest, block-zero}
use Rattle.contents.proofs.by_rows.zeros_from.Goals as goal

pub loop-block-init : goal.loop-block-init
loop-block-init c =
    let e = c.rchunks_exact-block-items.ensures in
    let i = c.into_iter-block-iterator.ensures.into_iter_gives in
    let ws = c.args.words.now in record {
      size = ap (λ s. s.size) i ∙ e.size;
      inside = omega arith;
      left = ap (λ s. rchunks_exact_remainder s ++ rchunks_exact_rest s) i ∙ sym e.parts ∙ sym (take-length ws);
      zeros = zero-end ws;
    }

pub loop-block-preserved : goal.loop-block-preserved
loop-block-preserved c =
    let v = c.loop-block.invariant in
    let s = c.in-Some.ensures.steps in
    let ws = c.args.words.now in
    let n = c.loop-block.n in
    let rem : List ℕ = rchunks_exact_remainder c.loop-block.block-iterator in
    let rest : List ℕ = rchunks_exact_rest c.next.new.self in
    let e = sym v.left ∙ ap (λ r. rem ++ r) s.2.0 ∙ sym (append_assoc rem rest c.in-Some.block.now) in
    let l = s.2.1 ∙ v.size in record {
      size = s.0 ∙ v.size;
      inside = omega arith;
      left = ap (λ r. r ++ rest) s.1 ∙ block-rest ws _ _ n 64 e v.inside l;
      zeros = block-zero ws _ _ n 64 e v.inside l (sym c.if-not-all_zero.ensures) v.zeros;
    }
