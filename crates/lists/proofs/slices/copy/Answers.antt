-- `copy` meets its contract, a word at a time. Assumes nothing.
use native.Mathlib.Omega.{arith}
use mathlib.Core.Path.{sym, ap, ◌∙◌}
use mathlib.Core.List.{List}
use Prim.Native.Nat.{ℕ, ◌+◌}
use lib.ListN.{length, get_or, drop, drop_of_length-le}
use Rattle.lists.specs.Lists.{put}
use Rattle.lists.proofs.Puts.{put-none, put-more}
use Rattle.lists.proofs.Concats.{drop-next}
use borrow.Author.Rules.{rules}
use Rattle.lists.proofs.slices.copy.Goals as goal

pub loop-i-preserved : goal.loop-i-preserved
loop-i-preserved c =
    let src = c.args.src.now in
    let i = c.loop-i.i in
    let e = drop-next src i (omega arith) in (
      search rules,
      put-more i (get_or src i 0) (drop (i + 1) src) c.loop-i.dst (omega arith)
          ∙ ap (λ (k : List ℕ). put i k c.loop-i.dst) (sym e) ∙ c.loop-i.invariant.1,
    )

pub returns : goal.returns
returns c =
    let l = c.loop-i in
    sym (put-none l.i l.dst)
    ∙ ap (λ (k : List ℕ). put l.i k l.dst) (sym (drop_of_length-le c.args.src.now (omega arith))) ∙ l.invariant.1
