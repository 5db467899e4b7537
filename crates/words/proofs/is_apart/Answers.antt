-- `words::is_apart`: nothing is shared. Assumes nothing.
use mathlib.Core.Path.{◌≡◌, ap, ◌∙◌}
use Prim.Native.Nat.{ℕ}
use borrow.Author.Rules.{rules}
use lib.Dec.{eqb}
use Rattle.std.proofs.lemmas.Iterator.{YieldsList-from_slice, YieldsList-from_zip}
use Rattle.std.proofs.lemmas.Iterator.Consumers.{fold_from_yields_List}
use Rattle.std.specs.List.{fold, zip}
use Rattle.words.proofs.Testing.{apart-shared, both_bits}
use Rattle.words.proofs.is_apart.Goals as goal

pub returns : goal.returns
returns c =
    let hs = c.args.held.now in
    let cs = c.args.cut.now in
    let e : c.fold.result ≡ fold both_bits 0 (zip hs cs) =
    fold_from_yields_List _ both_bits 0 _ c.fold.ensures.ran
    (YieldsList-from_zip (YieldsList-from_slice hs cc) (YieldsList-from_slice cs cc)) (λ s p r q k. search rules) in
    ap (λ (shared : ℕ). eqb shared 0) e ∙ apart-shared hs cs 0
