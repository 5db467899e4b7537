-- `words::ascends`: the last code, and each beside the next. Assumes nothing.
use mathlib.Core.Path.{◌≡◌, ◌∙◌}
use Prim.Native.Nat.{ℕ, ◌/◌, ◌^◌, ◌<◌, ◌≤◌, ◌-◌}
use lib.Dec.{ltb}
use lib.ListN.{length, get_or}
use borrow.Author.Rules.{rules}
use Rattle.std.proofs.Common.{tests}
use Rattle.std.proofs.lemmas.Fn.{always_returns_same}
use Rattle.words.proofs.Codes.{climbs-high, climbs-low}
use Rattle.words.proofs.ascends.Goals as goal

pub returns-then-is_none_or : goal.returns-then-is_none_or
returns-then-is_none_or c =
    let cs = c.args.codes.now in
    let low : 0 < length cs → get_or cs (length cs - 1) 0 / 2 < c.args.atoms = search (rules, tests) in
    let key = λ (x y : ℕ). ltb (x / 2 ^ c.args.shift) (y / 2 ^ c.args.shift) in
    climbs-low c.args.shift c.args.atoms cs low c.is_sorted_by.result
    (c.is_sorted_by.ensures.cases key (always_returns_same _ (λ a r. r ≡ key a.0.now a.1.0.now) _ (λ a r q k. search rules)))

pub returns-else-is_none_or : goal.returns-else-is_none_or
returns-else-is_none_or c =
    let cs = c.args.codes.now in
    let some : 0 < length cs = search (rules, tests) in
    let high : c.args.atoms ≤ get_or cs (length cs - 1) 0 / 2 = search (rules, tests) in
    c.if-is_none_or.false ∙ climbs-high c.args.shift c.args.atoms cs some high
