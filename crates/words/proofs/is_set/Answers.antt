-- `words::is_set`: by the length, then by the word that `atoms` falls into, where there is one. Assumes nothing.
use native.Mathlib.Omega.{arith}
use Rattle.words.proofs.Testing.{set_long, set-even, set-odd}
use Rattle.words.proofs.is_set.Goals as goal

pub returns-then-words-atoms : goal.returns-then-words-atoms
returns-then-words-atoms c =
    let s = c.args in
    set_long s.atoms s.words.now c.if-words-atoms.true

pub returns-then-bit-eq0 : goal.returns-then-bit-eq0
returns-then-bit-eq0 c =
    let s = c.args in
    set-even s.atoms s.words.now c.if-words-atoms.false (λ i. (c.type_inv.words i).fits) c.if-bit-eq0.true

pub returns : goal.returns
returns c =
    let s = c.args in
    set-odd s.atoms s.words.now c.if-words-atoms.false (λ i. (c.type_inv.words i).fits) (omega arith)
    c.if-bit-eq0.false
