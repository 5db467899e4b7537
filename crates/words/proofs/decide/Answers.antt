-- `words::decide`: one law for each way out. Assumes nothing.
use mathlib.Core.Path.{sym, ◌∙◌}
use Rattle.words.proofs.Deciding.{way_out, way-cut, way-held, way-hold, way-drop}
use Rattle.words.proofs.decide.Goals as goal

pub returns-then-atoms-atom : goal.returns-then-atoms-atom
returns-then-atoms-atom c =
    let s = c.args in
    way_out s.atoms s.held.now s.cut.now s.atom s.value c.if-atoms-atom.true

pub returns-then-contains : goal.returns-then-contains
returns-then-contains c =
    let s = c.args in
    way-cut s.atoms s.held.now s.cut.now s.atom s.value c.if-value.true
    (sym c.contains.ensures ∙ c.if-contains.true)

pub returns-then-contains-2 : goal.returns-then-contains-2
returns-then-contains-2 c =
    let s = c.args in
    way-held s.atoms s.held.now s.cut.now s.atom s.value c.if-value.false
    (sym c.contains-else-value.ensures ∙ c.if-contains-2.true)

pub returns-else-contains : goal.returns-else-contains
returns-else-contains c =
    let s = c.args in
    rw c.insert.ensures
    (way-hold s.atoms s.held.now s.cut.now s.atom s.value
    c.if-value.true
    c.if-atoms-atom.false
    (sym c.contains.ensures ∙ c.if-contains.false))

pub returns-else-contains-2 : goal.returns-else-contains-2
returns-else-contains-2 c =
    let s = c.args in
    rw c.insert-else-value.ensures
    (way-drop s.atoms s.held.now s.cut.now s.atom s.value
    c.if-value.false
    c.if-atoms-atom.false
    (sym c.contains-else-value.ensures ∙ c.if-contains-2.false))
