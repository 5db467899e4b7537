-- `contents::by_rows::Search::find_new`. By whether the atom is the last one. Assumes nothing.
use Rattle.std.proofs.Common.{refl, sym, arith}
use Rattle.lists.specs.Counts.{is}
use Rattle.contents.specs.Placed.{new_atom}
use Rattle.contents.proofs.Places.{grown-none, grown-as, new_atom-same, new_atom-other, new_count-same, new_count-other}
use Rattle.contents.proofs.by_rows.Search.find_new.Goals as goal

pub returns-then-eq : goal.returns-then-eq
returns-then-eq c =
    let a = c.args in (
      sym (new_count-same a.last a.atom (sym c.if-eq.ensures)),
      grown-none a.self.words.now a.self.position a.places.now (new_atom a.last a.atom)
          (λ k. new_atom-same a.last a.atom k (sym c.if-eq.ensures)),
    )

pub returns : goal.returns
returns c =
    let a = c.args in (
      sym (new_count-other a.last a.atom (sym c.if-eq.ensures)),
      grown-as a.self.words.now a.self.position a.places.now _ (λ k. is k a.atom) (new_atom a.last a.atom)
          (λ k. omega (arith, new_atom-other a.last a.atom k (sym c.if-eq.ensures))) (c.if-not-finds.ensures refl),
    )
