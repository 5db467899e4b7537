-- `words::decide_literal`: one law for each way out. Assumes nothing.
use mathlib.Core.Path.{◌≡◌, ap}
use Prim.Native.Nat.{◌/◌, ◌<◌}
use native.Mathlib.Omega.{arith}
use lib.ListN.{length}
use Rattle.words.specs.Literal.{word_of, place_of}
use Rattle.words.specs.Region.{region}
use Rattle.words.specs.declared.Place.{Place}
use Rattle.words.proofs.Regions.{Sound, sound-of}
use Rattle.words.proofs.Deciding.{said-out, place_inside, present-against, absent-against, present-marked, absent-marked}
use Rattle.words.proofs.decide_literal.Goals.{After-locate-place}
use Rattle.words.proofs.decide_literal.Goals as goal

-- where the atom's place is known
module _ (c : After-locate-place) where
  abbrev sound : Sound c.args.atoms (region c.args.held.now c.args.cut.now)
  sound = sound-of c.args.atoms (region c.args.held.now c.args.cut.now) c.requires

  held-inside : c.locate-place.result.word < length c.args.held.now
  held-inside =
      place_inside c.args.atoms c.args.held.now c.args.cut.now c.args.literal _ c.locate-place.ensures
      c.args.held.now sound.held c.if-atoms-literal.false

  cut_inside : c.locate-place.result.word < length c.args.cut.now
  cut_inside =
      place_inside c.args.atoms c.args.held.now c.args.cut.now c.args.literal _ c.locate-place.ensures
      c.args.cut.now sound.cut c.if-atoms-literal.false

  place-word : c.locate-place.result.word ≡ c.args.literal / 2 / 64
  unfolding place_of word_of
  place-word = ap (λ (p : Place). p.word) c.locate-place.ensures

pub returns-then-atoms-literal : goal.returns-then-atoms-literal
returns-then-atoms-literal c =
    let a = c.args in
    let both = said-out a.atoms a.held.now a.cut.now a.literal c.if-atoms-literal.true in
    record { said = both.0; done = both.1 }

pub offset_bounds-held-word : goal.offset_bounds-held-word
offset_bounds-held-word c = omega (arith, place-word c)

pub bounds-held-word : goal.bounds-held-word
bounds-held-word c = held-inside (goal.at.bounds-held-word c).After-locate-place

pub offset_bounds-cut-word : goal.offset_bounds-cut-word
offset_bounds-cut-word c = omega (arith, place-word (goal.at.offset_bounds-cut-word c).After-locate-place)

pub bounds-cut-word : goal.bounds-cut-word
bounds-cut-word c = cut_inside (goal.at.bounds-cut-word c).After-locate-place

pub returns-then-cuts-place-ne0 : goal.returns-then-cuts-place-ne0
returns-then-cuts-place-ne0 c =
    let a = c.args in
    let both = present-against a.atoms a.held.now a.cut.now a.literal _ c.locate-place.ensures c.if-literal-eq1.true
    c.if-cuts-place-ne0.true in
    record { said = both.0; done = both.1 }

pub mark_at-requires : goal.mark_at-requires
mark_at-requires c = held-inside (goal.at.mark_at-requires c).After-locate-place

pub returns-then-holds-place-ne0 : goal.returns-then-holds-place-ne0
returns-then-holds-place-ne0 c =
    let a = c.args in
    let both = absent-against a.atoms a.held.now a.cut.now a.literal _ c.locate-place.ensures c.if-literal-eq1.false
    c.if-holds-place-ne0.true in
    record { said = both.0; done = both.1 }

pub mark_at-requires-else-literal-eq1 : goal.mark_at-requires-else-literal-eq1
mark_at-requires-else-literal-eq1 c = cut_inside (goal.at.mark_at-requires-else-literal-eq1 c).After-locate-place

pub returns-else-cuts-place-ne0 : goal.returns-else-cuts-place-ne0
returns-else-cuts-place-ne0 c =
    let a = c.args in
    let m = c.mark_at in
    let both = present-marked a.atoms a.held.now a.cut.now a.literal _ c.locate-place.ensures m.result _ c.if-literal-eq1.true
    c.if-atoms-literal.false c.if-cuts-place-ne0.false m.ensures.said m.ensures.done in
    record { said = both.0; done = both.1 }

pub returns-else-holds-place-ne0 : goal.returns-else-holds-place-ne0
returns-else-holds-place-ne0 c =
    let a = c.args in
    let m = c.mark_at-else-literal-eq1 in
    let both = absent-marked a.atoms a.held.now a.cut.now a.literal _ c.locate-place.ensures m.result _ c.if-literal-eq1.false
    c.if-atoms-literal.false c.if-holds-place-ne0.false m.ensures.said m.ensures.done in
    record { said = both.0; done = both.1 }
