-- 01, module 8, Closing: what a closing's words are as a state, and what is decided in them. Assumes nothing.
use Rattle.std.specs.Prelude.{◌≡◌, List, ℕ, T, length}
use Rattle.std.specs.Borrow.{MutBor}
use Rattle.words.specs.Region.{Region, region, is_region}
use Rattle.meter.specs.declared.Meter.{Meter}
use Rattle.model.specs.Closing.{State}
use Rattle.close_note.specs.Noting.{Room, Logs}
use Rattle.close_publish.specs.declared.Closing.{Closing}
use Rattle.close_publish.specs.Turns.{Beside, state, Counted}

abbrev pub region_of : Closing → Region
region_of c = region c.held.now c.cut.now

abbrev pub state_of : Beside → Closing → Meter → State
state_of l c m = state l c.held.now c.cut.now m

-- the words are a region over the atoms, with room to note each atom that can still be decided
pub record Closes (c : Closing) : Type 0 where
  pub whole : T (is_region c.atoms (region_of c))
  pub room : Room c.atoms c.decided c.noted.now (region_of c)

-- what is decided is counted
abbrev pub Decides : Closing → Closing → Type 0
Decides c d = Counted c.atoms c.decided d.decided (region_of c) (region_of d)

-- the same slice, as long as it was
pub record Same (v w : MutBor (List ℕ)) : Type 0 where
  pub name : w.ghost_name ≡ v.ghost_name
  pub long : length w.now ≡ length v.now

-- a closing that goes on from another: still a region over its atoms, in the same slices, and what was decided is noted
pub record Goes (c d : Closing) : Type 0 where
  pub atoms : d.atoms ≡ c.atoms
  pub whole : T (is_region c.atoms (region_of d))
  pub logged : Logs c.atoms c.decided c.noted.now (region_of c) d.decided d.noted.now (region_of d)
  pub held : Same c.held d.held
  pub cut : Same c.cut d.cut
  pub noted : Same c.noted d.noted
