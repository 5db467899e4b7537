-- `words::locate`: a shift by less than 64 is the bit of the atom. Assumes nothing.
use Rattle.words.proofs.Places.{place-code}
use Rattle.words.proofs.locate.Goals as goal

pub returns : goal.returns
returns c = place-code c.args.atom
