-- `contents::by_postings::atoms_in`. A word has at most 64 bits. Assumes nothing.
use Rattle.std.proofs.Common.{rules, ◌≤◌, bit_or}
use Rattle.std.specs.Int.Bits.{or_lt}
use Rattle.std.specs.Int.Count.{ones, ones-le}
use Rattle.contents.proofs.by_postings.atoms_in.Goals.{Start}
use Rattle.contents.proofs.by_postings.atoms_in.Goals as goal

few : (c : Start) → ones (bit_or c.args.present c.args.absent) ≤ 64
few c = ones-le 64 _ (or_lt 64 c.args.present c.args.absent c.ranges.present.fits c.ranges.absent.fits)

pub overflow_cast-result : goal.overflow_cast-result
overflow_cast-result c = let f = few (goal.at.overflow_cast-result c).Start in search rules

pub returns : goal.returns
returns c = let f = few (goal.at.returns c).Start in search rules
