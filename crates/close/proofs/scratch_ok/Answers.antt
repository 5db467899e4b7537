-- `close::scratch_ok`. One length, then the other. Assumes nothing.
use Rattle.close.proofs.Finishing.{scratch-no, scratch-yes}
use Rattle.close.proofs.scratch_ok.Goals as goal

pub returns-then-rows-limits : goal.returns-then-rows-limits
returns-then-rows-limits c = let a = c.args in scratch-no a.limits a.rows.now a.atoms.now c.if-rows-limits.true

pub returns : goal.returns
returns c = let a = c.args in scratch-yes a.limits a.rows.now a.atoms.now c.if-rows-limits.false
