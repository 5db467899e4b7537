-- `script_notation::literals::items`. Each word passed is not empty, so what is left of the line falls. Assumes nothing.
use Rattle.std.proofs.Common.{◌-◌, length}
use Rattle.script_notation.proofs.literals.items.Given as goal

abbrev pub decreases-loop-word : goal.decreases-loop-word
decreases-loop-word l = length l.line - l.next
