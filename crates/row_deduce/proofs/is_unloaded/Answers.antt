-- `row_deduce::is_unloaded`: three numbers are zero where their bits together are none. Assumes nothing.
use mathlib.Core.Path.{ap, ◌∙◌}
use mathlib.Core.Bool.{Bool, ◌&&◌}
use lib.Bits.{bit_or}
use lib.Dec.{eqb}
use Rattle.words.proofs.Masks.{eqb-or}
use Rattle.model.specs.Operations.{unloaded}
use Rattle.row_deduce.proofs.is_unloaded.Goals as goal

pub returns : goal.returns
unfolding unloaded
returns c =
    let k = c.args.cursor in
    eqb-or k.word (bit_or k.present k.absent) ∙ ap (λ (b : Bool). eqb k.word 0 && b) (eqb-or k.present k.absent)
