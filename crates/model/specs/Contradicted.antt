-- 02, Six: what a closing hands on, the output contradicted of the last Require that it acted on, or none. Assumes nothing.
use Rattle.std.specs.Prelude.{Option}
use Rattle.model.specs.declared.Literal.{Literal}

abbrev pub Contradicted : Type 0
Contradicted = Option Literal
