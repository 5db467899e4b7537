-- `write_body` meets its contract: the total alone tells the form. Assumes nothing.
use mathlib.Core.Path.{sym, ap, ◌∙◌}
use Rattle.model.specs.Slots.{row_in}
use Rattle.row_write.specs.declared.Form.{Form}
use Rattle.row_write.proofs.Forms.{scalar-of, packed-of}
use Rattle.row_write.proofs.write_body.Goals as goal

pub write_scalar-requires-clause-fact_3 : goal.write_scalar-requires-clause-fact_3
write_scalar-requires-clause-fact_3 c =
    scalar-of (row_in c.args.p.now) (sym (ap (λ (f : Form). f.total) c.requires.fact_3) ∙ c.if-form-eq0.true)

pub write_packed-requires-clause-fact_4 : goal.write_packed-requires-clause-fact_4
write_packed-requires-clause-fact_4 c =
    packed-of (row_in c.args.p.now) (λ n. c.if-form-eq0.false (ap (λ (f : Form). f.total) c.requires.fact_3 ∙ n))
