-- `prepare` meets its contract: the form, then the reads that it asks for. Assumes nothing.
use native.Mathlib.Omega.{arith}
use mathlib.Core.Path.{◌≡◌, ap, ap₂, ◌∙◌}
use Prim.Native.Nat.{ℕ}
use Rattle.meter.specs.Meter.{pay}
use Rattle.model.specs.Rows.{prepare_reads}
use Rattle.model.specs.Slots.{row_in}
use Rattle.row_write.specs.Forms.{reads_for}
use Rattle.row_write.proofs.Forms.{reads-form}
use Rattle.row_write.proofs.Proposal.{counts}
use Rattle.row_write.proofs.prepare.Goals as goal

pub bounds-p-0 : goal.bounds-p-0
bounds-p-0 c = let k = counts c.requires in omega arith

pub bounds-p-1 : goal.bounds-p-1
bounds-p-1 c = let k = counts c.requires in omega arith

pub overflow_add-p : goal.overflow_add-p
overflow_add-p c = let k = counts c.requires in omega arith

pub reads_of-reads-requires : goal.reads_of-reads-requires
reads_of-reads-requires c = let k = counts c.requires in omega arith

pub returns-clause-reads : goal.returns-clause-reads
returns-clause-reads c =
    let reads-are : c.reads_of-reads.result ≡ prepare_reads (row_in c.args.p.now) =
    c.reads_of-reads.ensures ∙ ap₂ reads_for (counts c.requires).all c.form_of-form.ensures ∙ reads-form (row_in c.args.p.now) in
    c.pay_all-paid.ensures ∙ ap (λ (n : ℕ). pay n c.args.purse.now.account c.args.purse.now.meter) reads-are
