-- `subsumes` by its length tests and its two inclusions. Assumes nothing.
use mathlib.Core.Path.{◌≡◌, refl, sym, ◌∙◌, ap, ap₂}
use mathlib.Core.Bool.{Bool, true, false, ◌&&◌, and-false}
use Prim.Native.Nat.{◌+◌, ◌≤◌, ◌<◌}
use lib.ListN.{length}
use lib.Dec.{leb}
use borrow.Author.Tests.{le-leb, lt-leb}
use Rattle.meter.specs.declared.Meter.{Meter}
use Rattle.meter.specs.declared.Account.{Account}
use Rattle.meter.specs.Judged.{Judged}
use Rattle.meter.specs.Verdict.{Verdict}
use Rattle.meter.specs.Verdict as verdict
use Rattle.meter.specs.Read.{Paid}
use Rattle.meter.specs.Meter.{pay, judged}
use Rattle.model.specs.Records.{Row}
use Rattle.model.specs.Rows.{includes, includes_reads, lengths_fit, subsumes, subsumes_reads}
use Rattle.meter.proofs.Payments.{on_yes, ask-both}
use Rattle.row_subsume.proofs.Including.{included}

-- an answer that is not Yes is the answer to both questions
pub other_than_yes : (v : Verdict) (i j : Judged) → (v ≡ verdict.Yes → ⊥) → i ≡ on_yes v i j
other_than_yes verdict.Yes i j n = absurd (n refl)
other_than_yes verdict.No i j n = refl
other_than_yes verdict.Declined i j n = refl
other_than_yes verdict.Stopped i j n = refl

module _ (r s : Row) (a : Account) (m : Meter) where
  abbrev pub subsumed : Judged
  subsumed = judged (subsumes r s) (pay (subsumes_reads r s) a m)

  -- the same, the length tests apart
  abbrev if_fit : Bool → Judged
  if_fit b =
      judged (b && (includes s.conditions r.conditions && includes r.outputs s.outputs))
      (pay
      (elim b [
        | false ↦ 0
        | true ↦ includes_reads s.conditions r.conditions
            + (elim (includes s.conditions r.conditions)
            [ true ↦ includes_reads r.outputs s.outputs | false ↦ 0 ])
      ])
      a m)

  fit : {b : Bool} → lengths_fit r s ≡ b → if_fit b ≡ subsumed
  unfolding subsumes subsumes_reads
  fit e = ap if_fit (sym e)

  pub subsumes-longer : length s.conditions < length r.conditions → judged false (Paid a m) ≡ subsumed
  unfolding lengths_fit pay
  subsumes-longer h =
      fit (ap (λ (b : Bool). b && leb (length s.outputs) (length r.outputs))
      (lt-leb (length r.conditions) (length s.conditions) h))

  pub subsumes-poorer : length r.outputs < length s.outputs → judged false (Paid a m) ≡ subsumed
  unfolding lengths_fit pay
  subsumes-poorer h =
      fit (ap (λ (b : Bool). leb (length r.conditions) (length s.conditions) && b)
      (lt-leb (length s.outputs) (length r.outputs) h) ∙ and-false (leb (length r.conditions) (length s.conditions)))

  -- an answer i to the first inclusion, then the second
  pub subsumes-both : {i : Judged} → i ≡ included s.conditions r.conditions a m → length r.conditions ≤ length s.conditions
      → length s.outputs ≤ length r.outputs → on_yes i.verdict i (included r.outputs s.outputs i.account i.meter) ≡ subsumed
  unfolding lengths_fit
  subsumes-both e h k =
      ap (λ (i : Judged). on_yes i.verdict i (included r.outputs s.outputs i.account i.meter)) e
      ∙ ask-both (includes s.conditions r.conditions) (includes r.outputs s.outputs)
      (includes_reads s.conditions r.conditions) (includes_reads r.outputs s.outputs) a m
      ∙ fit (ap₂ (λ (b c : Bool). b && c) (le-leb (length r.conditions) (length s.conditions) h)
      (le-leb (length s.outputs) (length r.outputs) k))
