-- `post_side`. A literal of an atom seen is passed, another ticked and posted. Assumes nothing.
use mathlib.Core.Path.{◌≡◌, sym, ap, ◌∙◌}
use mathlib.Core.List.{List, ◌∷◌}
use Prim.Native.Nat.{ℕ, ◌+◌, ◌*◌, ◌/◌, ◌^◌, ◌<◌}
use native.Mathlib.Omega.{arith}
use mathlib.Core.Bool.{false}
use lib.Dec.{eqb}
use lib.ListN.{length, length-set}
use Rattle.std.specs.Prelude.{Some}
use Rattle.std.specs.Option.{option_eq}
use Rattle.words.specs.Bit.{max_word}
use Rattle.words.specs.Literal.{code_bits}
use Rattle.meter.proofs.Payments.{passed}
use Rattle.model.specs.Records.{max_rows}
use Rattle.slots.specs.Cursor.{list_of, rest, rest-start}
use Rattle.postings.specs.Steps.{Walk, walk}
use Rattle.postings.specs.Filling.{Filled, put, filled_to, side_postings, left_postings}
use Rattle.postings.proofs.Walking.{walk-done}
use Rattle.postings.proofs.Fills.{posting-fits, filled-ended, Room, room-head, room-skip, room-post, left-start, left-none, last_met}
use Rattle.postings.proofs.Fills.{met-same, met-other}
use Rattle.postings.proofs.Fills.{left-skip, left_step}
use Rattle.postings.proofs.filling.post_side.Goals.{In-Some}
use Rattle.postings.proofs.filling.post_side.Goals as goal

module _ (c : In-Some) where
  abbrev code : ℕ
  code = c.in-Some.code

  abbrev past : List ℕ
  past = rest c.args.slot.now c.args.side c.in-Some.past

  taken : rest c.args.slot.now c.args.side c.loop-next.cursor ≡ code ∷ past
  taken = sym c.in-Some.ensures.0

  room : Room code_bits (code ∷ past) c.loop-next.next (length c.loop-next.postings)
  room = rw taken at c.loop-next.invariant.room

  fits : code / 2 * max_rows + c.args.position < 2 ^ 64
  fits = posting-fits code_bits (omega arith) code c.args.position (room-head room).0 c.requires.place

  other : option_eq eqb c.loop-next.last (Some (code / 2)) ≡ false → code / 2 ≡ last_met c.loop-next.last → ⊥
  other = met-other c.loop-next.last (code / 2) (omega (arith, fits))

  -- the literal and what is past it are the whole
  turn : let a = c.args in
      walk put (left_postings a.position (last_met c.loop-next.last) (code ∷ past)) (filled_to c.loop-next.next c.loop-next.postings)
      c.loop-next.meter
      ≡ walk put (side_postings a.position (list_of a.slot.now a.side)) (filled_to a.at a.postings.now) a.meter.now
  turn = rw taken at c.loop-next.invariant.same

pub loop-next-init : goal.loop-next-init
loop-next-init c =
    let a = c.args in
    let begun = c.start-cursor.ensures in
    let start = ap (rest a.slot.now a.side) begun ∙ rest-start a.slot.now a.side in
    record {
      placed = (omega (arith, ap (λ k. k.next) begun), omega (arith, ap (λ k. k.word) begun));
      room = rw start (record { low = c.requires.low; room = c.requires.room });
      same = ap (λ (l : List ℕ). walk put l (filled_to a.at a.postings.now) a.meter.now)
          (ap (left_postings a.position max_word) start
          ∙ left-start a.position code_bits max_word (list_of a.slot.now a.side) c.requires.low (omega arith));
    }

pub loop-next-preserved-then-eq : goal.loop-next-preserved-then-eq
loop-next-preserved-then-eq c =
    let here = (goal.at.loop-next-preserved-then-eq c).In-Some in
    record {
      placed = c.in-Some.ensures.1;
      room = room-skip (room here);
      same = ap (λ (l : List ℕ). walk put l (filled_to c.loop-next.next c.loop-next.postings) c.loop-next.meter)
          (sym (left-skip c.args.position (last_met c.loop-next.last) (code here) (past here)
          (met-same _ _ (sym c.eq.ensures ∙ c.if-eq.true)))) ∙ turn here;
    }

pub returns-in_err-tick : goal.returns-in_err-tick
returns-in_err-tick c =
    let here = (goal.at.returns-in_err-tick c).In-Some in
    filled-ended _ _ _ (passed c.from_residual.ensures.1)
    (ap (λ (w : Walk Filled). w.end)
    (sym (left_step _ _ (code here) (past here) _ _ (other here (sym c.eq.ensures ∙ c.if-eq.false)) c.in_err-tick.ensures) ∙ turn here))

pub overflow_mul-postings : goal.overflow_mul-postings
overflow_mul-postings c = omega (arith, fits (goal.at.overflow_mul-postings c).In-Some)

pub overflow_add-postings : goal.overflow_add-postings
overflow_add-postings c = omega (arith, fits (goal.at.overflow_add-postings c).In-Some)

pub loop-next-preserved : goal.loop-next-preserved
loop-next-preserved c =
    let here = (goal.at.loop-next-preserved c).In-Some in
    record {
      placed = c.in-Some.ensures.1;
      room = simp length-set (room-post (room here));
      same = sym (left_step _ _ (code here) (past here) _ _ (other here (sym c.eq.ensures ∙ c.if-eq.false)) c.in_ok-tick.ensures)
          ∙ turn here;
    }

pub returns : goal.returns
returns c =
    walk-done put _ _ _
    (ap (left_postings c.args.position (last_met c.loop-next.last)) (sym c.in_default.ensures.0)
    ∙ left-none c.args.position (last_met c.loop-next.last))
    ∙ c.loop-next.invariant.same
