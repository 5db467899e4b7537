-- `close_publish::Closing::publish`. One law for each way that a turn ends. Assumes nothing.
use mathlib.Core.Path.{refl, ap, ◌∙◌}
use Prim.Native.Nat.{ℕ}
use native.Mathlib.Omega.{arith}
use Rattle.std.specs.Prelude.{Option, Ok}
use Rattle.meter.proofs.Payments.{passed}
use Rattle.model.specs.declared.Literal.{Literal}
use Rattle.model.specs.Deduction.{start_cursor}
use Rattle.slots.proofs.Storing.{laid-stored}
use Rattle.row_deduce.specs.Publication.{next_of}
use Rattle.model.specs.Closing.{decide_on}
use Rattle.close_publish.specs.Closed.{state_of}
use Rattle.close_publish.proofs.Closed.{goes-start, goes-closes, goes-on, decides-on}
use Rattle.close_publish.proofs.Ending.{ended-on}
use Rattle.close_publish.proofs.Deciding.{counted-both}
use Rattle.close_publish.proofs.Publishing.{publish-start, publish-stopped, publish-end, publish-halts, publish-less, publish-on}
use Rattle.close_publish.proofs.Closing.publish.Goals as goal

pub outputs-side-requires : goal.outputs-side-requires
outputs-side-requires c =
    let laid = laid-stored c.args.self.now.atoms c.args.slot.now c.requires.fact_1 in record {
      fact_1 = omega (arith, laid.long);
      fact_2 = laid.counted;
    }

pub loop-literal-init : goal.loop-literal-init
unfolding start_cursor
loop-literal-init c =
    let a = c.args in
    let s = a.self.now in record {
      publishes = publish-start s.atoms a.slot.now c.requires.fact_1 s.held.now s.cut.now a.meter.now s.decided c.requires.fact_2.whole;
      goes = goes-start s c.requires.fact_2;
    }

pub next_output-requires : goal.next_output-requires
next_output-requires c =
    let w = c.loop-literal.invariant.publishes in record {
      fact_1 = record { holds = record { atoms = c.args.self.now.atoms; stored = c.requires.fact_1 }; region = w.whole };
      fact_2 = w.pointed;
      fact_3 = c.outputs-side.ensures;
    }

pub returns-in_err-literal-clause-turn : goal.returns-in_err-literal-clause-turn
returns-in_err-literal-clause-turn c l =
    ended-on _ (passed c.from_residual.ensures.1)
    (publish-stopped _ _ c.requires.fact_1 _ _ _ _ _ _ _ _ _ c.loop-literal.invariant.publishes _ _ _ c.in_err-literal.ensures refl l)

pub decide_on-requires : goal.decide_on-requires
decide_on-requires c = goes-closes _ _ c.requires.fact_2 c.loop-literal.invariant.goes

pub loop-literal-smaller : goal.loop-literal-smaller
loop-literal-smaller c =
    publish-less _ _ c.requires.fact_1 _ _ _ _ _ _ _ _ _ c.loop-literal.invariant.publishes _ _ _ c.in_ok-literal.ensures
    c.in-Some.literal.0 (ap (λ (o : Option Literal). next_of (Ok o)) c.in-Some.is)

pub loop-literal-preserved : goal.loop-literal-preserved
loop-literal-preserved c =
    let i = c.loop-literal.invariant in
    let s = c.loop-literal.self in
    let d = c.in_ok-decide_on.ensures in
    let goes = goes-on _ _ c.requires.fact_2 i.goes _ d.goes in record {
      publishes = publish-on _ _ c.requires.fact_1 _ _ _ _ _ _ _ _ _ i.publishes _ _ _ c.in_ok-literal.ensures
          c.in-Some.literal.0 (ap (λ (o : Option Literal). next_of (Ok o)) c.in-Some.is) _ _ _
          (λ l m. d.turn l m ∙ ap (λ (n : ℕ). decide_on n c.in-Some.literal.0 (state_of l s m)) i.goes.atoms)
          (decides-on _ _ c.requires.fact_2 i.goes c.decide_on.new.self d.decides) goes.whole;
      goes = goes;
    }

pub returns-in_err-decide_on : goal.returns-in_err-decide_on
returns-in_err-decide_on c =
    let i = c.loop-literal.invariant in
    let s = c.loop-literal.self in
    let d = c.in_err-decide_on.ensures in record {
      turn = λ b. ended-on _ (passed c.from_residual-in_err-decide_on.ensures.1)
          (publish-halts _ _ c.requires.fact_1 _ _ _ _ _ _ _ _ _ i.publishes _ _ _ c.in_ok-literal.ensures
          c.in-Some.literal.0 (ap (λ (o : Option Literal). next_of (Ok o)) c.in-Some.is) _ _ _
          (λ l m. d.turn l m ∙ ap (λ (n : ℕ). decide_on n c.in-Some.literal.0 (state_of l s m)) i.goes.atoms) b);
      decides = counted-both _ _ _ _ _ _ _ i.publishes.counted (decides-on _ _ c.requires.fact_2 i.goes c.decide_on.new.self d.decides);
      goes = goes-on _ _ c.requires.fact_2 i.goes _ d.goes;
    }

pub returns-clause-turn : goal.returns-clause-turn
returns-clause-turn c l =
    publish-end _ _ c.requires.fact_1 _ _ _ _ _ _ _ _ _ c.loop-literal.invariant.publishes _ _ _ c.in_ok-literal.ensures
    (ap (λ (o : Option Literal). next_of (Ok o)) c.in_default.is) l
