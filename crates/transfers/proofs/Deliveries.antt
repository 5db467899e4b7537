-- Delivering, one row of the tier after another: the next row goes on where the one before it did. Assumes nothing.
use mathlib.Core.Path.{◌≡◌, refl, sym, ap, ◌∙◌}
use mathlib.Core.Bool.{Bool, true, false}
use mathlib.Core.List.{List, [], ◌∷◌, ◌++◌, append-nil}
use Prim.Native.Nat.{ℕ}
use Rattle.meter.specs.declared.Meter.{Meter}
use Rattle.meter.specs.Tick.{Tick, Ticked, Stopped}
use Rattle.meter.specs.Meter.{tick_of}
use Rattle.model.specs.declared.LearningLimits.{LearningLimits}
use Rattle.model.specs.Records.{Entry, Ledger, saturating_add, with_hits, with_delivered}
use Rattle.model.specs.Retention.{Outcome, Stops, Declines, Subsumes, Adds, Retention}
use Rattle.model.specs.Transfers.{Transfer, Progress, whole, declined, stopped, ticked, receive, received, change_at, passes_over, Delivery}
use Rattle.model.specs.Transfers.{front, deliver_rows}
use Rattle.transfers.specs.Handing.{handed}

-- go on from a whole transfer; else the rows es stay
abbrev pub along_by : Progress → List Entry → (Transfer → Delivery) → Delivery → Delivery
along_by whole es f d = (d.0 ++ (f d.1).0, (f d.1).1)
along_by declined es f d = (d.0 ++ es, d.1)
along_by stopped es f d = (d.0 ++ es, d.1)

abbrev pub along : List Entry → (Transfer → Delivery) → Delivery → Delivery
along es f d = along_by d.1.progress es f d

module _ (tier : LearningLimits) where
  pub deliver-end : (v : Transfer) → deliver_rows tier [] v ≡ ([], v)
  unfolding deliver_rows
  deliver-end v = refl

  -- ---- a row handed over
  module _ (e : Entry) (v : Transfer) where
    abbrev d : Retention
    d = receive tier e.unshared e.source e.row v

    abbrev counts : ℕ → Ledger
    counts p = change_at p (λ x. with_hits x (saturating_add x.hits e.unshared)) d.ledger

    abbrev ends : Outcome → Delivery
    ends Stops = (e ∷ [], received v d d.ledger 0 stopped)
    ends Declines = (e ∷ [], received v d d.ledger 0 declined)
    ends (Subsumes p) = (with_delivered 0 e ∷ [], received v d (counts p) 0 whole)
    ends (Adds p) = (with_delivered 0 e ∷ [], received v d d.ledger 1 whole)

    by : (o : Outcome) → o ≡ d.outcome → handed tier e v ≡ ends o
    unfolding handed
    by o q = sym (ap ends q)

    pub handed-stops : Stops ≡ d.outcome → handed tier e v ≡ (e ∷ [], received v d d.ledger 0 stopped)
    handed-stops q = by Stops q

    pub handed-declines : Declines ≡ d.outcome → handed tier e v ≡ (e ∷ [], received v d d.ledger 0 declined)
    handed-declines q = by Declines q

    pub handed-subsumed : (p : ℕ) → Subsumes p ≡ d.outcome → handed tier e v ≡ (with_delivered 0 e ∷ [], received v d (counts p) 0 whole)
    handed-subsumed p q = by (Subsumes p) q

    pub handed-added : (p : ℕ) → Adds p ≡ d.outcome → handed tier e v ≡ (with_delivered 0 e ∷ [], received v d d.ledger 1 whole)
    handed-added p q = by (Adds p) q

  -- ---- the first row, then the rest
  module _ (e : Entry) (v : Transfer) where
    module _ (es : List Entry) where
      abbrev then : Delivery → Delivery
      then = along es (deliver_rows tier es)

      halted : (m : Meter) → tick_of v.meter ≡ Stopped m → deliver_rows tier (e ∷ es) v ≡ (e ∷ es, ticked v m stopped)
      unfolding deliver_rows
      halted m q = rw (q, deliver_rows)

      past : (m : Meter) → tick_of v.meter ≡ Ticked m → passes_over tier e ≡ true
          → deliver_rows tier (e ∷ es) v ≡ then (e ∷ [], ticked v m whole)
      unfolding deliver_rows front ticked
      past m q h = rw (q, h, deliver_rows, front, ticked)

      over : (m : Meter) → tick_of v.meter ≡ Ticked m → passes_over tier e ≡ false
          → deliver_rows tier (e ∷ es) v ≡ then (handed tier e (ticked v m whole))
      unfolding deliver_rows handed front ticked received
      over m q h = rw (q, h, deliver_rows) (go (receive tier e.unshared e.source e.row (ticked v m whole)).outcome)
        where
          w : Retention
          w = receive tier e.unshared e.source e.row (ticked v m whole)

          go : (o : Outcome) →
              (elim o as (λ x. Delivery) [
                | Stops ↦ (e ∷ es, received v w w.ledger 0 stopped)
                | Declines ↦ (e ∷ es, received v w w.ledger 0 declined)
                | Subsumes p ↦ front (with_delivered 0 e)
                    (deliver_rows tier es
                    (received v w (change_at p (λ x. with_hits x (saturating_add x.hits e.unshared)) w.ledger) 0 whole))
                | Adds p ↦ front (with_delivered 0 e) (deliver_rows tier es (received v w w.ledger 1 whole))
              ])
              ≡ then (elim o as (λ x. Delivery) [
                | Stops ↦ (e ∷ [], received (ticked v m whole) w w.ledger 0 stopped)
                | Declines ↦ (e ∷ [], received (ticked v m whole) w w.ledger 0 declined)
                | Subsumes p ↦ (
                  with_delivered 0 e ∷ [],
                  received (ticked v m whole) w (change_at p (λ x. with_hits x (saturating_add x.hits e.unshared)) w.ledger) 0 whole,
                )
                | Adds p ↦ (with_delivered 0 e ∷ [], received (ticked v m whole) w w.ledger 1 whole)
              ])
          go Stops = refl
          go Declines = refl
          go (Subsumes p) = refl
          go (Adds p) = refl

    alone : (x : Delivery) (r : Progress) → along_by r [] (deliver_rows tier []) x ≡ x
    alone x whole =
        ap (λ (k : Delivery). (x.0 ++ k.0, k.1)) (deliver-end x.1) ∙ ap (λ (es : List Entry). (es, x.1)) (append-nil x.0)
    alone x declined = ap (λ (es : List Entry). (es, x.1)) (append-nil x.0)
    alone x stopped = ap (λ (es : List Entry). (es, x.1)) (append-nil x.0)

    -- one row alone, by the way that it goes
    pub deliver-halted : (m : Meter) → tick_of v.meter ≡ Stopped m → deliver_rows tier (e ∷ []) v ≡ (e ∷ [], ticked v m stopped)
    deliver-halted m q = halted [] m q

    module _ (m : Meter) (q : tick_of v.meter ≡ Ticked m) where
      pub deliver-past : passes_over tier e ≡ true → deliver_rows tier (e ∷ []) v ≡ (e ∷ [], ticked v m whole)
      deliver-past h = past [] m q h ∙ alone (e ∷ [], ticked v m whole) (ticked v m whole).progress

      pub deliver-handed : passes_over tier e ≡ false → deliver_rows tier (e ∷ []) v ≡ handed tier e (ticked v m whole)
      deliver-handed h = over [] m q h ∙ alone (handed tier e (ticked v m whole)) (handed tier e (ticked v m whole)).1.progress

    module _ (es : List Entry) where
      by-test : (m : Meter) → tick_of v.meter ≡ Ticked m → (b : Bool) → passes_over tier e ≡ b
          → deliver_rows tier (e ∷ es) v ≡ then es (deliver_rows tier (e ∷ []) v)
      by-test m q true h = past es m q h ∙ sym (ap (then es) (deliver-past m q h))
      by-test m q false h = over es m q h ∙ sym (ap (then es) (deliver-handed m q h))

      by-tick : (t : Tick) → tick_of v.meter ≡ t → deliver_rows tier (e ∷ es) v ≡ then es (deliver_rows tier (e ∷ []) v)
      unfolding ticked
      by-tick (Stopped m) q = halted es m q ∙ sym (ap (then es) (deliver-halted m q))
      by-tick (Ticked m) q = by-test m q (passes_over tier e) refl

      pub deliver-split : deliver_rows tier (e ∷ es) v ≡ along es (deliver_rows tier es) (deliver_rows tier (e ∷ []) v)
      deliver-split = by-tick (tick_of v.meter) refl
