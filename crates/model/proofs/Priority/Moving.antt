-- Transfers are steps of both ledgers. Assumes nothing.
use mathlib.Core.Path.{◌≡◌, refl, sym, ◌∙◌, ap₂, subst}
use mathlib.Core.Logic.{inl, inr}
use mathlib.Core.Bool.{Bool, true, false, ◌||◌, not}
use mathlib.Core.List.{List, [], ◌∷◌, ◌++◌}
use mathlib.Core.Option.{none}
use Prim.Native.Nat.{ℕ, suc, ◌≤◌, max}
use native.Mathlib.Omega.{arith}
use lib.Dec.{T, eqb, leb, eqb→eq}
use lib.ListN.{length}
use Rattle.meter.specs.declared.Meter.{Meter}
use Rattle.meter.specs.declared.Account.{Account}
use Rattle.meter.specs.Meter.{tick_of, pay}
use Rattle.model.specs.declared.LearningLimits.{LearningLimits}
use Rattle.model.specs.declared.Header.{Header}
use Rattle.model.specs.declared.Source.{Source}
use Rattle.model.specs.Records.{Row, Entry, Ledger, is_row, is_row_over, literals, saturating_add}
use Rattle.model.specs.Records.{with_account, with_mark, with_deliveries, with_seeded, with_hits}
use Rattle.model.specs.Records.{with_delivered, max_outputs}
use Rattle.model.specs.Retention.{Retention}
use Rattle.model.specs.Transfers.{Transfer, Delivery, Progress, starting, ticked, receive, received, change_at, seed_rows}
use Rattle.model.specs.Transfers.{seeding, marked, seeded_tier, seeded_store, passes_over, front, deliver_rows, delivering, delivered_tier}
use Rattle.model.specs.Transfers.{delivered_store}
use Rattle.model.specs.Transfers as transfers
use Rattle.model.specs.Refusals.{Lent, ledger_in, lent_of, accepts}
use Rattle.model.specs.Operations.{Transferred}
use Rattle.model.specs.Operations.{transfer_refusal, untransferred, transferred, seed, deliver}
use Rattle.model.specs.Priority.{In, Covers}
use Rattle.model.proofs.Slots.{valid-of}
use Rattle.model.proofs.Priority.Covering.{rows_e, covers-refl, covers-trans}
use Rattle.model.proofs.Priority.Retaining.{Alike, alike_refl, alike-trans, RetainedOk, retain-ok}
use Rattle.model.proofs.Priority.Fine.{Fine, retain-fine, Counted, none-counted, both-counted}
use Rattle.model.proofs.Priority.Steps.{if-elim, opt-elim, tick-elim, out-elim, alike-app, covers-app, app_assoc, nor-left}
use Rattle.model.proofs.Priority.Steps.{nor-right, Over, over-app, Accepted, refusal-cons, accepted, rows_ok, fine-in, row-over}
use Rattle.model.proofs.Priority.Steps.{most-ok, StepOk, still, quiet, to-lent}
use Rattle.model.proofs.Priority.Quiet.{adjust-rows, Same, same_refl}
use Rattle.model.proofs.Entries.{founded-adjust}

-- what the receiver l has become and taken
pub record TransferOk (l : Ledger) (v : Transfer) : Type 0 where
  pub limits : v.receiver.header.limits ≡ l.header.limits
  pub alike : T (not v.evicts) → Alike (rows_e v.receiver.entries) (v.took ++ rows_e l.entries)
  pub fine : Fine (rows_e v.receiver.entries)
  pub over : Over l.header.limits.atoms v.took
  pub from : Covers (v.took ++ rows_e l.entries) (rows_e v.receiver.entries)
  pub counted : Counted v.evicts l.header.evicted v.receiver.header.evicted

starting-ok : (l : Ledger) (a : Account) (m : Meter) → Fine (rows_e l.entries) → TransferOk l (starting l a m)
unfolding starting
starting-ok l a m f =
    record {
      limits = refl;
      alike = λ e. alike_refl (rows_e l.entries);
      fine = f;
      over = λ r i. absurd i;
      from = covers-refl (rows_e l.entries);
      counted = none-counted l.header.evicted;
    }

ticked-ok : (l : Ledger) (v : Transfer) (m : Meter) (x : Progress) → TransferOk l v → TransferOk l (ticked v m x)
unfolding ticked
ticked-ok l v m x k = record { limits = k.limits; alike = k.alike; fine = k.fine; over = k.over; from = k.from; counted = k.counted }

record ReceivedOk (l : Ledger) (v : Transfer) (d : Retention) : Type 0 where
  limits : d.ledger.header.limits ≡ l.header.limits
  alike : RetainedOk v.receiver d
  fine : Fine (rows_e d.ledger.entries)
  over : Over l.header.limits.atoms d.took
  from : Covers (d.took ++ rows_e v.receiver.entries) (rows_e d.ledger.entries)
  counted : Counted d.evicts v.receiver.header.evicted d.ledger.header.evicted

max-le : (a b : ℕ) → a ≤ max_outputs → b ≤ max_outputs → max a b ≤ max_outputs
max-le a b h k = omega arith

receive_ok : (l : Ledger) (tier : LearningLimits) (hits : ℕ) (source : Source) (r : Row) (v : Transfer)
    → tier.founded_outputs ≤ max_outputs
    → T (is_row l.header.limits.atoms r) → TransferOk l v → ReceivedOk l v (receive tier hits source r v)
unfolding receive
receive_ok l tier hits source r v h t k =
    let w = valid-of l.header.limits.atoms r t in
    let f = retain-fine v.receiver (max (length r.outputs) tier.founded_outputs) hits source r
    (pay (suc (literals r)) v.account v.meter) (max-le (length r.outputs) tier.founded_outputs w.many h) w k.fine in
    record {
      limits = f.limits ∙ k.limits;
      alike = retain-ok v.receiver (max (length r.outputs) tier.founded_outputs) hits source r
          (pay (suc (literals r)) v.account v.meter);
      fine = f.fine;
      over = λ q i. subst (λ (x : Row). T (is_row_over l.header.limits.atoms x)) (sym (f.took q i))
          (row-over l.header.limits.atoms r t);
      from = f.from;
      counted = f.counted;
    }

-- the receiver u has the rows and limits that the retention left
received-ok : (l : Ledger) (v : Transfer) (d : Retention) (u : Ledger) (k : ℕ) (x : Progress) → TransferOk l v → ReceivedOk l v d
    → Same d.ledger u → TransferOk l (received v d u k x)
unfolding received
received-ok l v d u k x a b q = record {
  limits = q.limits ∙ b.limits;
  alike = λ t.
      subst (λ (rs : List Row). Alike rs ((d.took ++ v.took) ++ rows_e l.entries)) (sym q.rows)
      (subst (λ (rs : List Row). Alike (rows_e d.ledger.entries) rs) (sym (app_assoc d.took v.took (rows_e l.entries)))
      (alike-trans (b.alike (nor-left d.evicts v.evicts t)) (alike-app d.took (a.alike (nor-right d.evicts v.evicts t)))));
  fine = subst Fine (sym q.rows) b.fine;
  over = over-app l.header.limits.atoms d.took v.took b.over a.over;
  from =
      subst (λ (rs : List Row). Covers ((d.took ++ v.took) ++ rows_e l.entries) rs) (sym q.rows)
      (subst (λ (rs : List Row). Covers rs (rows_e d.ledger.entries)) (sym (app_assoc d.took v.took (rows_e l.entries)))
      (covers-trans (covers-app d.took (v.took ++ rows_e l.entries) (rows_e v.receiver.entries) a.from) b.from));
  counted = subst (λ (k : ℕ). Counted (d.evicts || v.evicts) l.header.evicted k) (sym q.evicted)
      (both-counted d.evicts v.evicts l.header.evicted v.receiver.header.evicted d.ledger.header.evicted a.counted
      b.counted);
}

change-same : (p : ℕ) (f : Entry → Entry) (l : Ledger) → ((e : Entry) → (f e).row ≡ e.row) → ((e : Entry) → (f e).source ≡ e.source)
    → Same l (change_at p f l)
unfolding change_at
change-same p f l q w = record {
  limits = refl;
  rows = adjust-rows f q p l.entries;
  evicted = refl;
  counted = refl;
  founded = founded-adjust f w p l.entries;
}

delivered-row : (u : ℕ) (e : Entry) → (with_delivered u e).row ≡ e.row
unfolding with_delivered
delivered-row u e = refl

delivered-source : (u : ℕ) (e : Entry) → (with_delivered u e).source ≡ e.source
unfolding with_delivered
delivered-source u e = refl

hits-source : (e : Entry) (n : ℕ) → (with_hits e n).source ≡ e.source
unfolding with_hits
hits-source e n = refl

hits-row : (e : Entry) (n : ℕ) → (with_hits e n).row ≡ e.row
unfolding with_hits
hits-row e n = refl

abbrev RowsOk : ℕ → List Entry → Type 0
RowsOk n es = (r : Row) → In r (rows_e es) → T (is_row n r)

seed-rows-ok : (l : Ledger) (tier : LearningLimits) (mark : ℕ) (es : List Entry) (v : Transfer) → tier.founded_outputs ≤ max_outputs
    → RowsOk l.header.limits.atoms es → TransferOk l v → TransferOk l (seed_rows tier mark es v)
unfolding seed_rows
seed-rows-ok l tier mark [] v h c k = k
seed-rows-ok l tier mark (e ∷ es) v h c k =
    if-elim (TransferOk l) (leb e.born mark) _ _
    (λ t. tick-elim (TransferOk l) (tick_of v.meter) _ _ (λ m. ticked-ok l v m transfers.stopped k)
    (λ m. seed-rows-ok l tier mark es (ticked v m transfers.whole) h (λ r i. c r (inr i)) (ticked-ok l v m transfers.whole k)))
    (out-elim (TransferOk l) d.outcome _ _ _ _
    (received-ok l v d d.ledger 0 transfers.stopped k dk (same_refl d.ledger))
    (received-ok l v d d.ledger 0 transfers.declined k dk (same_refl d.ledger))
    (λ p. seed-rows-ok l tier mark es _ h (λ r i. c r (inr i))
    (received-ok l v d d.ledger 0 transfers.whole k dk (same_refl d.ledger)))
    (λ p. seed-rows-ok l tier mark es _ h (λ r i. c r (inr i))
    (received-ok l v d (change_at p (λ x. with_delivered x.unshared x) d.ledger) 1 transfers.whole k dk
    (change-same p (λ x. with_delivered x.unshared x) d.ledger (λ x. delivered-row x.unshared x)
    (λ x. delivered-source x.unshared x)))))
  where
    d : Retention
    d = receive tier e.hits e.source e.row v

    dk : ReceivedOk l v d
    dk = receive_ok l tier e.hits e.source e.row v h (c e.row (inl refl)) k

-- ---- delivering: the tier's rows stay
record DeliveryOk (l : Ledger) (es : List Entry) (x : Delivery) : Type 0 where
  rows : rows_e x.0 ≡ rows_e es
  transfer : TransferOk l x.1

front-ok : (l : Ledger) (e f : Entry) (es : List Entry) (x : Delivery) → f.row ≡ e.row → DeliveryOk l es x
    → DeliveryOk l (e ∷ es) (front f x)
unfolding front
front-ok l e f es x q k = record { rows = ap₂ (λ (r : Row) (rs : List Row). r ∷ rs) q k.rows; transfer = k.transfer }

deliver-rows-ok : (l : Ledger) (tier : LearningLimits) (es : List Entry) (v : Transfer) → tier.founded_outputs ≤ max_outputs
    → RowsOk l.header.limits.atoms es → TransferOk l v → DeliveryOk l es (deliver_rows tier es v)
unfolding deliver_rows ticked
deliver-rows-ok l tier [] v h c k = record { rows = refl; transfer = k }
deliver-rows-ok l tier (e ∷ es) v h c k =
    tick-elim (DeliveryOk l (e ∷ es)) (tick_of v.meter) _ _ (λ m. record { rows = refl; transfer = ticked-ok l v m transfers.stopped k })
    (λ m. if-elim (DeliveryOk l (e ∷ es)) (passes_over tier e) _ _
    (λ t. front-ok l e e es _ refl
    (deliver-rows-ok l tier es (ticked v m transfers.whole) h (λ r i. c r (inr i)) (ticked-ok l v m transfers.whole k)))
    (out-elim (DeliveryOk l (e ∷ es)) (d m).outcome _ _ _ _
    (record { rows = refl; transfer = received-ok l v (d m) (d m).ledger 0 transfers.stopped k (dk m) (same_refl (d m).ledger) })
    (record { rows = refl; transfer = received-ok l v (d m) (d m).ledger 0 transfers.declined k (dk m) (same_refl (d m).ledger) })
    (λ p. front-ok l e _ es _ (delivered-row 0 e) (deliver-rows-ok l tier es _ h (λ r i. c r (inr i))
    (received-ok l v (d m) (change_at p (λ x. with_hits x (saturating_add x.hits e.unshared)) (d m).ledger) 0 transfers.whole k (dk m)
    (change-same p (λ x. with_hits x (saturating_add x.hits e.unshared)) (d m).ledger
    (λ x. hits-row x (saturating_add x.hits e.unshared)) (λ x. hits-source x (saturating_add x.hits e.unshared))))))
    (λ p. front-ok l e _ es _ (delivered-row 0 e) (deliver-rows-ok l tier es _ h (λ r i. c r (inr i))
    (received-ok l v (d m) (d m).ledger 1 transfers.whole k (dk m) (same_refl (d m).ledger))))))
  where
    d : Meter → Retention
    d m = receive tier e.unshared e.source e.row (ticked v m transfers.whole)

    dk : (m : Meter) → ReceivedOk l v (d m)
    dk m =
        let x = receive_ok l tier e.unshared e.source e.row (ticked v m transfers.whole) h (c e.row (inl refl))
        (ticked-ok l v m transfers.whole k) in
        again m x
      where
        again : (m : Meter) → ReceivedOk l (ticked v m transfers.whole) (d m) → ReceivedOk l v (d m)
        again m x = record { limits = x.limits; alike = x.alike; fine = x.fine; over = x.over; from = x.from; counted = x.counted }

-- ---- the two operations
pub record BothAccepted (t s : Lent) : Type 0 where
  pub tier : Accepted t
  pub store : Accepted s
  pub atoms : t.header.limits.atoms ≡ s.header.limits.atoms

both : (t s : Lent) → transfer_refusal t s ≡ none → BothAccepted t s
unfolding transfer_refusal
both t s e =
    let x = accepted t true (accepts s true ((eqb t.header.limits.atoms s.header.limits.atoms, 7) ∷ [])) e in
    let y = accepted s true ((eqb t.header.limits.atoms s.header.limits.atoms, 7) ∷ []) x.1 in
    record {
      tier = x.0;
      store = y.0;
      atoms = eqb→eq t.header.limits.atoms s.header.limits.atoms (refusal-cons _ _ _ y.1).0;
    }

marked-limits : (x : Progress) (s : Ledger) (h : Header) → (marked x s h).limits ≡ h.limits
unfolding marked with_mark
marked-limits transfers.whole s h = refl
marked-limits transfers.declined s h = refl
marked-limits transfers.stopped s h = refl

marked-evicted : (x : Progress) (s : Ledger) (h : Header) → (marked x s h).evicted ≡ h.evicted
unfolding marked with_mark
marked-evicted transfers.whole s h = refl
marked-evicted transfers.declined s h = refl
marked-evicted transfers.stopped s h = refl

-- the transfer of seeding the tier t from the store s
seeding-ok : (t s : Lent) → BothAccepted t s → (m : Meter) → TransferOk (ledger_in t) (seeding (ledger_in t) (ledger_in s) m)
unfolding seeding ledger_in
seeding-ok t s b m =
    seed-rows-ok (ledger_in t) t.header.limits _ (ledger_in s).entries _ (most-ok t.header.limits b.tier.limits).1
    (λ r i. subst (λ (n : ℕ). T (is_row n r)) (sym b.atoms) (rows_ok s b.store r i))
    (starting-ok (ledger_in t) _ m (fine-in t b.tier))

delivering-ok : (t s : Lent) → BothAccepted t s → (m : Meter)
    → DeliveryOk (ledger_in s) (ledger_in t).entries (delivering (ledger_in t) (ledger_in s) m)
unfolding delivering ledger_in
delivering-ok t s b m =
    deliver-rows-ok (ledger_in s) t.header.limits (ledger_in t).entries _ (most-ok t.header.limits b.tier.limits).1
    (λ r i. subst (λ (n : ℕ). T (is_row n r)) b.atoms (rows_ok t b.tier r i))
    (starting-ok (ledger_in s) _ m (fine-in s b.store))

pub record TransferredOk (t s : Lent) (tier_takes : Bool) (e : Transferred) : Type 0 where
  pub tier : StepOk t e.seen.tier (elim tier_takes [ true ↦ e.took | false ↦ [] ]) (elim tier_takes [ true ↦ e.evicts | false ↦ false ])
  pub store : StepOk s e.seen.store
      (elim tier_takes [ true ↦ [] | false ↦ e.took ]) (elim tier_takes [ true ↦ false | false ↦ e.evicts ])

unmoved : (t s : Lent) (b : Bool) (n : ℕ) (m : Meter) → TransferredOk t s b (untransferred n t s m)
unfolding untransferred
unmoved t s true n m = record { tier = still t; store = still s }
unmoved t s false n m = record { tier = still t; store = still s }

seeded-tier : (t s : Lent) (v : Transfer) → TransferOk (ledger_in t) v → StepOk t (lent_of (seeded_tier (ledger_in s) v)) v.took v.evicts
unfolding seeded_tier with_account ledger_in
seeded-tier t s v k =
    to-lent t _ v.took v.evicts k.fine (marked-limits v.progress _ _ ∙ k.limits) k.alike k.over k.from
    (subst (λ (n : ℕ). Counted v.evicts t.header.evicted n) (sym (marked-evicted v.progress _ _)) k.counted)

seeded-store : (s : Lent) (v : Transfer) → Accepted s → StepOk s (lent_of (seeded_store (ledger_in s) v)) [] false
unfolding seeded_store with_seeded ledger_in
seeded-store s v a = quiet s _ a refl refl refl

delivered-tier : (t s : Lent) → Accepted t → (d : Delivery) → DeliveryOk (ledger_in s) (ledger_in t).entries d
    → StepOk t (lent_of (delivered_tier (ledger_in t) d)) [] false
unfolding delivered_tier with_account ledger_in
delivered-tier t s a d k = quiet t _ a refl k.rows refl

delivered-store : (t s : Lent) (d : Delivery) → DeliveryOk (ledger_in s) (ledger_in t).entries d
    → StepOk s (lent_of (delivered_store d)) d.1.took d.1.evicts
unfolding delivered_store with_deliveries ledger_in
delivered-store t s d k =
    to-lent s _ d.1.took d.1.evicts k.transfer.fine k.transfer.limits k.transfer.alike k.transfer.over
    k.transfer.from k.transfer.counted

pub seed-ok : (t s : Lent) (m : Meter) → TransferredOk t s true (seed t s m)
unfolding seed transferred
seed-ok t s m =
    opt-elim (TransferredOk t s true) (transfer_refusal t s) _ _
    (λ e. let b = both t s e in let k = seeding-ok t s b m in record { tier = tier-ok b k; store = store_ok b })
    (λ n. unmoved t s true n m)
  where
    v : Transfer
    v = seeding (ledger_in t) (ledger_in s) m

    tier-ok : BothAccepted t s → TransferOk (ledger_in t) v → StepOk t (lent_of (seeded_tier (ledger_in s) v)) v.took v.evicts
    tier-ok b k = seeded-tier t s v k

    store_ok : BothAccepted t s → StepOk s (lent_of (seeded_store (ledger_in s) v)) [] false
    store_ok b = seeded-store s v b.store

pub deliver-ok : (t s : Lent) (m : Meter) → TransferredOk t s false (deliver t s m)
unfolding deliver transferred
deliver-ok t s m =
    opt-elim (TransferredOk t s false) (transfer_refusal t s) _ _
    (λ e. let b = both t s e in let k = delivering-ok t s b m in
    record { tier = delivered-tier t s b.tier _ k; store = delivered-store t s _ k })
    (λ n. unmoved t s false n m)
