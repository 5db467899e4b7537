-- Seed and Deliver, by the ways that they end. Assumes nothing.
use mathlib.Core.Path.{◌≡◌, refl, sym, ap, ap₂, ◌∙◌, subst}
use mathlib.Core.Bool.{Bool, true, false}
use mathlib.Core.List.{List, [], ◌∷◌}
use mathlib.Core.Option.{Option, none, some}
use Prim.Native.Nat.{ℕ}
use native.Mathlib.Omega.{arith}
use lib.Dec.{eqb}
use borrow.Author.Tests.{eq-eqb, ne_eqb, eqb-true}
use Rattle.std.specs.Prelude.{Result, Ok, Err}
use Rattle.meter.specs.declared.Meter.{Meter}
use Rattle.meter.specs.declared.Unpaid.{Unpaid}
use Rattle.meter.specs.declared.Unpaid.TheVariants.{Declined, Stopped}
use Rattle.meter.specs.declared.Account.{Account}
use Rattle.meter.specs.declared.Account.TheVariants.{Share}
use Rattle.meter.specs.Meter.{made}
use Rattle.model.specs.declared.Header.{Header}
use Rattle.model.specs.declared.Refusal.{Refusal}
use Rattle.model.specs.declared.Refusal.TheVariants.{Atoms}
use Rattle.model.specs.declared.TransferAnswer.{TransferAnswer}
use Rattle.model.specs.declared.TransferResult.{TransferResult}
use Rattle.model.specs.Records.{saturating_add, with_account, with_seeded, with_deliveries}
use Rattle.model.specs.Slots.{entries_in}
use Rattle.model.specs.Transfers.{Transfer, starting, seed_rows, mark_for, seeding, marked, seeded_tier, seeded_store, Delivery}
use Rattle.model.specs.Transfers.{deliver_rows}
use Rattle.model.specs.Transfers.{delivering, delivered_tier, delivered_store}
use Rattle.model.specs.Transfers.{Progress, whole, declined, stopped}
use Rattle.model.specs.Refusals.{Lent, refusal, accepts, ledger_in, lent_of}
use Rattle.model.specs.Answers.{number_of, transfer_reply}
use Rattle.model.specs.Operations.{TransferEnd, Transferred, transfer_refusal, untransferred, transfer_answer}
use Rattle.model.specs.Operations.{transferred as end_of, seed, deliver}
use Rattle.slots.specs.Layout.{RowsOver}
use Rattle.model.proofs.Headers.{set_deliveries, set_seeded, deliveries-in, seeded-in}
use Rattle.contents.specs.Lent.{lent, refused_by}
use Rattle.contents.specs.Accepted.{Accepted}
use Rattle.contents.proofs.Accepting.{or_else, accepts-later, accept-refused, accept-passed}
use Rattle.retain_keep.specs.Stood.{Stood}
use Rattle.retain_keep.proofs.Headers.{account-lent, mark-lent, seeded-lent, deliveries-lent}
use Rattle.transfers.specs.declared.receiving.TransferState.{TransferState}
use Rattle.transfers.specs.Transfer.{progress_of, Carried}
use Rattle.transfers.specs.Handing.{Delivered}
use Rattle.transfers.specs.Ends.{transfer_end, untransferred_by, answer_of, marked_by, seeded_by, delivered_by}

-- ---- refusals: the tier's, then the store's, then 7
module _ (t s : Lent) where
  abbrev seven : List (Bool × ℕ)
  seven = (eqb t.header.limits.atoms s.header.limits.atoms, 7) ∷ []

  pub tier-refused : (r : Refusal) → refused_by (Err r) ≡ refusal (accepts t true []) → refused_by (Err r) ≡ transfer_refusal t s
  unfolding transfer_refusal
  tier-refused r e = sym (accept-refused t true (accepts s true seven) r e)

  module _ (e : none ≡ refusal (accepts t true [])) where
    pub store-refused : (r : Refusal) → refused_by (Err r) ≡ refusal (accepts s true []) → refused_by (Err r) ≡ transfer_refusal t s
    unfolding transfer_refusal
    store-refused r g = sym (accept-passed t true (accepts s true seven) e ∙ accept-refused s true seven r g)

    module _ (g : none ≡ refusal (accepts s true [])) where
      last : transfer_refusal t s ≡ refusal seven
      unfolding transfer_refusal
      last = accept-passed t true (accepts s true seven) e ∙ accept-passed s true seven g

      pub atoms-refused : (t.header.limits.atoms ≡ s.header.limits.atoms → ⊥) → refused_by (Err Atoms) ≡ transfer_refusal t s
      unfolding refusal
      atoms-refused f = sym (last ∙ rw (ne_eqb t.header.limits.atoms s.header.limits.atoms f))

      pub none-refused : t.header.limits.atoms ≡ s.header.limits.atoms → none ≡ transfer_refusal t s
      unfolding refusal
      none-refused f = sym (last ∙ rw (eq-eqb t.header.limits.atoms s.header.limits.atoms f))

-- ---- no refusal: both ledgers are accepted, over as many atoms
or-none : (x y : Option ℕ) → or_else x y ≡ none → (x ≡ none) × (y ≡ none)
or-none none y e = (refl, e)
or-none (some n) y e = let z : ◌≡◌ {A = ℕ} 0 1 = cc in absurd (no_zero z)
  where
    no_zero : ◌≡◌ {A = ℕ} 0 1 → ⊥
    no_zero z = omega arith

seven-none : (b : Bool) → refusal ((b, 7) ∷ []) ≡ none → b ≡ true
unfolding refusal
seven-none true e = refl
seven-none false e = let z : ◌≡◌ {A = ℕ} 0 1 = cc in absurd (no_zero z)
  where
    no_zero : ◌≡◌ {A = ℕ} 0 1 → ⊥
    no_zero z = omega arith

module _ (t s : Lent) (e : transfer_refusal t s ≡ none) where
  abbrev seventh : List (Bool × ℕ)
  seventh = (eqb t.header.limits.atoms s.header.limits.atoms, 7) ∷ []

  both : (refusal (accepts t true []) ≡ none) × (refusal (accepts s true seventh) ≡ none)
  unfolding transfer_refusal
  both = or-none (refusal (accepts t true [])) (refusal (accepts s true seventh)) (sym (accepts-later t true (accepts s true seventh)) ∙ e)

  pub tier-accepted : refusal (accepts t true []) ≡ none
  tier-accepted = both.0

  rest : (refusal (accepts s true []) ≡ none) × (refusal seventh ≡ none)
  rest = or-none (refusal (accepts s true [])) (refusal seventh) (sym (accepts-later s true seventh) ∙ both.1)

  pub store-accepted : refusal (accepts s true []) ≡ none
  store-accepted = rest.0

  pub atoms-same : t.header.limits.atoms ≡ s.header.limits.atoms
  atoms-same =
      eqb-true t.header.limits.atoms s.header.limits.atoms
      (seven-none (eqb t.header.limits.atoms s.header.limits.atoms) rest.1)

pub giving : (n : ℕ) (h : Header) (slots postings : List ℕ) → Accepted h slots postings → n ≡ h.limits.atoms → RowsOver n h.rows slots
giving n h slots postings a e = subst (λ (k : ℕ). RowsOver k h.rows slots) (sym e) a.stands.held.over

pub stood-now : (t : Header) (ts tp : List ℕ) → Stood t ts tp (ledger_in (lent t ts tp))
    → Stood t ts tp (record { header = t; entries = entries_in t.rows ts })
unfolding ledger_in
stood-now t ts tp s = s

-- ---- the result
answer-is : {A : Type 0} (r : Result A Unpaid) → answer_of r ≡ transfer_answer (progress_of r)
unfolding transfer_answer
answer-is (Ok a) = refl
answer-is (Err Declined) = refl
answer-is (Err Stopped) = refl

module _ {A : Type 0} (p : TransferState) (end : Result A Unpaid) (h : Header) (m : Meter) {a : TransferAnswer} {s k : ℕ}
    (ea : a ≡ answer_of end) (ek : k ≡ made m p.purse.meter) where
  pub seeded-is : {t u : Header} → u ≡ with_account p.header p.purse.account → t ≡ marked_by (progress_of end) h u
      → s ≡ saturating_add h.seeded p.added →
      ◌≡◌ {A = TransferResult} (record {
        answer = Ok a;
        tier = t;
        store = set_seeded h s;
        meter = p.purse.meter;
        ticks = k;
      }) (seeded_by p end h m)
  seeded-is eu et es =
      ap₂ {C = TransferResult} (λ (x : TransferAnswer) (y : Header). record {
        answer = Ok x;
        tier = y;
        store = set_seeded h s;
        meter = p.purse.meter;
        ticks = k;
      }) ea (et ∙ ap (marked_by (progress_of end) h) eu)
      ∙ ap₂ {C = TransferResult} (λ (x : Header) (y : ℕ). record {
        answer = Ok (answer_of end);
        tier = marked_by (progress_of end) h (with_account p.header p.purse.account);
        store = x;
        meter = p.purse.meter;
        ticks = y;
      }) (seeded-in h p.added es) ek

  pub delivered-is : {t : Header} → t ≡ with_account h p.purse.account → s ≡ saturating_add p.header.deliveries p.added →
      ◌≡◌ {A = TransferResult} (record {
        answer = Ok a;
        tier = t;
        store = set_deliveries p.header s;
        meter = p.purse.meter;
        ticks = k;
      }) (delivered_by p end h m)
  delivered-is et es =
      let u : Header = p.header in
      ap₂ {C = TransferResult} (λ (x : TransferAnswer) (y : Header). record {
        answer = Ok x;
        tier = y;
        store = set_deliveries u s;
        meter = p.purse.meter;
        ticks = k;
      }) ea et
      ∙ ap₂ {C = TransferResult} (λ (x : Header) (y : ℕ). record {
        answer = Ok (answer_of end);
        tier = with_account h p.purse.account;
        store = x;
        meter = p.purse.meter;
        ticks = y;
      }) (deliveries-in u p.added es) ek

-- ---- Seed
module _ (t s : Header) (ts tp ss sp : List ℕ) (m : Meter) where
  abbrev T : Lent
  T = lent t ts tp

  abbrev S : Lent
  S = lent s ss sp

  pub seed-refused : (r : Refusal) → transfer_refusal T S ≡ some (number_of r) → transfer_end (untransferred_by r t s m) ts tp ss sp ≡ (seed T S m).seen
  unfolding seed untransferred
  seed-refused r e = rw (e, seed, untransferred)

  -- the transfer that is over
  abbrev done : ℕ → Transfer
  done k = seed_rows t.limits k (entries_in s.rows ss) (starting (ledger_in T) (Share t.sharing) m)

  module _ (n c k : ℕ) (mark : k ≡ mark_for s.number t.mark) {A : Type 0} (r : Result A Unpaid) (p : TransferState) (ws ps : List ℕ)
      (h : Carried n c (progress_of r) p ws ps (done k)) where
    abbrev v : Transfer
    v = done k

    the-seeding : v ≡ seeding (ledger_in T) (ledger_in S) m
    unfolding seeding ledger_in
    the-seeding = ap done mark

    tier-lent : (x : Progress) (a : Account) → lent (marked_by x s (with_account p.header a)) ws ps
        ≡ lent_of
        (record { header = marked x (ledger_in S) (with_account v.receiver.header a); entries = v.receiver.entries })
    unfolding marked ledger_in
    tier-lent whole a =
        mark-lent (with_account p.header a) ws ps
        (record { header = with_account v.receiver.header a; entries = v.receiver.entries })
        (account-lent p.header ws ps v.receiver h.stood.same a) s.number s.born
    tier-lent declined a = account-lent p.header ws ps v.receiver h.stood.same a
    tier-lent stopped a = account-lent p.header ws ps v.receiver h.stood.same a

    tier-is : lent (marked_by (progress_of r) s (with_account p.header p.purse.account)) ws ps ≡ lent_of (seeded_tier (ledger_in S) v)
    unfolding seeded_tier
    tier-is =
        tier-lent (progress_of r) p.purse.account
        ∙ ap₂ (λ (x : Progress) (a : Account). lent_of
        (record { header = marked x (ledger_in S) (with_account v.receiver.header a); entries = v.receiver.entries })) h.progress
        h.account

    store_is : S ≡ lent_of (ledger_in S) → lent (with_seeded s p.added) ss sp ≡ lent_of (seeded_store (ledger_in S) v)
    unfolding seeded_store ledger_in
    store_is e =
        seeded-lent s ss sp (ledger_in S) e p.added
        ∙ ap (λ (i : ℕ). lent_of (record { header = with_seeded s i; entries = (ledger_in S).entries })) h.added

    end_is : S ≡ lent_of (ledger_in S)
        → transfer_end (seeded_by p r s m) ws ps ss sp ≡ (end_of (seeded_tier (ledger_in S) v) (seeded_store (ledger_in S) v) v m).seen
    unfolding end_of
    end_is e =
        ap₂ {C =
        TransferEnd}
        (λ (x y : Lent). record {
          answer = transfer_reply (answer_of r);
          tier = x;
          store = y;
          meter = p.purse.meter;
          ticks = made m p.purse.meter;
        }) tier-is (store_is e)
        ∙ ap₂ {C =
        TransferEnd}
        (λ (x : TransferAnswer) (y : Meter). record {
          answer = transfer_reply x;
          tier = lent_of (seeded_tier (ledger_in S) v);
          store = lent_of (seeded_store (ledger_in S) v);
          meter = y;
          ticks = made m y;
        })
        (answer-is r ∙ ap transfer_answer h.progress) h.meter

    is-end : transfer_refusal T S ≡ none → seed T S m ≡ end_of (seeded_tier (ledger_in S) v) (seeded_store (ledger_in S) v) v m
    unfolding seed
    is-end e =
        rw (e, seed) (ap (λ (u : Transfer). end_of (seeded_tier (ledger_in S) u) (seeded_store (ledger_in S) u) u m) (sym the-seeding))

    pub seed-done : transfer_refusal T S ≡ none → S ≡ lent_of (ledger_in S) → {end : TransferResult} → end ≡ seeded_by p r s m
        → transfer_end end ws ps ss sp ≡ (seed T S m).seen
    seed-done e l q =
        ap (λ (y : TransferResult). transfer_end y ws ps ss sp) q ∙ end_is l ∙ sym (ap (λ (x : Transferred). x.seen) (is-end e))

  -- ---- Deliver
  pub deliver-refused : (r : Refusal) → transfer_refusal T S ≡ some (number_of r)
      → transfer_end (untransferred_by r t s m) ts tp ss sp ≡ (deliver T S m).seen
  unfolding deliver untransferred
  deliver-refused r e = rw (e, deliver, untransferred)

  -- the delivery that is over
  abbrev over : Delivery
  over = deliver_rows t.limits (entries_in t.rows ts) (starting (ledger_in S) (Share t.sharing) m)

  module _ (n c : ℕ) {A : Type 0} (r : Result A Unpaid) (p : TransferState) (xs ws ps : List ℕ)
      (h : Delivered n c (progress_of r) p ws ps ts xs (entries_in t.rows ts) over)
      (good : Stood t ts tp (record { header = t; entries = entries_in t.rows ts })) where
    abbrev w : Transfer
    w = over.1

    the-delivery : over ≡ delivering (ledger_in T) (ledger_in S) m
    unfolding delivering ledger_in
    the-delivery = refl

    giver-is : lent (with_account t p.purse.account) xs tp ≡ lent_of (delivered_tier (ledger_in T) over)
    unfolding delivered_tier ledger_in
    giver-is =
        account-lent t xs tp (record { header = t; entries = over.0 }) (h.keeps t tp t good).same p.purse.account
        ∙ ap (λ (a : Account). lent_of (record { header = with_account t a; entries = over.0 })) h.carried.account

    taker-is : lent (with_deliveries p.header p.added) ws ps ≡ lent_of (delivered_store over)
    unfolding delivered_store
    taker-is =
        deliveries-lent p.header ws ps w.receiver h.carried.stood.same p.added
        ∙ ap (λ (i : ℕ). lent_of (record { header = with_deliveries w.receiver.header i; entries = w.receiver.entries }))
        h.carried.added

    over-is : transfer_end (delivered_by p r t m) xs tp ws ps ≡ (end_of (delivered_tier (ledger_in T) over) (delivered_store over) w m).seen
    unfolding end_of
    over-is =
        ap₂ {C =
        TransferEnd}
        (λ (x y : Lent). record {
          answer = transfer_reply (answer_of r);
          tier = x;
          store = y;
          meter = p.purse.meter;
          ticks = made m p.purse.meter;
        }) giver-is taker-is
        ∙ ap₂ {C =
        TransferEnd}
        (λ (x : TransferAnswer) (y : Meter). record {
          answer = transfer_reply x;
          tier = lent_of (delivered_tier (ledger_in T) over);
          store = lent_of (delivered_store over);
          meter = y;
          ticks = made m y;
        })
        (answer-is r ∙ ap transfer_answer h.carried.progress) h.carried.meter

    is-over : transfer_refusal T S ≡ none → deliver T S m ≡ end_of (delivered_tier (ledger_in T) over) (delivered_store over) w m
    unfolding deliver
    is-over e =
        rw (e, deliver) (ap (λ (d : Delivery). end_of (delivered_tier (ledger_in T) d) (delivered_store d) d.1 m) (sym the-delivery))

    pub deliver-done : transfer_refusal T S ≡ none → {end : TransferResult} → end ≡ delivered_by p r t m
        → transfer_end end xs tp ws ps ≡ (deliver T S m).seen
    deliver-done e q =
        ap (λ (y : TransferResult). transfer_end y xs tp ws ps) q ∙ over-is ∙ sym (ap (λ (x : Transferred). x.seen) (is-over e))
