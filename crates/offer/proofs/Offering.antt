-- Offer, by the ways that it ends. Assumes nothing.
use mathlib.Core.Path.{◌≡◌, refl, sym, ap, ap₂, ◌∙◌, subst}
use mathlib.Core.Bool.{Bool, true, false, ◌&&◌, not}
use mathlib.Core.List.{List}
use mathlib.Core.Option.{none, some}
use Rattle.std.specs.Prelude.{Result, Ok, Err}
use Prim.Native.Nat.{ℕ, ◌+◌, ◌≤◌, ◌<◌}
use native.Mathlib.Omega.{arith}
use lib.Dec.{ltb, leb}
use lib.ListN.{length}
use borrow.Author.Tests.{lt-ltb, le-ltb, lt-leb, le-leb}
use Rattle.meter.specs.declared.Meter.{Meter}
use Rattle.meter.specs.declared.Purse.{Purse}
use Rattle.meter.specs.declared.Unpaid.{Unpaid}
use Rattle.meter.specs.declared.Unpaid.TheVariants.{Declined, Stopped}
use Rattle.meter.specs.declared.Account.{Account}
use Rattle.meter.specs.declared.Account.TheVariants.{Remaining}
use Rattle.meter.specs.Read.{Paid}
use Rattle.meter.specs.Meter.{made}
use Rattle.model.specs.declared.Header.{Header}
use Rattle.model.specs.declared.Source.{Source}
use Rattle.model.specs.declared.OfferAnswer.{OfferAnswer}
use Rattle.model.specs.declared.OfferAnswer.TheVariants.{Shut}
use Rattle.model.specs.declared.Refusal.{Refusal}
use Rattle.std.specs.Prelude.{Ok, Err}
use Rattle.model.specs.declared.OfferResult.{OfferResult}
use Rattle.model.specs.Records.{Row, Entry, Ledger, attempted, with_account, within, is_row_over, source_in, founded_rows}
use Rattle.model.specs.Slots.{entries_in, row_in}
use Rattle.slots.specs.Layout.{proposal}
use Rattle.slots.proofs.Storing.{row-proposal}
use Rattle.model.specs.Retention.{Retention, retain, protects, full_shuts, can_capture}
use Rattle.model.specs.Refusals.{Lent, refusal, accepts, ledger_in, lent_of}
use Rattle.model.specs.Answers.{number_of, offer_reply}
use Rattle.model.specs.Operations.{OfferEnd, Offered, offer, capture, offer_answer, unoffered, fits_offer, source_ok, offer_tests}
use Rattle.contents.specs.Lent.{lent}
use Rattle.model.proofs.Slots.{entries-length}
use Rattle.model.proofs.Entries.{founded-all}
use Rattle.contents.specs.Accepted.{Accepted}
use Rattle.contents.proofs.Accepting.{accepted}
use Rattle.retain.specs.declared.Kept.{Kept}
use Rattle.retain.specs.declared.Kept.TheVariants.{Subsumed, Added}
use Rattle.retain.specs.Ends.{End, outcome_of, retain_end, end_of}
use Rattle.model.proofs.Headers.{set_attempts, attempts-in}
use Rattle.retain_keep.proofs.Headers.{account-lent}
use Rattle.offer.specs.Ends.{offer_end, unoffered_by, shut_by, may_capture, answer_of, captured_by}

-- the header's counts are those of the rows read
pub may-capture : (h : Header) (slots postings : List ℕ) → Accepted h slots postings
    → may_capture h ≡ can_capture (ledger_in (lent h slots postings))
unfolding may_capture can_capture ledger_in shut_by full_shuts protects
may-capture h slots postings a =
    let es : List Entry = entries_in h.rows slots in
    ap (λ (b : Bool). ltb h.attempts h.limits.founded_attempts && (ltb 0 h.remaining.0 && not b))
    (ap₂ (λ (n k : ℕ). leb h.limits.tier_rows n && (leb n k && leb k h.limits.founded_floor))
    (sym (entries-length h.rows slots)) a.founded
    ∙ ap (λ (b : Bool). leb h.limits.tier_rows (length es) && (b && leb (founded_rows es) h.limits.founded_floor))
    (sym (founded-all es)))

-- `full_shuts` and `can_capture`, test by test
module _ (h : Header) where
  pub shut-room : h.rows < h.limits.tier_rows → false ≡ shut_by h
  unfolding shut_by
  shut-room l = sym (rw (lt-leb h.limits.tier_rows h.rows l))

  pub shut-tip : h.limits.tier_rows ≤ h.rows → h.founded < h.rows → false ≡ shut_by h
  unfolding shut_by
  shut-tip l k = sym (rw (le-leb h.limits.tier_rows h.rows l, lt-leb h.rows h.founded k))

  pub shut-floor : h.limits.tier_rows ≤ h.rows → h.rows ≤ h.founded → leb h.founded h.limits.founded_floor ≡ shut_by h
  unfolding shut_by
  shut-floor l k = sym (rw (le-leb h.limits.tier_rows h.rows l, le-leb h.rows h.founded k))

  pub capture-tried : h.limits.founded_attempts ≤ h.attempts → false ≡ may_capture h
  unfolding may_capture
  capture-tried l = sym (rw (le-ltb h.attempts h.limits.founded_attempts l))

  pub capture-spent : h.attempts < h.limits.founded_attempts → h.remaining.0 ≡ 0 → false ≡ may_capture h
  unfolding may_capture
  capture-spent l e = sym (rw (lt-ltb h.attempts h.limits.founded_attempts l, le-ltb 0 h.remaining.0 (omega arith)))

  pub capture-rest : h.attempts < h.limits.founded_attempts → (h.remaining.0 ≡ 0 → ⊥) → {b : Bool} → b ≡ shut_by h
      → not b ≡ may_capture h
  unfolding may_capture
  capture-rest l e {b} q =
      let funded : 0 < h.remaining.0 = omega arith in
      ap not q ∙ sym (rw (lt-ltb h.attempts h.limits.founded_attempts l, lt-ltb 0 h.remaining.0 funded))

module _ (h : Header) (slots postings cs os : List ℕ) (source : ℕ) (m : Meter) where
  abbrev s : Lent
  s = lent h slots postings

  abbrev t : Row
  t = record { conditions = cs; outputs = os }

  abbrev later : List (Bool × ℕ)
  later = offer_tests h.limits t source

  refused : (x : Refusal) → refusal (accepts s true later) ≡ some (number_of x)
      → offer_end (unoffered_by (Err x) h m) slots postings ≡ (offer s cs os source m).seen
  unfolding offer unoffered
  refused x e = rw (e, offer, unoffered)

  pub offer-refused : (x : Refusal) (r : OfferResult) → r ≡ unoffered_by (Err x) h m → refusal (accepts s true later) ≡ some (number_of x)
      → offer_end r slots postings ≡ (offer s cs os source m).seen
  offer-refused x r q e = ap (λ (y : OfferResult). offer_end y slots postings) q ∙ refused x e

  fits-is : (within h.limits.founded_conditions h.limits.founded_outputs t && is_row_over h.limits.atoms t)
      ≡ fits_offer h.limits t
  unfolding fits_offer
  fits-is = refl

  -- the test of the row
  pub unfit : (b : Bool) → b ≡ (within h.limits.founded_conditions h.limits.founded_outputs t && is_row_over h.limits.atoms t)
      → b ≡ false → refusal later ≡ some 4
  unfolding refusal offer_tests
  unfit b e f = rw (sym fits-is ∙ sym e ∙ f)

  pub fit : (b : Bool) → b ≡ (within h.limits.founded_conditions h.limits.founded_outputs t && is_row_over h.limits.atoms t)
      → b ≡ true → fits_offer h.limits t ≡ true
  fit b e f = sym fits-is ∙ sym e ∙ f

  -- the test of the source
  pub unsourced : fits_offer h.limits t ≡ true → 1 < source → refusal later ≡ some 11
  unfolding refusal source_ok offer_tests
  unsourced f l = rw (f, lt-leb source 1 l)

  pub fit-passes : fits_offer h.limits t ≡ true → source ≤ 1 → refusal later ≡ none
  unfolding refusal source_ok offer_tests
  fit-passes f l = rw (f, le-leb source 1 l)

  module _ (e : refusal (accepts s true later) ≡ none) where
    held : Accepted h slots postings
    held = accepted h slots postings true later e

    shut : can_capture (ledger_in s) ≡ false → offer_end (unoffered_by (Ok Shut) h m) slots postings ≡ (offer s cs os source m).seen
    unfolding offer unoffered
    shut f = rw (e, f, offer, unoffered)

    pub offer-shut : (b : Bool) (r : OfferResult) → r ≡ unoffered_by (Ok Shut) h m → b ≡ may_capture h → b ≡ false
        → offer_end r slots postings ≡ (offer s cs os source m).seen
    offer-shut b r q g f =
        ap (λ (x : OfferResult). offer_end x slots postings) q ∙ shut (sym (may-capture h slots postings held) ∙ sym g ∙ f)

    captured : can_capture (ledger_in s) ≡ true → offer s cs os source m ≡ capture (ledger_in s) (source_in source) t m
    unfolding offer
    captured f = rw (e, f, offer)

    pub offer-captured : (b : Bool) (r : OfferResult) (ws ps : List ℕ) → b ≡ may_capture h → b ≡ true → (x : Source) → x ≡ source_in source
        → offer_end r ws ps ≡ (capture (ledger_in s) x t m).seen → offer_end r ws ps ≡ (offer s cs os source m).seen
    offer-captured b r ws ps g f x q =
        subst (λ (y : Offered). offer_end r ws ps ≡ y.seen)
        (ap (λ (y : Source). capture (ledger_in s) y t m) q ∙ sym (captured (sym (may-capture h slots postings held) ∙ sym g ∙ f)))

-- ---- the retention is over: its result r, the header h, the purse p
answer-is : (r : Result Kept Unpaid) → answer_of r ≡ offer_answer (outcome_of r)
unfolding offer_answer
answer-is (Ok (Subsumed p)) = refl
answer-is (Ok (Added p)) = refl
answer-is (Err Declined) = refl
answer-is (Err Stopped) = refl

module _ (l : Ledger) (source : Source) (t : Row) (m : Meter) where
  abbrev k : Header
  k = attempted l.header

  abbrev d : Retention
  d = retain (record { header = k; entries = l.entries }) k.limits.founded_outputs 0 source t (Paid (Remaining k.remaining) m)

  pub captured-end : (r : Result Kept Unpaid) (h : Header) (p : Purse) (ws ps : List ℕ) → retain_end r h ws ps p ≡ end_of d
      → offer_end (captured_by r h p m) ws ps ≡ (capture l source t m).seen
  unfolding capture
  captured-end r h p ws ps e =
      let answer : answer_of r ≡ offer_answer d.outcome = answer-is r ∙ ap (λ (x : End). offer_answer x.outcome) e in
      let words : lent (with_account h p.account) ws ps
      ≡ lent_of (record { header = with_account d.ledger.header d.account; entries = d.ledger.entries })
      = account-lent h ws ps d.ledger (ap (λ (x : End). x.ledger) e) p.account
      ∙ ap (λ (a : Account). lent_of (record { header = with_account d.ledger.header a; entries = d.ledger.entries }))
      (ap (λ (x : End). x.account) e) in
      ap₂ {C =
      OfferEnd}
      (λ (a : OfferAnswer) (w : Lent). record {
        answer = offer_reply a;
        ledger = w;
        meter = p.meter;
        ticks = made m p.meter;
      }) answer words
      ∙ ap
      (λ (w : Meter). record {
        answer = offer_reply (offer_answer d.outcome);
        ledger = lent_of (record { header = with_account d.ledger.header d.account; entries = d.ledger.entries });
        meter = w;
        ticks = made m w;
      }) (ap (λ (x : End). x.meter) e)

-- the same, of a header with one attempt more
pub capture-retained : (h : Header) (slots postings : List ℕ) (source : Source) (t : Row) (m : Meter) (r : Result Kept Unpaid)
    (after : Header) (p : Purse) (x : OfferResult) (ws ps : List ℕ)
    → x ≡ captured_by r after p m
    → retain_end r after ws ps p
    ≡ end_of (retain (ledger_in (lent (set_attempts h (h.attempts + 1)) slots postings)) h.limits.founded_outputs 0 source t
    (Paid (Remaining h.remaining) m))
    → offer_end x ws ps ≡ (capture (ledger_in (lent h slots postings)) source t m).seen
unfolding ledger_in attempted
capture-retained h slots postings source t m r after p x ws ps q e =
    ap (λ (y : OfferResult). offer_end y ws ps) q
    ∙ captured-end (ledger_in (lent h slots postings)) source t m r after p ws ps
    (e
    ∙ ap (λ (k : Header). end_of
    (retain (record { header = k; entries = entries_in h.rows slots }) h.limits.founded_outputs 0 source t
    (Paid (Remaining h.remaining) m))) (attempts-in h))

-- a proposal of the offered row is captured as the row
pub capture-proposed : (l : Ledger) (source : Source) (t : Row) (m : Meter) (r : OfferResult) (ws ps p : List ℕ) → p ≡ proposal t →
    offer_end r ws ps ≡ (capture l source (row_in p) m).seen → offer_end r ws ps ≡ (capture l source t m).seen
capture-proposed l source t m r ws ps p e =
    subst (λ (x : Row). offer_end r ws ps ≡ (capture l source x m).seen) (ap row_in e ∙ row-proposal t)

pub captured-is : (k : Result Kept Unpaid) (b : Header) (p : Purse) (m : Meter) (a : OfferAnswer) (h : Header) (n : ℕ) → a ≡ answer_of k
    → h ≡ with_account b p.account → n ≡ made m p.meter
    → record { answer = Ok a; header = h; meter = p.meter; ticks = n } ≡ captured_by k b p m
captured-is k b p m a h n e f g =
    ap₂ {C = OfferResult} (λ (x : OfferAnswer) (y : Header). record { answer = Ok x; header = y; meter = p.meter; ticks = n }) e f
    ∙ ap (λ (x : ℕ). record { answer = Ok (answer_of k); header = with_account b p.account; meter = p.meter; ticks = x }) g
