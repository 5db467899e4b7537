-- One row of the tier, by the ways that it ends. Assumes nothing.
use mathlib.Core.Path.{◌≡◌, refl, sym, ap, ap₂, ◌∙◌, subst}
use mathlib.Core.Bool.{Bool, true, false, ◌&&◌, ◌||◌}
use mathlib.Core.List.{List, [], ◌∷◌, ◌++◌}
use Prim.Native.Nat.{ℕ, suc, ◌+◌, ◌-◌, ◌*◌, ◌≤◌, ◌<◌}
use native.Mathlib.Omega.{arith}
use lib.Dec.{eqb, ltb}
use lib.ListN.{length, get_or, take, drop, length-append}
use lib.Seq.{get_or-take, get_or-drop}
use borrow.Author.Tests.{eq-eqb, ne_eqb, lt-ltb, le-ltb}
use Rattle.std.specs.Prelude.{Result, Ok, Err}
use Rattle.lists.specs.Lists.{adjust}
use Rattle.meter.specs.declared.Meter.{Meter}
use Rattle.meter.specs.declared.Purse.{Purse}
use Rattle.meter.specs.declared.Unpaid.{Unpaid}
use Rattle.meter.specs.declared.Unpaid.TheVariants.{Declined, Stopped}
use Rattle.meter.specs.Tick.{Tick}
use Rattle.meter.specs.Tick as tick
use Rattle.meter.specs.Meter.{tick_of, pay}
use Rattle.model.specs.declared.LearningLimits.{LearningLimits}
use Rattle.model.specs.declared.Header.{Header}
use Rattle.model.specs.Records.{Entry, Ledger, saturating_add, literals, with_hits, with_delivered, max_rows, max_outputs}
use Rattle.model.specs.Records.{conditions_at, hits_at, unshared_at, delivered_at, slot_words}
use Rattle.model.specs.Slots.{row_in, entry_in}
use Rattle.model.specs.Retention.{Retention}
use Rattle.model.specs.Transfers.{Progress, whole, declined, stopped, Transfer, Delivery, ticked, receive, change_at}
use Rattle.model.specs.Transfers.{passes_over, deliver_rows}
use Rattle.slots.specs.Layout.{Stored, Laid, slot_at}
use Rattle.slots.proofs.Rows.{slot-code}
use Rattle.contents.specs.Lent.{lent}
use Rattle.tier.specs.Tier.{hits_added, shared_out}
use Rattle.retain_keep.specs.Stood.{Stood}
use Rattle.retain_keep.proofs.Standing.{stood-rows, stood-hits-added, stood-shared}
use Rattle.retain.specs.declared.Kept.{Kept}
use Rattle.retain.specs.declared.Kept.TheVariants.{Subsumed, Added}
use Rattle.retain.specs.Ends.{retain_end}
use Rattle.transfers.specs.declared.receiving.TransferState.{TransferState}
use Rattle.transfers.specs.Receiving.{received_end, source_of}
use Rattle.transfers.specs.Transfer.{progress_of, Carried, Ready}
use Rattle.transfers.specs.Handing.{handed, Keeps, Handed}
use Rattle.transfers.proofs.Deliveries.{handed-stops, handed-declines, handed-subsumed, handed-added, deliver-halted, deliver-past}
use Rattle.transfers.proofs.Deliveries.{deliver-handed}
use Rattle.transfers.proofs.Carrying.{Received, carried-ticked, carried-up, carried-received}
use Rattle.transfers.proofs.Passing.{told, subsumed-in, kept-fits, left_as, changed-as}

-- ---- the tests of a row that is passed over
module _ (row : List ℕ) where
  pub shared-no : (get_or row delivered_at 0 ≡ 1 → ⊥) → false ≡ (eqb (get_or row delivered_at 0) 1 && eqb (get_or row unshared_at 0) 0)
  shared-no f = sym (ap (λ (b : Bool). b && eqb (get_or row unshared_at 0) 0) (ne_eqb (get_or row delivered_at 0) 1 f))

  pub shared-so : get_or row delivered_at 0 ≡ 1
      → eqb (get_or row unshared_at 0) 0 ≡ (eqb (get_or row delivered_at 0) 1 && eqb (get_or row unshared_at 0) 0)
  shared-so e = sym (ap (λ (b : Bool). b && eqb (get_or row unshared_at 0) 0) (eq-eqb (get_or row delivered_at 0) 1 e))

  module _ (limits : LearningLimits) where
    abbrev narrow : Bool
    narrow = ltb limits.share_conditions (get_or row conditions_at 0) && ltb (get_or row hits_at 0) limits.share_hits

    pub narrow-no : get_or row conditions_at 0 ≤ limits.share_conditions → false ≡ narrow
    narrow-no l =
        sym (ap (λ (b : Bool). b && ltb (get_or row hits_at 0) limits.share_hits)
        (le-ltb limits.share_conditions (get_or row conditions_at 0) l))

    pub narrow-so : limits.share_conditions < get_or row conditions_at 0 → ltb (get_or row hits_at 0) limits.share_hits ≡ narrow
    narrow-so l =
        sym (ap (λ (b : Bool). b && ltb (get_or row hits_at 0) limits.share_hits)
        (lt-ltb limits.share_conditions (get_or row conditions_at 0) l))

    module _ (l : Laid row) where
      passes-is : passes_over limits (entry_in row) ≡ ((eqb (get_or row delivered_at 0) 1 && eqb (get_or row unshared_at 0) 0) || narrow)
      unfolding passes_over entry_in
      passes-is =
          ap (λ (k : ℕ). (eqb (get_or row delivered_at 0) 1 && eqb (get_or row unshared_at 0) 0)
          || (ltb limits.share_conditions k && ltb (get_or row hits_at 0) limits.share_hits)) l.condition_count

      pub passes-shared : (eqb (get_or row delivered_at 0) 1 && eqb (get_or row unshared_at 0) 0) ≡ true
          → true ≡ passes_over limits (entry_in row)
      passes-shared e = sym (passes-is ∙ ap (λ (b : Bool). b || narrow) e)

      pub passes-narrow : (eqb (get_or row delivered_at 0) 1 && eqb (get_or row unshared_at 0) 0) ≡ false
          → narrow ≡ passes_over limits (entry_in row)
      passes-narrow e = sym (passes-is ∙ ap (λ (b : Bool). b || narrow) e)

-- ---- the tier's words
adjust-at : (f : Entry → Entry) (done : List Entry) (e : Entry) (rest : List Entry)
    → adjust f (length done) (done ++ (e ∷ rest)) ≡ done ++ (f e ∷ rest)
unfolding adjust
adjust-at f [] e rest = refl
adjust-at f (x ∷ done) e rest = ap (λ (es : List Entry). x ∷ es) (adjust-at f done e rest)

keeps-shared : (i : ℕ) (ws : List ℕ) (e : Entry) (done rest : List Entry) → length done ≡ i
    → Keeps ws (shared_out i ws) (done ++ (e ∷ rest)) (done ++ (with_delivered 0 e ∷ rest))
unfolding change_at
keeps-shared i ws e done rest q t postings h s =
    let l : Ledger = record { header = h; entries = done ++ (e ∷ rest) } in
    let at : i < t.rows = let r = stood-rows t ws postings l s in omega (arith, length-append done (e ∷ rest)) in
    subst (λ (es : List Entry). Stood t (shared_out i ws) postings (record { header = h; entries = es }))
    (ap (λ (k : ℕ). adjust (with_delivered 0) k (done ++ (e ∷ rest))) (sym q) ∙ adjust-at (with_delivered 0) done e rest)
    (stood-shared t ws postings l s i at)

module _ {n c : ℕ} {x : Progress} {y : TransferState} {ws ps : List ℕ} (i : ℕ) (ts : List ℕ) (e : Entry) {u : Transfer} {d : Delivery} where
  -- the entry stays as it is, or is delivered
  pub stays-so : d ≡ (e ∷ [], u) → Carried n c x y ws ps u → Handed n c x y ws ps i ts ts e d
  stays-so q h =
      subst (Handed n c x y ws ps i ts ts e) (sym q) (record { carried = h; one = refl; keeps = λ done rest l t postings k s. s })

  pub shared-out-so : {xs : List ℕ} → d ≡ (with_delivered 0 e ∷ [], u) → xs ≡ shared_out i ts → Carried n c x y ws ps u
      → Handed n c x y ws ps i ts xs e d
  shared-out-so {xs} q z h =
      subst (Handed n c x y ws ps i ts xs e) (sym q)
      (subst (λ (k : List ℕ). Handed n c x y ws ps i ts k e (with_delivered 0 e ∷ [], u)) (sym z)
      (record { carried = h; one = refl; keeps = keeps-shared i ts e }))

-- ---- a row handed over
word-five : (ws : List ℕ) (i : ℕ) → get_or ws (slot_words * i + unshared_at) 0 ≡ get_or (slot_at ws i) unshared_at 0
word-five ws i =
    sym (get_or-take slot_words (drop (slot_words * i) ws) unshared_at 0 (omega arith) ∙ get_or-drop (slot_words * i) ws unshared_at 0)

module _ (n c : ℕ) (p : TransferState) (slots postings : List ℕ) (v : Transfer) (h : Carried n c whole p slots postings v) (ts : List ℕ)
    (i : ℕ) (limits : LearningLimits)
    (s : Stored p.header.limits.atoms (slot_at ts i)) (o : limits.founded_outputs ≤ max_outputs) (k : Header) (ws ps : List ℕ)
    (b : Purse) where
  abbrev row : List ℕ
  row = slot_at ts i

  -- the row as the code lends it
  abbrev part : List ℕ
  part = take ((slot_words * i + slot_words) - slot_words * i) (drop (slot_words * i) ts)

  -- it is received, with the result y
  abbrev Receives : Result Kept Unpaid → Type 0
  Receives y =
      retain_end y k ws ps b
      ≡ received_end (lent p.header slots postings) (source_of part) (row_in part) limits.founded_outputs
      (get_or ts (slot_words * i + unshared_at) 0)
      (pay (suc (literals (row_in part))) p.purse.account p.purse.meter)

  abbrev d : Retention
  d = receive limits (get_or row unshared_at 0) (source_of row) (row_in row) v

  r : (y : Result Kept Unpaid) → Receives y → Received n c p v y k ws ps b d
  r y e = carried-received n c p slots postings v h row s limits o (get_or row unshared_at 0) y k ws ps b
      (e
      ∙ ap₂ (λ (x : List ℕ) (z : ℕ). received_end (lent p.header slots postings) (source_of x) (row_in x)
      limits.founded_outputs z
      (pay (suc (literals (row_in x))) p.purse.account p.purse.meter))
      (slot-code ts i) (word-five ts i))

  abbrev after : ℕ → TransferState
  after a = record { header = k; purse = b; added = a }

  abbrev Ends : Progress → TransferState → List ℕ → List ℕ → Type 0
  Ends x y us xs = Handed n (suc c) x y us ps i ts xs (entry_in row) (handed limits (entry_in row) v)

  pub hand-unpaid : {A : Type 0} (y : Result A Unpaid) (u : Unpaid) → y ≡ Err u → Receives (Err u)
      → Ends (progress_of y) (after p.added) ws ts
  unfolding entry_in
  hand-unpaid {A} y u q e = rw q (go u e)
    where
      go : (u : Unpaid) → Receives (Err u) → Ends (progress_of {A = A} (Err u)) (after p.added) ws ts
      go Declined e =
          stays-so i ts (entry_in row) (handed-declines limits (entry_in row) v (r (Err Declined) e).outcome)
          (left_as (r (Err Declined) e) declined 0 p.added (omega arith) (omega arith) refl)
      go Stopped e =
          stays-so i ts (entry_in row) (handed-stops limits (entry_in row) v (r (Err Stopped) e).outcome)
          (left_as (r (Err Stopped) e) stopped 0 p.added (omega arith) (omega arith) refl)

  module _ (y : Kept) (e : Receives (Ok y)) where
    pub hand-added : (j : ℕ) → y ≡ Added j → {t : TransferState} → t ≡ after (p.added + 1) → {us xs : List ℕ} → us ≡ ws
        → xs ≡ shared_out i ts → Ends whole t us xs
    unfolding entry_in
    hand-added j a {t} z {us} {xs} m x =
        subst (λ (t : TransferState). Ends whole t us xs) (sym z)
        (subst (λ (us : List ℕ). Ends whole (after (p.added + 1)) us xs) (sym m)
        (shared-out-so i ts (entry_in row) (handed-added limits (entry_in row) v j (told (r (Ok y) e) (ap Ok a))) x
        (left_as (r (Ok y) e) whole 1 (p.added + 1) (omega arith) refl refl)))

    module _ (j : ℕ) (a : y ≡ Subsumed j) where
      pub hand-fits : (j < max_rows) × (slot_words * j + slot_words ≤ length ws)
      hand-fits = kept-fits (r (Ok y) e) (subsumed-in (r (Ok y) e) (ap Ok a))

      pub hand-subsumed : {t : TransferState} → t ≡ after p.added → {us xs : List ℕ}
          → us ≡ hits_added j (get_or ts (slot_words * i + unshared_at) 0) ws → xs ≡ shared_out i ts → Ends whole t us xs
      unfolding entry_in
      hand-subsumed {t} q {us} {xs} m x =
          subst (λ (t : TransferState). Ends whole t us xs) (sym q)
          (shared-out-so i ts (entry_in row) (handed-subsumed limits (entry_in row) v j (told (r (Ok y) e) (ap Ok a))) x
          (changed-as (r (Ok y) e) whole 0 p.added (omega arith) (omega arith) j
          (λ z. with_hits z (saturating_add z.hits (get_or row unshared_at 0)))
          (subst
          (λ (us : List ℕ). Stood k us ps (change_at j (λ z. with_hits z (saturating_add z.hits (get_or row unshared_at 0))) d.ledger))
          (sym (m ∙ ap (λ (z : ℕ). hits_added j z ws) (word-five ts i)))
          (stood-hits-added k ws ps d.ledger (r (Ok y) e).stood j (subsumed-in (r (Ok y) e) (ap Ok a))
          (get_or row unshared_at 0))) refl))

-- ---- the tick before it, with the meter m after it
module _ (p : TransferState) (m : Meter) where
  abbrev at : TransferState
  at = record { header = p.header; purse = record { account = p.purse.account; meter = m }; added = p.added }

  module _ (n c : ℕ) (slots postings : List ℕ) (v : Transfer) (h : Carried n c whole p slots postings v) (limits : LearningLimits)
      (ts : List ℕ) (i : ℕ) where
    abbrev x : Entry
    x = entry_in (slot_at ts i)

    pub row-halted : {A : Type 0} (r : Result A Unpaid) → r ≡ Err Stopped → tick.Stopped m ≡ tick_of p.purse.meter
        → Handed n (suc c) (progress_of r) at slots postings i ts ts x (deliver_rows limits (x ∷ []) v)
    row-halted r q e =
        rw q (stays-so i ts x (deliver-halted limits x v m (ap tick_of (sym h.meter) ∙ sym e))
        (carried-up n c at slots postings _ (carried-ticked n c p slots postings v h m stopped) (suc c) (omega arith)))

    module _ (e : tick.Ticked m ≡ tick_of p.purse.meter) where
      ticks : tick_of v.meter ≡ tick.Ticked m
      ticks = ap tick_of (sym h.meter) ∙ sym e

      abbrev given : List ℕ
      given = take ((slot_words * i + slot_words) - slot_words * i) (drop (slot_words * i) ts)

      pub row-passed : passes_over limits (entry_in given) ≡ true → Handed n (suc c) whole at slots postings i ts ts x (deliver_rows limits (x ∷ []) v)
      row-passed b =
          stays-so i ts x (deliver-past limits x v m ticks
          (ap (λ (r : List ℕ). passes_over limits (entry_in r)) (sym (slot-code ts i)) ∙ b))
          (carried-up n c at slots postings _ (carried-ticked n c p slots postings v h m whole) (suc c) (omega arith))

      pub row-handed : passes_over limits (entry_in given) ≡ false
          → {z : Progress} {y : TransferState} {ws ps xs : List ℕ}
          → ((n c : ℕ) (u : Transfer) → Carried n c whole at slots postings u → Handed n (suc c) z y ws ps i ts xs x (handed limits x u))
          → Handed n (suc c) z y ws ps i ts xs x (deliver_rows limits (x ∷ []) v)
      row-handed b {z} {y} {ws} {ps} {xs} f =
          subst (Handed n (suc c) z y ws ps i ts xs x)
          (sym
          (deliver-handed limits x v m ticks (ap (λ (r : List ℕ). passes_over limits (entry_in r)) (sym (slot-code ts i)) ∙ b)))
          (f n c (ticked v m whole) (carried-ticked n c p slots postings v h m whole))

  pub ready-ticked : (slots postings ws : List ℕ) (o : ℕ) → Ready p slots postings ws o → Ready at slots postings ws o
  ready-ticked slots postings ws o r = record {
    atoms = r.atoms;
    count = r.count;
    state = ticked r.state m whole;
    carried = carried-ticked r.atoms r.count p slots postings r.state r.carried m whole;
    room = r.room;
    stored = r.stored;
    most = r.most;
  }
