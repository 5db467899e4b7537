-- One call on a lent ledger: what is held after, and what was held with what was taken, cover each other. Assumes nothing.
use mathlib.Core.Path.{◌≡◌, refl, sym, ap, subst}
use mathlib.Core.Logic.{◌⊎◌, inl, inr}
use mathlib.Core.Bool.{Bool, true, false, ◌&&◌, ◌||◌, not}
use mathlib.Core.List.{List, [], ◌∷◌, ◌++◌}
use mathlib.Core.Option.{Option, none, some, IsSome}
use Prim.Native.Nat.{ℕ, ◌≤◌}
use native.Mathlib.Nat.{le_trans}
use lib.Dec.{T, eqb, leb, le→leb, leb→le}
use lib.ListN.{length}
use Rattle.lists.specs.Lists.{all}
use Rattle.lists.proofs.Bools.{and-of}
use Rattle.words.specs.Region.{atoms_ok}
use Rattle.meter.specs.declared.Meter.{Meter}
use Rattle.meter.specs.Tick.{Tick, Ticked, Stopped}
use Rattle.model.specs.declared.LearningLimits.{LearningLimits}
use Rattle.model.specs.declared.Header.{Header}
use Rattle.model.specs.declared.Source.{Source}
use Rattle.model.specs.Records.{Row, Entry, Ledger, is_row, is_row_over, within, limits_ok}
use Rattle.model.specs.Records.{attempted, with_account, with_counts, source_in}
use Rattle.model.specs.Records.{max_rows, max_conditions, max_outputs}
use Rattle.model.specs.Retention.{Outcome, Stops, Declines, Subsumes, Adds, can_capture}
use Rattle.model.specs.Refusals.{Lent, refusal, ledger_in, lent_of, entry_ok, counts_ok, founded_ok, words_ok, contents_ok, accepts}
use Rattle.model.specs.Operations.{Offered, unoffered, capture, fits_offer, offer_tests, offer}
use Rattle.model.specs.Priority.{In, Gives, Covers}
use Rattle.model.proofs.Cover.{and_left, and_right}
use Rattle.model.proofs.Slots.{valid-of, AllValid, decode-encode}
use Rattle.model.proofs.Priority.Covering.{rows_e, Cov, covers-refl}
use Rattle.model.proofs.Priority.Retaining.{Alike, alike_refl, retain-ok}
use Rattle.model.proofs.Priority.Fine.{Fine, retain-fine, Counted, none-counted}

-- ---- splitting tests
pub if-elim : {A : Type 0} (P : A → Type 0) (b : Bool) (x y : A) → (T b → P x) → P y → P (elim b as (λ k. A) [ true ↦ x | false ↦ y ])
if-elim P true x y f g = f tt
if-elim P false x y f g = g

pub opt-elim : {A B : Type 0} (P : B → Type 0) (o : Option A) (x : B) (f : A → B) → (o ≡ none → P x) → ((a : A) → P (f a))
    → P (elim o as (λ k. B) [ none ↦ x | some a ↦ f a ])
opt-elim P none x f g h = g refl
opt-elim P (some a) x f g h = h a

pub tick-elim : {A : Type 0} (P : A → Type 0) (t : Tick) (f g : Meter → A) → ((m : Meter) → P (f m)) → ((m : Meter) → P (g m))
    → P (elim t as (λ k. A) [ Stopped m ↦ f m | Ticked m ↦ g m ])
tick-elim P (Stopped m) f g h i = h m
tick-elim P (Ticked m) f g h i = i m

pub out-elim : {A : Type 0} (P : A → Type 0) (o : Outcome) (a b : A) (f g : ℕ → A) → P a → P b → ((p : ℕ) → P (f p)) → ((p : ℕ) → P (g p))
    → P (elim o as (λ k. A) [ Stops ↦ a | Declines ↦ b | Subsumes p ↦ f p | Adds p ↦ g p ])
out-elim P Stops a b f g pa pb pf pg = pa
out-elim P Declines a b f g pa pb pf pg = pb
out-elim P (Subsumes p) a b f g pa pb pf pg = pf p
out-elim P (Adds p) a b f g pa pb pf pg = pg p

-- ---- lists of rows
pub in_split : {A : Type 0} (a b : List A) (x : A) → In x (a ++ b) → In x a ⊎ In x b
in_split [] b x m = inr m
in_split (y ∷ ys) b x (inl e) = inl (inl e)
in_split (y ∷ ys) b x (inr m) = go (in_split ys b x m)
  where
    go : In x ys ⊎ In x b → In x (y ∷ ys) ⊎ In x b
    go (inl i) = inl (inr i)
    go (inr i) = inr i

pub in_left : {A : Type 0} (a b : List A) (x : A) → In x a → In x (a ++ b)
in_left [] b x m = absurd m
in_left (y ∷ ys) b x (inl e) = inl e
in_left (y ∷ ys) b x (inr m) = inr (in_left ys b x m)

pub in_right : {A : Type 0} (a b : List A) (x : A) → In x b → In x (a ++ b)
in_right [] b x m = m
in_right (y ∷ ys) b x m = inr (in_right ys b x m)

pub covers-app : (C A B : List Row) → Covers A B → Covers (C ++ A) (C ++ B)
covers-app C A B c = record { at = at }
  where
    at : (s : Row) → In s (C ++ B) → Cov (C ++ A) s
    at s m o h = go (in_split C B s m)
      where
        go : In s C ⊎ In s B → Gives (C ++ A) s.conditions o
        go (inl i) = record { by = s; is_row = in_left C A s i; gives = h; within = λ x j. j }
        go (inr i) =
            let g = c.at s i o h in
            record { by = g.by; is_row = in_right C A g.by g.is_row; gives = g.gives; within = g.within }

pub alike-app : (C : List Row) {A B : List Row} → Alike A B → Alike (C ++ A) (C ++ B)
alike-app C {A} {B} k = record { there = covers-app C A B k.there; back = covers-app C B A k.back }

pub app_assoc : (a b c : List Row) → (a ++ b) ++ c ≡ a ++ (b ++ c)
app_assoc [] b c = refl
app_assoc (x ∷ a) b c = ap (λ (l : List Row). x ∷ l) (app_assoc a b c)

pub nor-left : (a b : Bool) → T (not (a || b)) → T (not a)
nor-left true b t = t
nor-left false b t = tt

pub nor-right : (a b : Bool) → T (not (a || b)) → T (not b)
nor-right true b t = absurd t
nor-right false b t = t

-- the rows taken are rows over n atoms
abbrev pub Over : ℕ → List Row → Type 0
Over n rs = (r : Row) → In r rs → T (is_row_over n r)

pub over-app : (n : ℕ) (a b : List Row) → Over n a → Over n b → Over n (a ++ b)
over-app n a b p q s m = go (in_split a b s m)
  where
    go : In s a ⊎ In s b → T (is_row_over n s)
    go (inl i) = p s i
    go (inr i) = q s i

-- ---- acceptance
pub record Accepted (s : Lent) : Type 0 where
  pub limits : T (limits_ok s.header.limits)
  pub contents : T (contents_ok s)

pub refusal-cons : (b : Bool) (n : ℕ) (ts : List (Bool × ℕ)) → refusal ((b, n) ∷ ts) ≡ none → T b × (refusal ts ≡ none)
unfolding refusal
refusal-cons true n ts e = (tt, e)
refusal-cons false n ts e = absurd (subst IsSome e tt)

-- the test of a number, wherever it stands among them
test_of : ℕ → List (Bool × ℕ) → Bool
test_of n [] = true
test_of n (t ∷ ts) = elim (eqb t.1 n) [ true ↦ t.0 | false ↦ test_of n ts ]

refusal-test : (n : ℕ) (ts : List (Bool × ℕ)) → refusal ts ≡ none → T (test_of n ts)
unfolding test_of
refusal-test n [] e = tt
refusal-test n (t ∷ ts) e =
    let x = refusal-cons t.0 t.1 ts e in
    if-elim T (eqb t.1 n) _ _ (λ k. x.0) (refusal-test n ts x.1)

pub accepted : (s : Lent) (b : Bool) (ts : List (Bool × ℕ)) → refusal (accepts s b ts) ≡ none → Accepted s × (refusal ts ≡ none)
unfolding accepts
accepted s b ts e =
    let x = refusal-cons _ _ _ e in
    let y = refusal-cons _ _ _ x.1 in
    let z = refusal-cons _ _ _ y.1 in
    (record { limits = x.0; contents = z.0 }, z.1)

entry-rows : (h : Header) (es : List Entry) → T (all (entry_ok h) es) → (r : Row) → In r (rows_e es) → T (is_row h.limits.atoms r)
unfolding all entry_ok
entry-rows h [] t r m = absurd m
entry-rows h (e ∷ es) t r (inl q) =
    subst (λ (x : Row). T (is_row h.limits.atoms x)) (sym q)
    (and_left (is_row h.limits.atoms e.row) _ (and_left (entry_ok h e) (all (entry_ok h) es) t))
entry-rows h (e ∷ es) t r (inr m) = entry-rows h es (and_right (entry_ok h e) (all (entry_ok h) es) t) r m

pub rows_ok : (s : Lent) → Accepted s → (r : Row) → In r (rows_e (ledger_in s).entries) → T (is_row s.header.limits.atoms r)
unfolding contents_ok words_ok
rows_ok s a =
    entry-rows s.header (ledger_in s).entries
    (and_left (all (entry_ok s.header) (ledger_in s).entries) _
    (and_right (founded_ok s.header (ledger_in s)) _ (and_right (counts_ok s.header) _ a.contents)))

pub fine-in : (s : Lent) → Accepted s → Fine (rows_e (ledger_in s).entries)
fine-in s a r m = valid-of s.header.limits.atoms r (rows_ok s a r m)

pub row-over : (n : ℕ) (r : Row) → T (is_row n r) → T (is_row_over n r)
unfolding is_row
row-over n r t = and_right (within max_conditions max_outputs r) (is_row_over n r) t

pub most-ok : (l : LearningLimits) → T (limits_ok l) → (l.founded_conditions ≤ max_conditions) × (l.founded_outputs ≤ max_outputs)
unfolding limits_ok
most-ok l t =
    let u = and_right (leb 1 l.tier_rows && leb l.tier_rows max_rows)
    (leb l.founded_conditions max_conditions && leb l.founded_outputs max_outputs) (and_right (atoms_ok l.atoms) _ t) in (
      leb→le l.founded_conditions max_conditions
          (and_left (leb l.founded_conditions max_conditions) (leb l.founded_outputs max_outputs) u),
      leb→le l.founded_outputs max_outputs
          (and_right (leb l.founded_conditions max_conditions) (leb l.founded_outputs max_outputs) u),
    )

-- ---- written and read back
all_valid : (es : List Entry) → Fine (rows_e es) → AllValid es
all_valid [] f = tt
all_valid (e ∷ es) f = (f e.row (inl refl), all_valid es (λ r i. f r (inr i)))

pub rows_back : (l : Ledger) → Fine (rows_e l.entries) → rows_e (ledger_in (lent_of l)).entries ≡ rows_e l.entries
unfolding ledger_in lent_of with_counts
rows_back l f = ap rows_e (decode-encode l.header.limits.tier_rows l.entries (all_valid l.entries f))

-- ---- a step
pub record StepOk (s t : Lent) (took : List Row) (evicts : Bool) : Type 0 where
  pub limits : t.header.limits ≡ s.header.limits
  pub alike : T (not evicts) → Alike (rows_e (ledger_in t).entries) (took ++ rows_e (ledger_in s).entries)
  pub over : Over s.header.limits.atoms took
  pub from : Covers (took ++ rows_e (ledger_in s).entries) (rows_e (ledger_in t).entries)
  pub counted : Counted evicts s.header.evicted t.header.evicted

pub still : (s : Lent) → StepOk s s [] false
still s =
    record {
      limits = refl;
      alike = λ e. alike_refl (rows_e (ledger_in s).entries);
      over = λ r i. absurd i;
      from = covers-refl (rows_e (ledger_in s).entries);
      counted = none-counted s.header.evicted;
    }

-- from a ledger to the words lent
pub to-lent : (s : Lent) (l : Ledger) (took : List Row) (evicts : Bool) → Fine (rows_e l.entries) → l.header.limits ≡ s.header.limits
    → (T (not evicts) → Alike (rows_e l.entries) (took ++ rows_e (ledger_in s).entries)) → Over s.header.limits.atoms took
    → Covers (took ++ rows_e (ledger_in s).entries) (rows_e l.entries) → Counted evicts s.header.evicted l.header.evicted
    → StepOk s (lent_of l) took evicts
unfolding lent_of with_counts
to-lent s l took evicts f e a o c n = record {
  limits = e;
  alike = λ t. subst (λ (rs : List Row). Alike rs (took ++ rows_e (ledger_in s).entries)) (sym (rows_back l f)) (a t);
  over = o;
  from = subst (λ (rs : List Row). Covers (took ++ rows_e (ledger_in s).entries) rs) (sym (rows_back l f)) c;
  counted = n;
}

-- the rows are those of before
pub quiet : (s : Lent) (l : Ledger) → Accepted s → l.header.limits ≡ s.header.limits → rows_e l.entries ≡ rows_e (ledger_in s).entries
    → l.header.evicted ≡ s.header.evicted → StepOk s (lent_of l) [] false
quiet s l a e q n =
    to-lent s l [] false (subst Fine (sym q) (fine-in s a)) e
    (λ t. subst (λ (rs : List Row). Alike (rows_e l.entries) rs) q (alike_refl (rows_e l.entries))) (λ r i. absurd i)
    (subst (λ (rs : List Row). Covers rs (rows_e l.entries)) q (covers-refl (rows_e l.entries)))
    (subst (λ (k : ℕ). Counted false s.header.evicted k) (sym n) (none-counted s.header.evicted))

-- ---- Offer
offered-valid : (l : LearningLimits) (t : Row) → T (limits_ok l) → T (fits_offer l t) → T (is_row l.atoms t)
unfolding fits_offer is_row within
offered-valid l t k h =
    let c = and_left (leb (length t.conditions) l.founded_conditions) (leb (length t.outputs) l.founded_outputs)
    (and_left (leb (length t.conditions) l.founded_conditions && leb (length t.outputs) l.founded_outputs)
    (is_row_over l.atoms t) h) in
    let o = and_right (leb (length t.conditions) l.founded_conditions) (leb (length t.outputs) l.founded_outputs)
    (and_left (leb (length t.conditions) l.founded_conditions && leb (length t.outputs) l.founded_outputs)
    (is_row_over l.atoms t) h) in
    let m = most-ok l k in
    and-of (leb (length t.conditions) max_conditions && leb (length t.outputs) max_outputs) (is_row_over l.atoms t)
    (and-of (leb (length t.conditions) max_conditions) (leb (length t.outputs) max_outputs)
    (le-leb (length t.conditions) l.founded_conditions max_conditions c m.0)
    (le-leb (length t.outputs) l.founded_outputs max_outputs o m.1))
    (and_right (leb (length t.conditions) l.founded_conditions && leb (length t.outputs) l.founded_outputs)
    (is_row_over l.atoms t) h)
  where
    le-leb : (a b c : ℕ) → T (leb a b) → b ≤ c → T (leb a c)
    le-leb a b c x y = le→leb a c (le_trans (leb→le a b x) y)

tests-fit : (l : LearningLimits) (t : Row) (source : ℕ) → refusal (offer_tests l t source) ≡ none → T (fits_offer l t)
unfolding offer_tests test_of
tests-fit l t source e = refusal-test 4 (offer_tests l t source) e

abbrev OfferOk : Lent → Offered → Type 0
OfferOk s e = StepOk s e.seen.ledger e.took e.evicts

capture-ok : (s : Lent) (source : Source) (t : Row) (m : Meter) → Accepted s → T (fits_offer s.header.limits t)
    → OfferOk s (capture (ledger_in s) source t m)
unfolding capture attempted with_account ledger_in
capture-ok s source t m a h =
    let v = offered-valid s.header.limits t a.limits h in
    let f = retain-fine _ s.header.limits.founded_outputs 0 source t _ (most-ok s.header.limits a.limits).1
    (valid-of s.header.limits.atoms t v) (fine-in s a) in
    to-lent s _ _ _ f.fine f.limits (retain-ok _ s.header.limits.founded_outputs 0 source t _)
    (λ r i. subst (λ (x : Row). T (is_row_over s.header.limits.atoms x)) (sym (f.took r i)) (row-over s.header.limits.atoms t v))
    f.from f.counted

pub offer-ok : (s : Lent) (c o : List ℕ) (source : ℕ) (m : Meter) → OfferOk s (offer s c o source m)
unfolding offer unoffered
offer-ok s c o source m =
    opt-elim (OfferOk s) (refusal (accepts s true (offer_tests s.header.limits t source))) _ _
    (λ e. let x = accepted s true (offer_tests s.header.limits t source) e in
    if-elim (OfferOk s) (can_capture (ledger_in s)) _ _
    (λ k. capture-ok s (source_in source) t m x.0 (tests-fit s.header.limits t source x.1)) (still s))
    (λ n. still s)
  where
    t : Row
    t = record { conditions = c; outputs = o }
