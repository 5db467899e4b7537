-- Each call is a step. Assumes nothing.
use mathlib.Core.Path.{◌≡◌, refl, ◌∙◌, ap}
use mathlib.Core.Bool.{Bool, true, false, ◌||◌}
use mathlib.Core.List.{List, [], ◌∷◌}
use Prim.Native.Nat.{ℕ, zero, suc}
use lib.Dec.{eqb, leb}
use lib.ListN.{length}
use Rattle.lists.specs.Lists.{adjust}
use Rattle.words.specs.Region.{Region, decide}
use Rattle.meter.specs.declared.Meter.{Meter}
use Rattle.meter.specs.Tick.{Tick, Ticked, Stopped}
use Rattle.meter.specs.Meter.{ticks}
use Rattle.model.specs.declared.Header.{Header}
use Rattle.model.specs.Records.{Row, Entry, Ledger, rows_of, row_at, founded_rows}
use Rattle.model.specs.Records.{with_stale, with_full, hit_entry}
use Rattle.model.specs.Refusals.{Lent, refusal, ledger_in, lent_of, accepts}
use Rattle.model.specs.Operations.{position_ok, hit, begin}
use Rattle.model.specs.Closing.{State, Turn, going, conflict, halted, on_going, hit_at, decide_on}
use Rattle.model.specs.Closing.{with_hit, publish, follow, reading, earns, act, round, decided_since, rounds, closing}
use Rattle.model.proofs.Priority.Covering.{rows_e}
use Rattle.model.proofs.Priority.Steps.{if-elim, opt-elim, tick-elim}
use Rattle.model.proofs.Priority.Steps.{Accepted, accepted}
use Rattle.model.proofs.Priority.Steps.{StepOk, still, quiet}
use Rattle.model.specs.declared.Deduction.{Deduction}
use Rattle.model.specs.declared.Deduction.TheVariants.{Nothing, Force, Require}
use Rattle.model.specs.declared.OutputCursor.{OutputCursor}
use Rattle.model.specs.Deduction.{Next, next_output, deduction, deduction_ticks}
use Rattle.model.specs.Deduction as deducing
use Rattle.model.specs.Postings.{Search, searched, rebuilt, candidates as search, postings_of, search_ticks}
use Rattle.model.specs.Operations.{HitEnd, BeginEnd, CandidatesEnd, CloseEnd, close_end, closed_by, candidates, close}
use Rattle.model.proofs.Entries.{hit-row, founded-hit}

-- ---- rows stay where entries are changed in their counts alone
pub adjust-rows : (f : Entry → Entry) → ((e : Entry) → (f e).row ≡ e.row) → (p : ℕ) (es : List Entry) → rows_e (adjust f p es) ≡ rows_e es
unfolding adjust
adjust-rows f q p [] = refl
adjust-rows f q zero (e ∷ es) = ap (λ (r : Row). r ∷ rows_e es) (q e)
adjust-rows f q (suc p) (e ∷ es) = ap (λ (l : List Row). e.row ∷ l) (adjust-rows f q p es)

-- limits, rows and counts of one ledger are those of another
pub record Same (l k : Ledger) : Type 0 where
  pub limits : k.header.limits ≡ l.header.limits
  pub rows : rows_e k.entries ≡ rows_e l.entries
  pub evicted : k.header.evicted ≡ l.header.evicted
  pub counted : k.header.founded ≡ l.header.founded
  pub founded : founded_rows k.entries ≡ founded_rows l.entries

pub same_refl : (l : Ledger) → Same l l
same_refl l = record { limits = refl; rows = refl; evicted = refl; counted = refl; founded = refl }

same-trans : (a b c : Ledger) → Same a b → Same b c → Same a c
same-trans a b c p q = record {
  limits = q.limits ∙ p.limits;
  rows = q.rows ∙ p.rows;
  evicted = q.evicted ∙ p.evicted;
  counted = q.counted ∙ p.counted;
  founded = q.founded ∙ p.founded;
}

pub same_step : (s : Lent) (l : Ledger) → Accepted s → Same (ledger_in s) l → StepOk s (lent_of l) [] false
unfolding ledger_in
same_step s l a k = quiet s l a k.limits k.rows k.evicted

hit_same : (p : ℕ) (l : Ledger) → Same l (hit_at p l)
unfolding hit_at
hit_same p l = record {
  limits = refl;
  rows = adjust-rows hit_entry hit-row p l.entries;
  evicted = refl;
  counted = refl;
  founded = founded-hit p l.entries;
}

-- ---- Hit, Begin
pub hit-ok : (s : Lent) (p : ℕ) → StepOk s (hit s p).ledger [] false
unfolding hit
hit-ok s p =
    opt-elim (λ (e : HitEnd). StepOk s e.ledger [] false) (refusal (accepts s true ((position_ok s p, 5) ∷ []))) _ _
    (λ e. same_step s (hit_at p (ledger_in s)) (accepted s true ((position_ok s p, 5) ∷ []) e).0 (hit_same p (ledger_in s)))
    (λ n. still s)

full-same : (l : Ledger) (b : Bool) → Same l (record { header = with_full l.header b; entries = l.entries })
unfolding with_full
full-same l b = record { limits = refl; rows = refl; evicted = refl; counted = refl; founded = refl }

pub begin-ok : (s : Lent) → StepOk s (begin s).ledger [] false
unfolding begin ledger_in
begin-ok s =
    opt-elim (λ (e : BeginEnd). StepOk s e.ledger [] false) (refusal (accepts s true [])) _ _
    (λ e. same_step s _ (accepted s true [] e).0 (full-same (ledger_in s) true))
    (λ n. still s)

-- ---- Candidates
pub record HeadOk (h : Header) (x : Search) : Type 0 where
  pub limits : x.header.limits ≡ h.limits
  pub evicted : x.header.evicted ≡ h.evicted
  pub counted : x.header.founded ≡ h.founded

searched-ok : (h g : Header) (ps as' : List ℕ) (t : Tick) → g.limits ≡ h.limits → g.evicted ≡ h.evicted → g.founded ≡ h.founded
    → HeadOk h (searched g ps as' t)
unfolding searched
searched-ok h g ps as' (Stopped m) e f c = record { limits = e; evicted = f; counted = c }
searched-ok h g ps as' (Ticked m) e f c = record { limits = e; evicted = f; counted = c }

rebuilt-ok : (h : Header) (ps as' : List ℕ) (t : Tick) → HeadOk h (rebuilt h ps as' t)
unfolding rebuilt with_stale
rebuilt-ok h ps as' (Stopped m) = record { limits = refl; evicted = refl; counted = refl }
rebuilt-ok h ps as' (Ticked m) = searched-ok h _ ps as' (ticks (search_ticks ps as') m) refl refl refl

pub search-ok : (l : Ledger) (as' : List ℕ) (m : Meter) → HeadOk l.header (search l as' m)
unfolding search with_full
search-ok l as' m =
    if-elim (HeadOk l.header) (leb (length l.entries) 64 || l.header.full) _ _
    (λ t. record { limits = refl; evicted = refl; counted = refl })
    (rebuilt-ok l.header (postings_of (rows_of l)) as' _)

-- the ledger under the header of a search
head-same : (l : Ledger) (x : Search) → HeadOk l.header x → Same l (record { header = x.header; entries = l.entries })
head-same l x o = record { limits = o.limits; rows = refl; evicted = o.evicted; counted = o.counted; founded = refl }

pub candidates-ok : (s : Lent) (as' buffer : List ℕ) (m : Meter) → StepOk s (candidates s as' buffer m).ledger [] false
unfolding candidates ledger_in
candidates-ok s as' buffer m =
    opt-elim (λ (e : CandidatesEnd). StepOk s e.ledger [] false)
    (refusal (accepts s (eqb (length buffer) s.header.limits.tier_rows) [])) _ _
    (λ e. same_step s _ (accepted s (eqb (length buffer) s.header.limits.tier_rows) [] e).0
    (head-same (ledger_in s) _ (search-ok (ledger_in s) as' m)))
    (λ n. still s)

-- ---- Close
abbrev pub TurnSame : Ledger → Turn → Type 0
TurnSame l (going s) = Same l s.ledger
TurnSame l (conflict s) = Same l s.ledger
TurnSame l (halted s) = Same l s.ledger

on_same : (l : Ledger) (t : Turn) (k : State → Turn) → TurnSame l t → ((s : State) → Same l s.ledger → TurnSame l (k s))
    → TurnSame l (on_going t k)
unfolding on_going
on_same l (going s) k p f = f s p
on_same l (conflict s) k p f = p
on_same l (halted s) k p f = p

decide-same : (l : Ledger) (n c : ℕ) (s : State) → Same l s.ledger → TurnSame l (decide_on n c s)
unfolding decide_on
decide-same l n c s p = opt-elim (TurnSame l) (decide n s.region c) _ _ (λ e. p) (λ r. p)

next-elim : {A : Type 0} (P : A → Type 0) (x : Next) (a b : A) (f : ℕ → A) → P a → P b → ((c : ℕ) → P (f c))
    → P (elim x as (λ k. A) [ deducing.stopped ↦ a | deducing.end ↦ b | deducing.output c ↦ f c ])
next-elim P deducing.stopped a b f pa pb pf = pa
next-elim P deducing.end a b f pa pb pf = pb
next-elim P (deducing.output c) a b f pa pb pf = pf c

publish-same : (l : Ledger) (fuel n : ℕ) (r : Row) (k : OutputCursor) (s : State) → Same l s.ledger → TurnSame l (publish fuel n r k s)
unfolding publish
publish-same l zero n r k s p = p
publish-same l (suc fuel) n r k s p =
    next-elim (TurnSame l) (next_output s.region r k s.meter).next _ _ _ p p
    (λ c. on_same l (decide_on n c _) _ (decide-same l n c _ p) (λ t q. publish-same l fuel n r _ t q))

follow-same : (l : Ledger) (n : ℕ) (r : Row) (d : Deduction) (s : State) → Same l s.ledger → TurnSame l (follow n r d s)
unfolding follow
follow-same l n r Nothing s q = q
follow-same l n r Force s q = publish-same l _ n r _ s q
follow-same l n r (Require c o) s q = decide-same l n c.0 s q

reading-same : (l : Ledger) (n : ℕ) (r : Row) (s : State) → Same l s.ledger → TurnSame l (reading n r s)
unfolding reading
reading-same l n r s q =
    tick-elim (TurnSame l) (ticks (deduction_ticks s.region r) s.meter) _ _ (λ m. q)
    (λ m. follow-same l n r (deduction s.region r) _ q)

-- what holds of a reading with a hit and without holds of the row read
pub act_by : (P : Turn → Type 0) (n p : ℕ) (s : State) → P (reading n (row_at p s.ledger) s)
    → P (with_hit p (reading n (row_at p s.ledger) s)) → P (act n p s)
unfolding act
act_by P n p s a b = if-elim P (earns n s.region (reading n (row_at p s.ledger) s)) _ _ (λ t. b) a

turn-hit : (l : Ledger) (p : ℕ) (t : Turn) → TurnSame l t → TurnSame l (with_hit p t)
unfolding with_hit
turn-hit l p t q = go t q
  where
    more : (k : Ledger) → Same l k → Same l (hit_at p k)
    more k q = same-trans l k (hit_at p k) q (hit_same p k)

    go : (t : Turn) → TurnSame l t → TurnSame l (with_hit p t)
    go (going s) q = more s.ledger q
    go (conflict s) q = more s.ledger q
    go (halted s) q = more s.ledger q

act-same : (l : Ledger) (n p : ℕ) (s : State) → Same l s.ledger → TurnSame l (act n p s)
act-same l n p s q = let t = reading-same l n (row_at p s.ledger) s q in act_by (TurnSame l) n p s t (turn-hit l p _ t)

round_same : (l : Ledger) (n : ℕ) (ps : List ℕ) (s : State) → Same l s.ledger → TurnSame l (round n ps s)
unfolding round
round_same l n [] s q = q
round_same l n (p ∷ ps) s q = on_same l (act n p s) (round n ps) (act-same l n p s q) (λ t i. round_same l n ps t i)

list-elim : {A : Type 0} (P : A → Type 0) (xs : List ℕ) (a : A) (f : ℕ → List ℕ → A) → P a → ((y : ℕ) (ys : List ℕ) → P (f y ys))
    → P (elim xs as (λ k. A) [ [] ↦ a | y ∷ ys ↦ f y ys ])
list-elim P [] a f pa pf = pa
list-elim P (y ∷ ys) a f pa pf = pf y ys

rounds-same : (l : Ledger) (fuel n : ℕ) (as' : List ℕ) (s : State) → Same l s.ledger → TurnSame l (rounds fuel n as' s)
unfolding rounds
rounds-same l zero n as' s q = q
rounds-same l (suc fuel) n as' s q =
    let h : Same l (record { header = (search s.ledger as' s.meter).header; entries = s.ledger.entries }) =
    same-trans l s.ledger _ q (head-same s.ledger (search s.ledger as' s.meter) (search-ok s.ledger as' s.meter)) in
    opt-elim (TurnSame l) (search s.ledger as' s.meter).found _ _ (λ e. h)
    (λ ps. on_same l (round n ps _) _ (round_same l n ps _ h)
    (λ u i. list-elim (TurnSame l) (decided_since n s.region u.region) _ _ i (λ y ys. rounds-same l fuel n (y ∷ ys) u i)))

pub closing_same : (l : Ledger) (r : Region) (m : Meter) → TurnSame l (closing l r m)
unfolding closing
closing_same l r m = rounds-same l _ _ [] _ (full-same l true)

turn_step : (s : Lent) (x y : List ℕ) (m : Meter) (t : Turn) → Accepted s → TurnSame (ledger_in s) t
    → StepOk s
    (closed_by t x y m).ledger [] false
unfolding close_end
turn_step s x y m (going u) a q = same_step s u.ledger a q
turn_step s x y m (conflict u) a q = same_step s u.ledger a q
turn_step s x y m (halted u) a q = same_step s u.ledger a q

pub close-ok : (s : Lent) (held cut x y : List ℕ) (m : Meter) → StepOk s (close s held cut x y m).ledger [] false
unfolding close
close-ok s held cut x y m =
    opt-elim (λ (e : CloseEnd). StepOk s e.ledger [] false) (refusal (accepts s _ _)) _ _
    (λ e. turn_step s x y m (closing (ledger_in s) _ m) (accepted s _ _ e).0 (closing_same (ledger_in s) _ m))
    (λ n. still s)
