-- The instances of demand 3 hold. Assumes nothing.
use mathlib.Core.Path.{◌≡◌, refl, ap}
use mathlib.Core.Bool.{Bool, true, false}
use mathlib.Core.Logic.{inl, inr}
use mathlib.Core.Option.{some}
use mathlib.Core.List.{List, [], ◌∷◌, map}
use Prim.Native.Nat.{ℕ}
use native.Mathlib.Omega.{arith}
use lib.Dec.{T}
use Rattle.words.specs.Region.{Region, is_region, holds}
use Rattle.model.specs.Answers.{Reply, close_reply}
use Rattle.model.specs.declared.CloseAnswer.TheVariants.{Closed, Conflict}
use Rattle.model.specs.Records.{Row, Entry, rows_of, fresh, tier_limits}
use Rattle.model.specs.Refusals.{ledger_in}
use Rattle.model.specs.Opened.{opened}
use Rattle.model.specs.Priority.{In, Forces, ForceAlike, Covers}
use Rattle.model.specs.Calls.{Call}
use Rattle.model.specs.Cards.{endless, a140, ab140, a142, ab144, b142, c144, entries_from}
use Rattle.model.specs.Instances.{begun_with, after_calls, held_after, closed_after, offers_of, begun, after, held_by, closed_by}
use Rattle.model.specs.Instances.{plan, clashing, one, other, few, evicting, keeping, second, link_first, link_last}
use Rattle.model.specs.Instances.{lent_with, closed_with, Instances}
use Rattle.model.proofs.Cards as cards
use Rattle.model.proofs.Cover.{covers_of, covers-forces, member, subset, gives_b, gives_all, covers_b}

-- held {0}
abbrev region : Region
region = record { held = 1 ∷ 0 ∷ []; cut = 0 ∷ 0 ∷ [] }

plan-fits : T (is_region 128 region)
unfolding opened
plan-fits = tt

plan-holds : T (holds region 1)
unfolding opened
plan-holds = tt

forced : Forces (a140 ∷ []) region 140
forced = record { by = a140; is_row = inl refl; gives = inl refl; holding = λ c m. only c m }
  where
    only : (c : ℕ) → In c (1 ∷ []) → T (holds region c)
    only c (inl e) = rw e plan-holds
    only c (inr m) = absurd m

no-140 : (s : Row) → In s (a142 ∷ []) → In {A = ℕ} 140 s.outputs → ⊥
no-140 s (inl e) m = never (rw e at m)
  where
    never : In {A = ℕ} 140 (142 ∷ []) → ⊥
    never (inl q) = omega arith
    never (inr i) = i
no-140 s (inr i) m = i

two-unlike : ForceAlike 128 (a140 ∷ []) (a142 ∷ []) → ⊥
two-unlike f = let g = (f region plan-fits 140).0 forced in no-140 g.by g.is_row g.gives

-- What a list of offers leaves: whether it evicts, the rows held; then the rows taken, the answers of both closings.
-- Each equation below is one computation, which runs the offers once.
abbrev left : List Row → Bool × List Row
left ts = ((after ts).evicted, held_by ts)

abbrev told : List Row → (Bool × List Row) × List Row × Reply × Reply
told ts = (left ts, (after ts).taken, (closed_by ts plan).answer, (closed_by ts clashing).answer)

one_told : told one ≡ ((false, cards.one), ab144 ∷ a142 ∷ ab140 ∷ a140 ∷ [], close_reply Closed, close_reply Conflict)
unfolding opened begun_with after_calls held_after closed_after offers_of begun after held_by closed_by endless
one_told = refl

other-told : told other ≡ ((false, cards.other), a142 ∷ a140 ∷ ab144 ∷ ab140 ∷ [], close_reply Closed, close_reply Conflict)
unfolding opened begun_with after_calls held_after closed_after offers_of begun after held_by closed_by endless
other-told = refl

a140-left : left (a140 ∷ []) ≡ (false, a140 ∷ [])
unfolding opened begun_with after_calls held_after offers_of begun after held_by endless
a140-left = refl

a142-left : left (a142 ∷ []) ≡ (false, a142 ∷ [])
unfolding opened begun_with after_calls held_after offers_of begun after held_by endless
a142-left = refl

covered : Covers (after one).taken (after other).taken × Covers (after other).taken (after one).taken
unfolding member subset gives_b gives_all covers_b
covered = rw (ap (λ t. t.1) one_told, ap (λ t. t.1) other-told) (covers_of _ _ tt, covers_of _ _ tt)

made : begun.header ≡ some (fresh (tier_limits 128) 1)
unfolding opened begun_with begun
made = refl

-- ---- one of two ledgers evicted

abbrev ended : List Call → Bool × List Row × Reply
ended cs = ((after_calls few cs).evicted, held_after few cs, (closed_after few cs second).answer)

evicting-ended : ended evicting ≡ (true, c144 ∷ b142 ∷ [], close_reply Closed)
unfolding opened begun_with after_calls held_after closed_after offers_of evicting endless
evicting-ended = refl

keeping-ended : ended keeping ≡ (false, b142 ∷ c144 ∷ [], close_reply Closed)
unfolding opened begun_with after_calls held_after closed_after offers_of keeping endless
keeping-ended = refl

-- rows that cover each other force alike
alike_of : (us vs : List Row) → Covers us vs → Covers vs us → ForceAlike 128 us vs
alike_of us vs p q r g o = (covers-forces vs us q r o, covers-forces us vs p r o)

two-alike : ForceAlike 128 (c144 ∷ b142 ∷ []) (b142 ∷ c144 ∷ [])
unfolding member subset gives_b gives_all covers_b
two-alike = alike_of _ _ (covers_of _ _ tt) (covers_of _ _ tt)

-- ---- 65 rows in two orders

abbrev rows_in : List Entry → List Row
rows_in es = map (λ e. e.row) es

abbrev closing : List Entry → List Row × Reply × Bool × List ℕ
closing es = (rows_of (ledger_in (lent_with es)), (closed_with es).answer, (closed_with es).ledger.header.stale, (closed_with es).region.cut)

first-closing : closing link_first ≡ (rows_in link_first, close_reply Closed, false, 0 ∷ 192 ∷ [])
unfolding opened lent_with closed_with link_first entries_from endless
first-closing = refl

last-closing : closing link_last ≡ (rows_in link_last, close_reply Closed, false, 0 ∷ 192 ∷ [])
unfolding opened lent_with closed_with link_last entries_from endless
last-closing = refl

many-alike : ForceAlike 128 (rows_in link_first) (rows_in link_last)
unfolding member subset gives_b gives_all covers_b link_first link_last entries_from
many-alike = alike_of _ _ (covers_of _ _ tt) (covers_of _ _ tt)

pub instances : Instances
instances = record {
  made = made;
  kept = ap (λ t. t.0.0) one_told;
  kept_too = ap (λ t. t.0.0) other-told;
  covers = covered;
  alike = rw (ap (λ t. t.0.1) one_told, ap (λ t. t.0.1) other-told) cards.force-alike;
  closed = ap (λ t. t.2) one_told;
  closed_too = ap (λ t. t.2) other-told;
  conflict = ap (λ t. t.3) one_told;
  conflict_too = ap (λ t. t.3) other-told;
  kept_alone = ap (λ t. t.0) a140-left;
  kept_alone_too = ap (λ t. t.0) a142-left;
  unlike = λ f. two-unlike (rw (ap (λ t. t.1) a140-left, ap (λ t. t.1) a142-left) at f);
  evicted = ap (λ t. t.0) evicting-ended;
  kept_rows = ap (λ t. t.0) keeping-ended;
  evicted_alike = rw (ap (λ t. t.1) evicting-ended, ap (λ t. t.1) keeping-ended) two-alike;
  evicted_closed = ap (λ t. t.2) evicting-ended;
  kept_closed = ap (λ t. t.2) keeping-ended;
  many_alike = rw (ap (λ t. t.0) first-closing, ap (λ t. t.0) last-closing) many-alike;
  first_closed = ap (λ t. t.1) first-closing;
  last_closed = ap (λ t. t.1) last-closing;
  first_built = ap (λ t. t.2) first-closing;
  last_built = ap (λ t. t.2) last-closing;
  first_cut = ap (λ t. t.3) first-closing;
}
