-- Demand 3's hypotheses can be met: two orders of 01's four rows, which force alike, and two rows that do not; two ledgers of which one
-- evicted; two of more than 64 rows, which close by postings. Assumes nothing.
use Rattle.std.specs.Prelude.{◌≡◌, true, false, List, [], ◌∷◌, ◌++◌, map, ℕ, ◌*◌, replicate}
use Rattle.std.proofs.Math.Option.{some}
use Rattle.model.specs.declared.LearningLimits.{LearningLimits}
use Rattle.model.specs.declared.Source.TheVariants.{Founded}
use Rattle.model.specs.declared.CloseAnswer.TheVariants.{Closed, Conflict}
use Rattle.model.specs.Records.{Row, Entry, rows_of, fresh, limits_of, tier_limits, slot_words, posting_words, with_added}
use Rattle.model.specs.Refusals.{Lent, ledger_in, lent_of}
use Rattle.model.specs.Answers.{close_reply}
use Rattle.model.specs.Operations.{MakeEnd, CloseEnd, make, close}
use Rattle.model.specs.Calls.{Call, Offer, Followed, run}
use Rattle.model.specs.Priority.{ForceAlike, Covers}
use Rattle.model.specs.Cards.{endless, ◌⇒◌, a140, ab140, a142, ab144, b142, c144, entries_from}

-- a ledger of such limits, made in buffers that hold anything, and what calls leave of it
unfoldable pub begun_with : LearningLimits → MakeEnd
begun_with l = make l 1 (replicate (slot_words * l.tier_rows) 7) (replicate (posting_words * l.tier_rows) 7)

unfoldable pub after_calls : LearningLimits → List Call → Followed
after_calls l cs = run (fresh l 1) (begun_with l) cs

unfoldable pub held_after : LearningLimits → List Call → List Row
held_after l cs = rows_of (ledger_in (after_calls l cs).ledger)

-- the closing of a region that cuts nothing
unfoldable pub closed_after : LearningLimits → List Call → List ℕ → CloseEnd
closed_after l cs held =
    close (after_calls l cs).ledger held (0 ∷ 0 ∷ []) (replicate l.tier_rows 7) (replicate l.atoms 7) endless

unfoldable pub offers_of : List Row → List Call
offers_of ts = map (λ t. Offer t.conditions t.outputs 0 endless) ts

-- the same of the default limits over 128 atoms, and of offers
unfoldable pub begun : MakeEnd
begun = begun_with (tier_limits 128)

unfoldable pub after : List Row → Followed
after ts = after_calls (tier_limits 128) (offers_of ts)

unfoldable pub held_by : List Row → List Row
held_by ts = held_after (tier_limits 128) (offers_of ts)

unfoldable pub closed_by : List Row → List ℕ → CloseEnd
closed_by ts held = closed_after (tier_limits 128) (offers_of ts) held

-- held {0}, and held {0, 71}
abbrev pub plan : List ℕ
plan = 1 ∷ 0 ∷ []

abbrev pub clashing : List ℕ
clashing = 1 ∷ 128 ∷ []

abbrev pub one : List Row
one = a140 ∷ ab140 ∷ a142 ∷ ab144 ∷ []

abbrev pub other : List Row
other = ab140 ∷ ab144 ∷ a140 ∷ a142 ∷ []

-- a tier of two rows and a floor of one: three offers, of which the last evicts, and the two rows that are then held
abbrev pub few : LearningLimits
few = limits_of 128 2 1

unfoldable pub evicting : List Call
evicting = offers_of (a140 ∷ b142 ∷ c144 ∷ [])

unfoldable pub keeping : List Call
keeping = offers_of (b142 ∷ c144 ∷ [])

-- held {1}
abbrev pub second : List ℕ
second = 2 ∷ 0 ∷ []

-- ledgers of 65 rows: 140 → 142 before or after a row i → 140 for each of the atoms 0 to 63
abbrev pub link : Entry
link = record { row = (140 ∷ []) ⇒ (142 ∷ []); hits = 0; unshared = 0; born = 1; delivered = false; source = Founded }

unfoldable pub link_first : List Entry
link_first = link ∷ entries_from 64 0

unfoldable pub link_last : List Entry
link_last = entries_from 64 0 ++ (link ∷ [])

unfoldable pub lent_with : List Entry → Lent
lent_with es = lent_of (record { header = with_added (fresh (limits_of 128 65 0) 1) 0 0; entries = es })

-- their closing of held {0}
unfoldable pub closed_with : List Entry → CloseEnd
closed_with es = close (lent_with es) plan (0 ∷ 0 ∷ []) (replicate 65 7) (replicate 128 7) endless

pub record Instances : Type 0 where
  pub made : begun.header ≡ some (fresh (tier_limits 128) 1)
  -- the two orders: no eviction, all four rows taken, and the ledgers force alike
  pub kept : (after one).evicted ≡ false
  pub kept_too : (after other).evicted ≡ false
  pub covers : Covers (after one).taken (after other).taken × Covers (after other).taken (after one).taken
  pub alike : ForceAlike 128 (held_by one) (held_by other)
  -- they close one region to Closed and another to Conflict
  pub closed : (closed_by one plan).answer ≡ close_reply Closed
  pub closed_too : (closed_by other plan).answer ≡ close_reply Closed
  pub conflict : (closed_by one clashing).answer ≡ close_reply Conflict
  pub conflict_too : (closed_by other clashing).answer ≡ close_reply Conflict
  -- 1 → 140 alone and 1 → 142 alone: no eviction, and they do not force alike
  pub kept_alone : (after (a140 ∷ [])).evicted ≡ false
  pub kept_alone_too : (after (a142 ∷ [])).evicted ≡ false
  pub unlike : ForceAlike 128 (held_by (a140 ∷ [])) (held_by (a142 ∷ [])) → ⊥
  -- one of two ledgers evicted: they force alike, and close a region to Closed
  pub evicted : (after_calls few evicting).evicted ≡ true
  pub kept_rows : (after_calls few keeping).evicted ≡ false
  pub evicted_alike : ForceAlike 128 (held_after few evicting) (held_after few keeping)
  pub evicted_closed : (closed_after few evicting second).answer ≡ close_reply Closed
  pub kept_closed : (closed_after few keeping second).answer ≡ close_reply Closed
  -- 65 rows in two orders: they force alike, and close a region to Closed by postings, which are then built
  pub many_alike : ForceAlike 128 (rows_of (ledger_in (lent_with link_first))) (rows_of (ledger_in (lent_with link_last)))
  pub first_closed : (closed_with link_first).answer ≡ close_reply Closed
  pub last_closed : (closed_with link_last).answer ≡ close_reply Closed
  pub first_built : (closed_with link_first).ledger.header.stale ≡ false
  pub last_built : (closed_with link_last).ledger.header.stale ≡ false
  -- atoms 70 and 71 are cut; where 140 → 142 stands first, it was the second round that found it, by postings, and cut 71
  pub first_cut : (closed_with link_first).region.cut ≡ 0 ∷ 192 ∷ []
