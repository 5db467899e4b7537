-- What a lent ledger may hold, 01's refusals 1 to 3, both ways: what is laid out is accepted, and nothing else lies in accepted words.
-- Assumes nothing.
use Rattle.std.specs.Prelude.{◌≡◌, true, [], T}
use Rattle.std.proofs.Math.Option.{none}
use Rattle.lists.specs.Lists.{all}
use Rattle.model.specs.Records.{Ledger, limits_ok}
use Rattle.model.specs.Refusals.{Lent, refusal, ledger_in, lent_of, entry_ok, counts_ok, accepts}

-- the words of a ledger whose limits, counts and entries are fit are accepted
abbrev pub EncodedAccepted : Type 0
EncodedAccepted =
    (l : Ledger) → T (limits_ok l.header.limits) → T (counts_ok (lent_of l).header) → T (all (entry_ok (lent_of l).header) l.entries)
    → refusal (accepts (lent_of l) true []) ≡ none

-- two accepted ledgers with one header and the same entries are equal in every word
abbrev pub EntriesAreAll : Type 0
EntriesAreAll =
    (s t : Lent) → refusal (accepts s true []) ≡ none → refusal (accepts t true []) ≡ none → s.header ≡ t.header
    → (ledger_in s).entries ≡ (ledger_in t).entries → (s.slots ≡ t.slots) × (s.postings ≡ t.postings)
