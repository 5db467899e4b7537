-- 01, module 5, Retention: 'subsumption and union position by position with the growing proposal, then a second pass', as a loop over
-- positions sees it. The positions replaced are marked in a set. Assumes nothing.
use Rattle.std.specs.Prelude.{Bool, true, false, List, [], ◌∷◌, ℕ, suc, ◌+◌}
use Rattle.model.specs.Records.{Row, Entry}
use Rattle.model.specs.Rows.{subsumes, subsumes_reads}
use Rattle.model.specs.Union.{joins, join_reads, grown}
use Rattle.model.specs.Retention.{Examined, Pass, noted}

-- the entries from position i on, with what the marks say of each
unfoldable pub examined_by : (ℕ → Bool) → ℕ → List Entry → List Examined
examined_by f i [] = []
examined_by f i (e ∷ es) = record { replaced = f i; entry = e } ∷ examined_by f (suc i) es

-- what the first pass comes to, once these entries were passed, if the rest comes to x
unfoldable pub resumed : List Examined → Pass → Pass
resumed [] x = x
resumed (k ∷ ks) x = noted k.replaced k.entry (resumed ks x)

-- one position: its reads, and the proposal after it
unfoldable pub row_reads : ℕ → Row → Row → ℕ
row_reads most r p = suc (subsumes_reads r p) + (elim (subsumes r p) [ true ↦ 0 | false ↦ join_reads most r p ])

unfoldable pub proposal_after : ℕ → Row → Row → Row
proposal_after most r p = elim (joins most r p) [ true ↦ grown r p | false ↦ p ]
