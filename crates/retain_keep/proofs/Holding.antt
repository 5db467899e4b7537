-- An accepted ledger holds its rows as a tier does. Assumes nothing.
use mathlib.Core.List.{List}
use Prim.Native.Nat.{ℕ}
use Rattle.words.specs.Region.{max_atoms}
use Rattle.words.proofs.Widths.{most-coded}
use Rattle.model.specs.declared.Header.{Header}
use Rattle.slots.specs.Layout.{Held}
use Rattle.slots.proofs.Holding.{held_more}
use Rattle.contents.specs.Accepted.{Accepted}

pub held : (h : Header) (slots postings : List ℕ) → Accepted h slots postings → Held max_atoms h.rows slots
held h slots postings a = held_more h.rows slots a.stands.held max_atoms a.atoms most-coded
