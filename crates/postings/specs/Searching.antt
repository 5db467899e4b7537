-- 01, module 7: 'each atom given and each posting found ticks once'. The steps of a search, and its end. Assumes nothing.
use Rattle.std.specs.Prelude.{Bool, true, false, List, [], ◌∷◌, map, ℕ, ◌*◌, ◌/◌, ◌%◌, ◌<◌, set}
use Rattle.std.proofs.Math.Option.{Option, none, some}
use Rattle.lists.specs.Lists.{concat}
use Rattle.lists.specs.Counts.{is, Each, Sorted}
use Rattle.words.specs.Bit.{max_word}
use Rattle.words.specs.Literal.{code_bits, atoms_wide}
use Rattle.meter.specs.declared.Meter.{Meter}
use Rattle.meter.specs.Tick.{Tick, Ticked}
use Rattle.meter.specs.Meter.{ticks}
use Rattle.model.specs.declared.Header.{Header}
use Rattle.model.specs.declared.CandidatesAnswer.{CandidatesAnswer}
use Rattle.model.specs.Records.{Ledger, max_rows}
use Rattle.model.specs.Postings.{Search, posted_at}
use Rattle.model.specs.Refusals.{ledger_in}
use Rattle.model.specs.Operations.{candidates_answer, found_words}
use Rattle.postings.specs.declared.searching.Searched.{Searched}

-- ---- the steps: an atom is looked at, then each position posted under it is marked
unfoldable pub marks : List ℕ → ℕ → List (Option ℕ)
marks ps a = map some (posted_at ps a)

unfoldable pub looks : List ℕ → ℕ → List (Option ℕ)
looks ps a = none ∷ marks ps a

unfoldable pub looks_all : List ℕ → List ℕ → List (Option ℕ)
looks_all ps atoms = concat (map (looks ps) atoms)

abbrev pub look : Option ℕ → List ℕ → List ℕ
look none ms = ms
look (some p) ms = set ms p 1

-- the last atom whose postings fit a word
abbrev pub last_atom : ℕ
last_atom = max_word / max_rows

-- ---- postings that may be searched: ascending, of codes of the ledger's width, at positions below n
pub record Searchable (n : ℕ) (ps : List ℕ) : Type 0 where
  pub sorted : Sorted ps
  pub low : Each (λ x. x < atoms_wide code_bits * max_rows) ps
  pub placed : Each (λ x. x % max_rows < n) ps

-- 1 if the first number is 0, else 0
unfoldable pub zero_first : List ℕ → ℕ
zero_first [] = 0
zero_first (x ∷ xs) = is 0 x

-- the ticks of n postings, if they are stale
unfoldable pub ready_ticks : Bool → ℕ → Meter → Tick
ready_ticks stale n m = elim stale [ true ↦ ticks n m | false ↦ Ticked m ]

-- ---- the end of a search, with n words for the answer
pub record SearchEnd : Type 0 where
  pub answer : CandidatesAnswer
  pub header : Header
  pub meter : Meter
  pub found : List ℕ

abbrev pub search_end : Search → ℕ → SearchEnd
search_end x n = record { answer = candidates_answer x.found; header = x.header; meter = x.meter; found = found_words x.found n }

abbrev pub found_end : Searched → List ℕ → SearchEnd
found_end r ws = record { answer = r.answer; header = r.header; meter = r.meter; found = ws }

abbrev pub ledger_of : Header → List ℕ → List ℕ → Ledger
ledger_of h slots postings = ledger_in (record { header = h; slots = slots; postings = postings })
