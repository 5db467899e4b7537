-- A walk along lent postings, with a place for each row: where its next postings should be found. Nothing is known of where a place leads;
-- what it says of the row's form is. Assumes nothing.
use Rattle.std.specs.Prelude.{◌≡◌, List, ℕ, ◌+◌, ◌-◌, ◌*◌, ◌≤◌, ◌<◌, length, get_or, take}
use Rattle.lists.specs.Counts.{times, Each, Sorted}
use Rattle.model.specs.Records.{slot_words, max_rows, total_groups_at}

-- from here on a place counts groups, below it codes
abbrev pub packed_from : ℕ
packed_from = 32768

-- from here on it says nothing
abbrev pub nowhere : ℕ
nowhere = 46336

-- what a place says of a slot by its number of groups
pub record Form (place total : ℕ) : Type 0 where
  pub scalar : place < packed_from → total ≡ 0
  pub packed : packed_from ≤ place → place < nowhere → total ≡ 0 → ⊥

-- each place that says something is of one of the first rows, and says its form
pub record Marked (rows : ℕ) (slots places : List ℕ) : Type 0 where
  pub there : (p : ℕ) → p < max_rows → get_or places p 0 < nowhere → p < rows
  pub form : (p : ℕ) → p < max_rows → Form (get_or places p 0) (get_or slots (slot_words * p + total_groups_at) 0)

-- the first words of xs ascend, the last of them is `word` and was met so often in a row, and none stands more often than among ys
pub record Walked (xs ys : List ℕ) (at word often : ℕ) : Type 0 where
  pub far : at ≤ length xs
  pub sorted : Sorted (take at xs)
  pub top : Each (λ v. v ≤ word) (take at xs)
  pub held : 1 ≤ word → 1 ≤ times word (take at xs)
  pub runs : often ≡ times word (take at xs)
  pub few : (v : ℕ) → times v (take at xs) ≤ times v ys

-- so many words hold all k postings, and the last of them holds one if there are more words
pub record Ended (k : ℕ) (words : List ℕ) (n : ℕ) : Type 0 where
  pub all : k ≤ n
  pub inside : n ≤ length words
  pub last : (n ≡ k → ⊥) → get_or words (n - 1) 0 ≡ 0 → ⊥
