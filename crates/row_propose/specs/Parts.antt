-- 01, Slot: a row's words are written part by part. Assumes nothing.
use Rattle.std.specs.Prelude.{List, ◌∷◌, ℕ, ◌-◌, replicate}
use Rattle.model.specs.Records.{slot_words}

-- the counts of a proposal, and zeros
abbrev pub blank_of : ℕ → ℕ → List ℕ
blank_of conditions outputs = conditions ∷ outputs ∷ replicate (slot_words - 2) 0
