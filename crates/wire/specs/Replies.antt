-- The number and the value of an answer (model's `..Reply`) as words, beside its ticks; and what a function for C leaves. Assumes nothing.
use Rattle.std.specs.Prelude.{List, [], ◌∷◌, ℕ}
use Rattle.std.proofs.Math.Option.{Option, none, some}
use Rattle.model.specs.declared.Header.{Header}
use Rattle.model.specs.Answers.{Reply, refused, answered, named}
use Rattle.wire.specs.declared.ReplyWords.{ReplyWords}
use Rattle.wire.specs.Words.{header_words}

abbrev pub reply_words : Reply → ReplyWords
reply_words (refused n) = record { refusal = n; case = 0; value = 0; contradicted = 0 }
reply_words (answered c v) = record { refusal = 0; case = c; value = v; contradicted = 0 }
reply_words (named c v o) = record { refusal = 0; case = c; value = v; contradicted = o }

-- the end of a closing, and the output that it names, 02, Six: the value is the number of its case, 0 none and 1 Output
abbrev pub close_words : Reply → Reply → ReplyWords
close_words (refused n) o = reply_words (refused n)
close_words (answered c v) o = reply_words (named c (reply_words o).case (reply_words o).value)
close_words (named c v w) o = reply_words (named c (reply_words o).case (reply_words o).value)

-- the words of an answer that is no refusal: case, value, ticks, the output named
abbrev pub answer_words : ReplyWords → ℕ → List ℕ
answer_words t ticks = t.case ∷ t.value ∷ ticks ∷ t.contradicted ∷ []

-- the words of the header made, or else as they were
abbrev pub made_words : Option Header → List ℕ → List ℕ
made_words none old = old
made_words (some h) old = header_words h

-- the result, and the words of each slice that the call may write
pub record Left : Type 0 where
  pub result : ℕ
  pub words : List (List ℕ)

abbrev pub left : ℕ → List (List ℕ) → Left
left r ws = record { result = r; words = ws }
