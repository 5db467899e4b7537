-- 01: "When an answer is an enum, a definition gives this paper's number and values for each case of that enum. The promises use that
-- definition." Assumes nothing.
-- A refusal is its number. Any other answer is the number of a case, and a value where the case has one; Stopped is 2 everywhere.
-- 02, Six: a Require has two values, the code required and that of the contradicted output.
use Rattle.std.specs.Prelude.{Bool, true, false, ℕ, Ok, Err}
use Rattle.std.specs.Prelude.{Result}
use Rattle.std.proofs.Math.Option.{Option, none, some}
use Rattle.model.specs.declared.Header.{Header}
use Rattle.model.specs.declared.Deduction.{Deduction}
use Rattle.model.specs.declared.Deduction.TheVariants as deduction
use Rattle.model.specs.Contradicted.{Contradicted}
use Rattle.std.specs.Prelude.{Some, None}
use Rattle.model.specs.declared.Refusal.{Refusal}
use Rattle.model.specs.declared.Refusal.TheVariants as refusal
use Rattle.model.specs.declared.OfferAnswer.{OfferAnswer}
use Rattle.model.specs.declared.OfferAnswer.TheVariants as offer-answer
use Rattle.model.specs.declared.DeduceAnswer.{DeduceAnswer}
use Rattle.model.specs.declared.DeduceAnswer.TheVariants as deduce-answer
use Rattle.model.specs.declared.NextAnswer.{NextAnswer}
use Rattle.model.specs.declared.NextAnswer.TheVariants as next-answer
use Rattle.model.specs.declared.CandidatesAnswer.{CandidatesAnswer}
use Rattle.model.specs.declared.CandidatesAnswer.TheVariants as candidates-answer
use Rattle.model.specs.declared.CloseAnswer.{CloseAnswer}
use Rattle.model.specs.declared.CloseAnswer.TheVariants as close-answer
use Rattle.model.specs.declared.TransferAnswer.{TransferAnswer}
use Rattle.model.specs.declared.TransferAnswer.TheVariants as transfer-answer

pub data Reply : Type 0 where
  refused : ℕ → Reply
  answered : ℕ → ℕ → Reply
  named : ℕ → ℕ → ℕ → Reply

-- 1 for true, 0 for false
abbrev pub flag_word : Bool → ℕ
flag_word true = 1
flag_word false = 0

-- the number of a refusal, as 01 and 02 give them
abbrev pub number_of : Refusal → ℕ
number_of refusal.Limits = 1
number_of refusal.Lengths = 2
number_of refusal.Contents = 3
number_of refusal.Row = 4
number_of refusal.Position = 5
number_of refusal.Region = 6
number_of refusal.Atoms = 7
number_of refusal.Cursor = 8
number_of refusal.Source = 11

-- of a call that may be refused: the answer, or the refusal in its place
abbrev pub replied : {A : Type 0} → (A → Reply) → Result A Refusal → Reply
replied reply (Ok a) = reply a
replied reply (Err r) = refused (number_of r)

-- 0, with the header beside it
abbrev pub make_reply : Header → Reply
make_reply h = answered 0 0

abbrev pub made_header : Result Header Refusal → Option Header
made_header (Ok h) = some h
made_header (Err r) = none

-- 1 Shut, 2 Stopped, 3 Declined, 4 Subsumed, 5 Added; the value is the row's position
abbrev pub offer_reply : OfferAnswer → Reply
offer_reply offer-answer.Shut = answered 1 0
offer_reply offer-answer.Stopped = answered 2 0
offer_reply offer-answer.Declined = answered 3 0
offer_reply (offer-answer.Subsumed p) = answered 4 p
offer_reply (offer-answer.Added p) = answered 5 p

-- 0
abbrev pub hit_reply : Unit {0} → Reply
hit_reply u = answered 0 0

abbrev pub begin_reply : Unit {0} → Reply
begin_reply u = answered 0 0

-- 0 Nothing, 1 Force, 3 Require; the values are the code required and the code of the contradicted output
abbrev pub deduction_reply : Deduction → Reply
deduction_reply deduction.Nothing = answered 0 0
deduction_reply deduction.Force = answered 1 0
deduction_reply (deduction.Require l o) = named 3 l.0 o.0

-- a deduction's, or 2 Stopped
abbrev pub deduce_reply : DeduceAnswer → Deduction → Reply
deduce_reply deduce-answer.Stopped d = answered 2 0
deduce_reply deduce-answer.Done d = deduction_reply d

-- 0 End, 1 Output, 2 Stopped; the value is the output's code
abbrev pub next_reply : NextAnswer → Reply
next_reply next-answer.Stopped = answered 2 0
next_reply next-answer.End = answered 0 0
next_reply (next-answer.Output l) = answered 1 l.0

-- 0 Count, 2 Stopped; the value is the count
abbrev pub candidates_reply : CandidatesAnswer → Reply
candidates_reply candidates-answer.Stopped = answered 2 0
candidates_reply (candidates-answer.Count n) = answered 0 n

-- 0 Closed, 1 Conflict, 2 Stopped
abbrev pub close_reply : CloseAnswer → Reply
close_reply close-answer.Stopped = answered 2 0
close_reply close-answer.Conflict = answered 1 0
close_reply close-answer.Closed = answered 0 0

-- beside it, 02, Six: 0 none, 1 Output; the value is the output's code
abbrev pub contradicted_reply : Contradicted → Reply
contradicted_reply None = answered 0 0
contradicted_reply (Some l) = answered 1 l.0

-- Seed and deliver: 0 Done, 2 Stopped
abbrev pub transfer_reply : TransferAnswer → Reply
transfer_reply transfer-answer.Stopped = answered 2 0
transfer_reply transfer-answer.Done = answered 0 0

-- 0 false, 1 true
abbrev pub decide_reply : Bool → Reply
decide_reply b = answered (flag_word b) 0
