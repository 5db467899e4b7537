-- The numbers tell the cases of an answer apart: each case is read back from its number and values. So an equation between two replies is
-- one between the two answers. Assumes nothing.
use mathlib.Core.Path.{◌≡◌, refl, sym, ap, ◌∙◌}
use mathlib.Core.Bool.{Bool, true, false}
use mathlib.Core.Option.{Option, none, some}
use Prim.Native.Nat.{ℕ, zero, suc}
use Rattle.model.specs.declared.Header.{Header}
use Rattle.model.specs.declared.Deduction.{Deduction}
use Rattle.model.specs.declared.Deduction.TheVariants as deduction
use Rattle.model.specs.Contradicted.{Contradicted}
use Rattle.std.specs.Prelude.{Some, None}
use Rattle.std.specs.Prelude.{Result, Ok, Err}
use Rattle.model.specs.declared.Refusal.{Refusal}
use Rattle.model.specs.declared.Refusal.TheVariants as refusal
use Rattle.model.specs.declared.OfferAnswer.{OfferAnswer}
use Rattle.model.specs.declared.OfferAnswer.TheVariants as offer-answer
use Rattle.model.specs.declared.DeduceAnswer.{DeduceAnswer}
use Rattle.model.specs.declared.DeduceAnswer.TheVariants as deduce-answer
use Rattle.model.specs.declared.NextAnswer.{NextAnswer}
use Rattle.model.specs.declared.NextAnswer.TheVariants as next-answer
use Rattle.model.specs.declared.CandidatesAnswer.{CandidatesAnswer}
use Rattle.model.specs.declared.CandidatesAnswer.TheVariants as candidates-answer
use Rattle.model.specs.declared.CloseAnswer.{CloseAnswer}
use Rattle.model.specs.declared.CloseAnswer.TheVariants as close-answer
use Rattle.model.specs.declared.TransferAnswer.{TransferAnswer}
use Rattle.model.specs.declared.TransferAnswer.TheVariants as transfer-answer
use Rattle.model.specs.Answers.{Reply, refused, answered, named, number_of, replied, make_reply, made_header, offer_reply, hit_reply, begin_reply}
use Rattle.model.specs.Answers.{deduction_reply, deduce_reply, next_reply, candidates_reply, close_reply, contradicted_reply, transfer_reply}
use Rattle.model.specs.Answers.{decide_reply}

-- what is read back after writing comes from one thing alone
apart : {A B : Type 0} (reply : A → B) (back : B → A) → ((a : A) → back (reply a) ≡ a) → (a b : A) → reply a ≡ reply b → a ≡ b
apart reply back same a b e = sym (same a) ∙ ap back e ∙ same b

-- the refusal of a number; of a number that is none's, the last
abbrev refusal_of : ℕ → Refusal
refusal_of zero = refusal.Source
refusal_of (suc zero) = refusal.Limits
refusal_of (suc (suc zero)) = refusal.Lengths
refusal_of (suc (suc (suc zero))) = refusal.Contents
refusal_of (suc (suc (suc (suc zero)))) = refusal.Row
refusal_of (suc (suc (suc (suc (suc zero))))) = refusal.Position
refusal_of (suc (suc (suc (suc (suc (suc zero)))))) = refusal.Region
refusal_of (suc (suc (suc (suc (suc (suc (suc zero))))))) = refusal.Atoms
refusal_of (suc (suc (suc (suc (suc (suc (suc (suc zero)))))))) = refusal.Cursor
refusal_of (suc (suc (suc (suc (suc (suc (suc (suc (suc n))))))))) = refusal.Source

refusal-back : (r : Refusal) → refusal_of (number_of r) ≡ r
refusal-back refusal.Limits = refl
refusal-back refusal.Lengths = refl
refusal-back refusal.Contents = refl
refusal-back refusal.Row = refl
refusal-back refusal.Position = refl
refusal-back refusal.Region = refl
refusal-back refusal.Atoms = refl
refusal-back refusal.Cursor = refl
refusal-back refusal.Source = refl

-- no two refusals have one number
pub refusal-apart : (a b : Refusal) → number_of a ≡ number_of b → a ≡ b
refusal-apart = apart number_of refusal_of refusal-back

-- ---- Make, with the header beside the number
abbrev make_parts : Result Header Refusal → Reply × Option Header
make_parts a = (replied make_reply a, made_header a)

abbrev make_of : Reply × Option Header → Result Header Refusal
make_of (refused n, o) = Err (refusal_of n)
make_of (answered c v, none) = Err refusal.Source
make_of (answered c v, some h) = Ok h
make_of (named c v o, x) = Err refusal.Source

make-back : (a : Result Header Refusal) → make_of (make_parts a) ≡ a
make-back (Err r) = ap Err (refusal-back r)
make-back (Ok h) = refl

pub make-apart : (a b : Result Header Refusal) → make_parts a ≡ make_parts b → a ≡ b
make-apart = apart make_parts make_of make-back

-- ---- Offer
abbrev offer_of : Reply → Result OfferAnswer Refusal
offer_of (refused n) = Err (refusal_of n)
offer_of (answered zero v) = Ok offer-answer.Shut
offer_of (answered (suc zero) v) = Ok offer-answer.Shut
offer_of (answered (suc (suc zero)) v) = Ok offer-answer.Stopped
offer_of (answered (suc (suc (suc zero))) v) = Ok offer-answer.Declined
offer_of (answered (suc (suc (suc (suc zero)))) v) = Ok (offer-answer.Subsumed v)
offer_of (answered (suc (suc (suc (suc (suc c))))) v) = Ok (offer-answer.Added v)
offer_of (named c v o) = Ok offer-answer.Shut

offer-back : (a : Result OfferAnswer Refusal) → offer_of (replied offer_reply a) ≡ a
offer-back (Err r) = ap Err (refusal-back r)
offer-back (Ok offer-answer.Shut) = refl
offer-back (Ok offer-answer.Stopped) = refl
offer-back (Ok offer-answer.Declined) = refl
offer-back (Ok (offer-answer.Subsumed p)) = refl
offer-back (Ok (offer-answer.Added p)) = refl

pub offer-apart : (a b : Result OfferAnswer Refusal) → replied offer_reply a ≡ replied offer_reply b → a ≡ b
offer-apart = apart (replied offer_reply) offer_of offer-back

-- ---- Hit, begin
abbrev hit_of : Reply → Result (Unit {0}) Refusal
hit_of (refused n) = Err (refusal_of n)
hit_of (answered c v) = Ok tt
hit_of (named c v o) = Ok tt

hit-back : (a : Result (Unit {0}) Refusal) → hit_of (replied hit_reply a) ≡ a
hit-back (Err r) = ap Err (refusal-back r)
hit-back (Ok tt) = refl

pub hit-apart : (a b : Result (Unit {0}) Refusal) → replied hit_reply a ≡ replied hit_reply b → a ≡ b
hit-apart = apart (replied hit_reply) hit_of hit-back

abbrev begin_of : Reply → Result (Unit {0}) Refusal
begin_of (refused n) = Err (refusal_of n)
begin_of (answered c v) = Ok tt
begin_of (named c v o) = Ok tt

begin-back : (a : Result (Unit {0}) Refusal) → begin_of (replied begin_reply a) ≡ a
begin-back (Err r) = ap Err (refusal-back r)
begin-back (Ok tt) = refl

pub begin-apart : (a b : Result (Unit {0}) Refusal) → replied begin_reply a ≡ replied begin_reply b → a ≡ b
begin-apart = apart (replied begin_reply) begin_of begin-back

-- ---- Deduce: which deduction, and whether there is one
abbrev deduction_of : Reply → Deduction
deduction_of (refused n) = deduction.Nothing
deduction_of (answered zero v) = deduction.Nothing
deduction_of (answered (suc zero) v) = deduction.Force
deduction_of (answered (suc (suc c)) v) = deduction.Nothing
deduction_of (named c v o) = deduction.Require (record { 0 = v }) (record { 0 = o })

deduction-back : (d : Deduction) → deduction_of (deduction_reply d) ≡ d
deduction-back deduction.Nothing = refl
deduction-back deduction.Force = refl
deduction-back (deduction.Require l o) = refl

pub deduction-apart : (d e : Deduction) → deduction_reply d ≡ deduction_reply e → d ≡ e
deduction-apart = apart deduction_reply deduction_of deduction-back

abbrev deduce_of : Reply → Result DeduceAnswer Refusal
deduce_of (refused n) = Err (refusal_of n)
deduce_of (answered zero v) = Ok deduce-answer.Done
deduce_of (answered (suc zero) v) = Ok deduce-answer.Done
deduce_of (answered (suc (suc zero)) v) = Ok deduce-answer.Stopped
deduce_of (answered (suc (suc (suc c))) v) = Ok deduce-answer.Done
deduce_of (named c v o) = Ok deduce-answer.Done

deduce-back : (a : Result DeduceAnswer Refusal) (d : Deduction) → deduce_of (replied (λ x. deduce_reply x d) a) ≡ a
deduce-back (Err r) d = ap Err (refusal-back r)
deduce-back (Ok deduce-answer.Stopped) d = refl
deduce-back (Ok deduce-answer.Done) deduction.Nothing = refl
deduce-back (Ok deduce-answer.Done) deduction.Force = refl
deduce-back (Ok deduce-answer.Done) (deduction.Require l o) = refl

pub deduce-apart : (a b : Result DeduceAnswer Refusal) (d e : Deduction)
    → replied (λ x. deduce_reply x d) a ≡ replied (λ x. deduce_reply x e) b → a ≡ b
deduce-apart a b d e q = sym (deduce-back a d) ∙ ap deduce_of q ∙ deduce-back b e

-- ---- Next output
abbrev next_of : Reply → Result NextAnswer Refusal
next_of (refused n) = Err (refusal_of n)
next_of (answered zero v) = Ok next-answer.End
next_of (answered (suc zero) v) = Ok (next-answer.Output (record { 0 = v }))
next_of (answered (suc (suc c)) v) = Ok next-answer.Stopped
next_of (named c v o) = Ok next-answer.Stopped

next-back : (a : Result NextAnswer Refusal) → next_of (replied next_reply a) ≡ a
next-back (Err r) = ap Err (refusal-back r)
next-back (Ok next-answer.Stopped) = refl
next-back (Ok next-answer.End) = refl
next-back (Ok (next-answer.Output l)) = refl

pub next-apart : (a b : Result NextAnswer Refusal) → replied next_reply a ≡ replied next_reply b → a ≡ b
next-apart = apart (replied next_reply) next_of next-back

-- ---- Candidates
abbrev candidates_of : Reply → Result CandidatesAnswer Refusal
candidates_of (refused n) = Err (refusal_of n)
candidates_of (answered zero v) = Ok (candidates-answer.Count v)
candidates_of (answered (suc c) v) = Ok candidates-answer.Stopped
candidates_of (named c v o) = Ok candidates-answer.Stopped

candidates-back : (a : Result CandidatesAnswer Refusal) → candidates_of (replied candidates_reply a) ≡ a
candidates-back (Err r) = ap Err (refusal-back r)
candidates-back (Ok candidates-answer.Stopped) = refl
candidates-back (Ok (candidates-answer.Count n)) = refl

pub candidates-apart : (a b : Result CandidatesAnswer Refusal) → replied candidates_reply a ≡ replied candidates_reply b → a ≡ b
candidates-apart = apart (replied candidates_reply) candidates_of candidates-back

-- ---- Close
abbrev close_of : Reply → Result CloseAnswer Refusal
close_of (refused n) = Err (refusal_of n)
close_of (answered zero v) = Ok close-answer.Closed
close_of (answered (suc zero) v) = Ok close-answer.Conflict
close_of (answered (suc (suc c)) v) = Ok close-answer.Stopped
close_of (named c v o) = Ok close-answer.Stopped

close-back : (a : Result CloseAnswer Refusal) → close_of (replied close_reply a) ≡ a
close-back (Err r) = ap Err (refusal-back r)
close-back (Ok close-answer.Stopped) = refl
close-back (Ok close-answer.Conflict) = refl
close-back (Ok close-answer.Closed) = refl

pub close-apart : (a b : Result CloseAnswer Refusal) → replied close_reply a ≡ replied close_reply b → a ≡ b
close-apart = apart (replied close_reply) close_of close-back

abbrev contradicted_of : Reply → Contradicted
contradicted_of (refused n) = None
contradicted_of (answered zero v) = None
contradicted_of (answered (suc c) v) = Some (record { 0 = v })
contradicted_of (named c v o) = None

contradicted-back : (o : Contradicted) → contradicted_of (contradicted_reply o) ≡ o
contradicted-back None = refl
contradicted-back (Some l) = refl

pub contradicted-apart : (a b : Contradicted) → contradicted_reply a ≡ contradicted_reply b → a ≡ b
contradicted-apart = apart contradicted_reply contradicted_of contradicted-back

-- ---- Seed, deliver
abbrev transfer_of : Reply → Result TransferAnswer Refusal
transfer_of (refused n) = Err (refusal_of n)
transfer_of (answered zero v) = Ok transfer-answer.Done
transfer_of (answered (suc c) v) = Ok transfer-answer.Stopped
transfer_of (named c v o) = Ok transfer-answer.Stopped

transfer-back : (a : Result TransferAnswer Refusal) → transfer_of (replied transfer_reply a) ≡ a
transfer-back (Err r) = ap Err (refusal-back r)
transfer-back (Ok transfer-answer.Stopped) = refl
transfer-back (Ok transfer-answer.Done) = refl

pub transfer-apart : (a b : Result TransferAnswer Refusal) → replied transfer_reply a ≡ replied transfer_reply b → a ≡ b
transfer-apart = apart (replied transfer_reply) transfer_of transfer-back

-- ---- Decide
abbrev decide_of : Reply → Result Bool Refusal
decide_of (refused n) = Err (refusal_of n)
decide_of (answered zero v) = Ok false
decide_of (answered (suc c) v) = Ok true
decide_of (named c v o) = Ok true

decide-back : (a : Result Bool Refusal) → decide_of (replied decide_reply a) ≡ a
decide-back (Err r) = ap Err (refusal-back r)
decide-back (Ok true) = refl
decide-back (Ok false) = refl

pub decide-apart : (a b : Result Bool Refusal) → replied decide_reply a ≡ replied decide_reply b → a ≡ b
decide-apart = apart (replied decide_reply) decide_of decide-back
