-- What each leaf function for C leaves in the words that it was lent, from the leaf's own definition; those that it may write stand in the
-- order of its parameters. Assumes nothing.
use Rattle.std.specs.Prelude.{Bool, true, false, ◌&&◌, List, [], ◌∷◌, ℕ, zero, suc, ◌-◌, eqb, leb, length, get_or}
use Rattle.std.specs.Prelude.{Result, Ok, Err}
use Rattle.std.proofs.Math.Option.{Option, none, some}
use Rattle.words.specs.Bit.{max_word}
use Rattle.words.specs.Literal.{code}
use Rattle.words.specs.Region.{max_atoms, Region, region, is_region, Decision, decision_on, next_from}
use Rattle.meter.specs.declared.Meter.{Meter}
use Rattle.meter.specs.declared.Stopped as error
use Rattle.meter.specs.declared.Account.{Account}
use Rattle.meter.specs.declared.Account.TheVariants.{Remaining, Share}
use Rattle.meter.specs.Judged.{Judged}
use Rattle.meter.specs.Verdict.{Verdict}
use Rattle.meter.specs.Verdict as verdict
use Rattle.meter.specs.Meter.{reads_left, ticks, pay, judged}
use Rattle.model.specs.declared.Deduction.{Deduction}
use Rattle.model.specs.declared.Deduction.TheVariants.{Nothing, Force, Require}
use Rattle.model.specs.Records.{Row, is_row, slot_words, max_outputs}
use Rattle.model.specs.Rows.{includes, includes_reads, subsumes, subsumes_reads, prepare_reads}
use Rattle.model.specs.Union.{joins, join_reads, grown}
use Rattle.model.specs.declared.Source.TheVariants.{Founded}
use Rattle.model.specs.Slots.{slot_of}
use Rattle.model.specs.Deduction.{Next, stopped, end, output, Published, next_output, deduction, deduction_ticks}
use Rattle.model.specs.Operations.{cursor_ok}
use Rattle.slots.specs.Layout.{proposal}
use Rattle.slots.specs.Layout.{row_of}
use Rattle.row_merge.specs.Merge.{if_yes}
use Rattle.row_write.specs.Forms.{new_entry}
use Rattle.row_deduce.specs.Walks.{Walked, done, halted, once}
use Rattle.model.specs.Answers.{flag_word}
use Rattle.wire.specs.Replies.{Left, left}
use Rattle.wire.specs.Words.{flag_in, cursor_in, cursor_words}

-- ---- the words `paying`: the reads of the account, whether it is the sharing one, the meter's charged and limit
abbrev pub account_in : List ℕ → Account
account_in ws =
    elim (flag_in (get_or ws 1 0)) [ true ↦ Share (record { 0 = get_or ws 0 0 }) | false ↦ Remaining (record { 0 = get_or ws 0 0 }) ]

abbrev pub meter_of : List ℕ → Meter
meter_of ws = record { charged = get_or ws 2 0; limit = get_or ws 3 0 }

-- ---- the words `answer`: the answer's number, its value, the reads left, the meter's charged
abbrev pub verdict_number : Verdict → ℕ
verdict_number verdict.Stopped = 0
verdict_number verdict.Declined = 1
verdict_number verdict.No = 2
verdict_number verdict.Yes = 3

abbrev pub is_share : Account → Bool
is_share (Remaining c) = false
is_share (Share s) = true

abbrev pub judged_words : Judged → List ℕ
judged_words j = verdict_number j.verdict ∷ flag_word (is_share j.account) ∷ reads_left j.account ∷ j.meter.charged ∷ []

abbrev pub next_words : Next → ℕ → List ℕ
next_words stopped charged = 0 ∷ 0 ∷ 0 ∷ charged ∷ []
next_words end charged = 1 ∷ 0 ∷ 0 ∷ charged ∷ []
next_words (output c) charged = 2 ∷ c ∷ 0 ∷ charged ∷ []

abbrev pub said_words : Deduction → ℕ → List ℕ
said_words Nothing charged = 1 ∷ 0 ∷ 0 ∷ charged ∷ []
said_words Force charged = 2 ∷ 0 ∷ 0 ∷ charged ∷ []
said_words (Require l o) charged = 3 ∷ l.0 ∷ o.0 ∷ charged ∷ []

abbrev pub deduced_words : Result Deduction error.Stopped → ℕ → List ℕ
deduced_words (Ok d) charged = said_words d charged
deduced_words (Err e) charged = 0 ∷ 0 ∷ 0 ∷ charged ∷ []

abbrev pub next_from_words : Option ℕ → List ℕ
next_from_words none = 0 ∷ 0 ∷ 0 ∷ 0 ∷ []
next_from_words (some a) = 1 ∷ a ∷ 0 ∷ 0 ∷ []

-- ---- what was not given: the first test that fails has its number for result, and every word is as it was
abbrev pub no_row : ℕ
no_row = 1

abbrev pub no_region : ℕ
no_region = 2

abbrev pub no_cursor : ℕ
no_cursor = 3

abbrev pub no_choice : ℕ
no_choice = 4

abbrev pub no_slot : ℕ
no_slot = 5

unfoldable pub unless : List (Bool × ℕ) → List (List ℕ) → List (List ℕ) → Left
unless [] old new = left 0 new
unless (t ∷ ts) old new = elim t.0 [ true ↦ unless ts old new | false ↦ left t.1 old ]

unfoldable pub row_fits : ℕ → Row → Bool
row_fits n r = leb n max_atoms && is_row n r

-- ---- a call made several times, each with what the last left: so many after the first
unfoldable pub again : {S E : Type 0} → (S → E) → (E → S) → ℕ → S → E
again f next zero s = f s
again f next (suc n) s = again f next n (next (f s))

-- a question of so many reads
abbrev pub asked : Bool → ℕ → Account × Meter → Judged
asked b n s = judged b (pay n s.0 s.1)

abbrev pub payer : Judged → Account × Meter
payer j = (j.account, j.meter)

abbrev pub asked_times : Bool → ℕ → ℕ → Account → Meter → Judged
asked_times b n times a m = again (asked b n) payer (times - 1) (a, m)

-- ---- prepare: the form of a row and its reads; the slot has its words where they are paid
pub record Prepared : Type 0 where
  pub judged : Judged
  pub slot : List ℕ

abbrev pub prepared : Judged → List ℕ → Prepared
prepared j s = record { judged = j; slot = s }

abbrev pub prepared_by : Row → Judged → List ℕ → Prepared
prepared_by r j s = prepared j (if_yes j.verdict (slot_of (new_entry r 0 0 Founded)) s)

abbrev pub prepare_once : Row → Account × Meter × List ℕ → Prepared
prepare_once r s = prepared_by r (judged true (pay (prepare_reads r) s.0 s.1)) s.2

abbrev pub preparer : Prepared → Account × Meter × List ℕ
preparer e = (e.judged.account, e.judged.meter, e.slot)

abbrev pub prepare_times : Row → ℕ → Account → Meter → List ℕ → Prepared
prepare_times r times a m s = again (prepare_once r) preparer (times - 1) (a, m, s)

unfoldable pub prepare_call : ℕ → List ℕ → List ℕ → List ℕ → ℕ → List ℕ → List ℕ → Left
prepare_call atoms cs os paying times slot answer =
    let e : Prepared = prepare_times (row_of cs os) times (account_in paying) (meter_of paying) slot in
    unless ((row_fits atoms (row_of cs os), no_row) ∷ (eqb (length slot) slot_words, no_slot) ∷ [])
    (slot ∷ answer ∷ []) (e.slot ∷ judged_words e.judged ∷ [])

-- ---- includes, subsumes; whichever form the rows are in, 3 at most of the four ways to choose them
unfoldable pub includes_call : ℕ → List ℕ → List ℕ → ℕ → List ℕ → ℕ → List ℕ → Left
includes_call atoms cs ws forms paying times answer =
    unless ((row_fits atoms (row_of [] cs), no_row) ∷ (row_fits atoms (row_of [] ws), no_row) ∷ (leb forms 3, no_choice) ∷ [])
    (answer ∷ [])
    (judged_words (asked_times (includes cs ws) (includes_reads cs ws) times (account_in paying) (meter_of paying)) ∷ [])

abbrev pub subsumes_words : Row → Row → List ℕ → ℕ → List ℕ
subsumes_words r s paying times =
    judged_words (asked_times (subsumes r s) (subsumes_reads r s) times (account_in paying) (meter_of paying))

unfoldable pub subsumes_call : ℕ → Row → Row → ℕ → List ℕ → ℕ → List ℕ → Left
subsumes_call atoms r s turned paying times answer =
    unless ((row_fits atoms r, no_row) ∷ (row_fits atoms s, no_row) ∷ []) (answer ∷ [])
    ((elim (flag_in turned) [ true ↦ subsumes_words s r paying times | false ↦ subsumes_words r s paying times ]) ∷ [])

-- ---- union_outputs: the slot has the other row's proposal after it, grown where the answer is Yes
abbrev pub united_by : Row → Row → Judged → List ℕ
united_by r t j = if_yes j.verdict (proposal (grown r t)) (proposal t)

abbrev pub union_times : ℕ → Row → Row → ℕ → Account → Meter → Judged
union_times most r t times a m = asked_times (joins most r t) (join_reads most r t) times a m

unfoldable pub union_call : ℕ → Row → Row → ℕ → List ℕ → ℕ → List ℕ → List ℕ → Left
union_call atoms r t most paying times slot answer =
    let j : Judged = union_times most r t times (account_in paying) (meter_of paying) in
    unless
    ((row_fits atoms r, no_row) ∷ (row_fits atoms t, no_row) ∷ (leb most max_outputs, no_choice) ∷ (eqb (length slot) slot_words, no_slot) ∷ [])
    (slot ∷ answer ∷ []) (united_by r t j ∷ judged_words j ∷ [])

-- ---- deduction
abbrev pub deduce_once : Region → Row → Meter → Walked Deduction
deduce_once q r m = once (deduction q r) (ticks (deduction_ticks q r) m)

abbrev pub meter_after : {A : Type 0} → Walked A → Meter
meter_after (done a m) = m
meter_after (halted m) = m

abbrev pub deduce_times : Region → Row → ℕ → Meter → Walked Deduction
deduce_times q r times m = again (deduce_once q r) meter_after (times - 1) m

abbrev pub walked_words : Walked Deduction → List ℕ
walked_words (done d m) = said_words d m.charged
walked_words (halted m) = 0 ∷ 0 ∷ 0 ∷ m.charged ∷ []

unfoldable pub deduction_call : ℕ → Row → List ℕ → List ℕ → List ℕ → ℕ → List ℕ → Left
deduction_call atoms r held cut paying times answer =
    unless ((row_fits atoms r, no_row) ∷ (is_region atoms (region held cut), no_region) ∷ []) (answer ∷ [])
    (walked_words (deduce_times (region held cut) r times (meter_of paying)) ∷ [])

-- ---- next_output
abbrev pub next_left : Published → List (List ℕ)
next_left x = cursor_words x.cursor ∷ next_words x.next x.meter.charged ∷ []

unfoldable pub next_call : ℕ → Row → List ℕ → List ℕ → List ℕ → List ℕ → List ℕ → Left
next_call atoms r held cut cursor paying answer =
    unless
    ((row_fits atoms r, no_row) ∷ (is_region atoms (region held cut), no_region) ∷ (cursor_ok r (cursor_in cursor), no_cursor) ∷ [])
    (cursor ∷ answer ∷ []) (next_left (next_output (region held cut) r (cursor_in cursor) (meter_of paying)))

-- ---- decide: 1 if the atom was decided, else 0
abbrev pub decide_left : Decision → List (List ℕ)
decide_left d = d.after.held ∷ d.after.cut ∷ (flag_word d.answer ∷ 0 ∷ 0 ∷ 0 ∷ []) ∷ []

unfoldable pub decide_call : ℕ → List ℕ → List ℕ → ℕ → ℕ → List ℕ → Left
decide_call atoms held cut atom value answer =
    unless ((is_region atoms (region held cut), no_region) ∷ []) (held ∷ cut ∷ answer ∷ [])
    (decide_left (decision_on atoms held cut (code atom (flag_in value))))

-- ---- next_from
abbrev pub found_call : List ℕ → ℕ → Left
found_call ws from = left 0 (next_from_words (next_from max_word ws from) ∷ [])
