-- 01, Refusal numbers by operation: the end of each operation, from what the code gives back and leaves in the lent slices.
-- Assumes nothing.
use Rattle.std.specs.Prelude.{Bool, true, false, List, ℕ, Result, Ok, Err}
use Rattle.model.specs.declared.Header.{Header}
use Rattle.model.specs.declared.Refusal.{Refusal}
use Rattle.words.specs.Region.{region}
use Rattle.meter.specs.declared.Meter.{Meter}
use Rattle.meter.specs.Meter.{made}
use Rattle.model.specs.declared.Deduction.{Deduction}
use Rattle.model.specs.declared.Deduction.TheVariants.{Nothing}
use Rattle.model.specs.declared.OutputCursor.{OutputCursor}
use Rattle.model.specs.declared.DeduceAnswer.TheVariants as deduce-answer
use Rattle.model.specs.declared.MakeResult.{MakeResult}
use Rattle.model.specs.declared.HitResult.{HitResult}
use Rattle.model.specs.declared.DeduceResult.{DeduceResult}
use Rattle.model.specs.declared.NextResult.{NextResult}
use Rattle.model.specs.declared.BeginResult.{BeginResult}
use Rattle.model.specs.declared.DecideResult.{DecideResult}
use Rattle.model.specs.Operations.{MakeEnd, HitEnd, DeduceEnd, NextEnd, BeginEnd, DecideEnd}
use Rattle.model.specs.Answers.{replied, make_reply, made_header, hit_reply, deduce_reply, next_reply, begin_reply, decide_reply}
use Rattle.contents.specs.Lent.{lent}
use Rattle.row_deduce.specs.Walks.{Walked, done, halted}

-- the result of a call that makes no tick, from its answer
abbrev pub unpriced : Result Header Refusal → MakeResult
unpriced a = record { answer = a; ticks = 0 }

abbrev pub under : Header → Result (Unit {0}) Refusal → HitResult
under h a = record { answer = a; header = h; ticks = 0 }

abbrev pub unpriced_decision : Result Bool Refusal → DecideResult
unpriced_decision a = record { answer = a; ticks = 0 }

abbrev pub make_end : MakeResult → List ℕ → List ℕ → MakeEnd
make_end r slots postings = record
    { answer = replied make_reply r.answer; header = made_header r.answer; slots = slots; postings = postings; ticks = r.ticks }

abbrev pub hit_end : HitResult → List ℕ → List ℕ → HitEnd
hit_end r slots postings = record { answer = replied hit_reply r.answer; ledger = lent r.header slots postings; ticks = r.ticks }

-- refused: nothing deduced, no tick made
abbrev pub refused_by : Refusal → Meter → DeduceResult
refused_by r m = record { answer = Err r; deduction = Nothing; meter = m; ticks = 0 }

-- refused: the cursor stays, no tick made
abbrev pub unmoved_by : Refusal → OutputCursor → Meter → NextResult
unmoved_by r k m = record { answer = Err r; cursor = k; meter = m; ticks = 0 }

-- done or stopped, as the row's own deduction was, with the ticks made since the meter stood at m
abbrev pub deduced_by : Meter → Walked Deduction → DeduceResult
deduced_by m (done d n) = record { answer = Ok deduce-answer.Done; deduction = d; meter = n; ticks = made m n }
deduced_by m (halted n) = record { answer = Ok deduce-answer.Stopped; deduction = Nothing; meter = n; ticks = made m n }

abbrev pub deduce_end : DeduceResult → DeduceEnd
deduce_end r = record { answer = replied (λ a. deduce_reply a r.deduction) r.answer; deduction = r.deduction; meter = r.meter; ticks = r.ticks }

abbrev pub output_end : NextResult → NextEnd
output_end r = record { answer = replied next_reply r.answer; cursor = r.cursor; meter = r.meter; ticks = r.ticks }

abbrev pub begin_end : BeginResult → List ℕ → List ℕ → BeginEnd
begin_end r slots postings = record { answer = replied begin_reply r.answer; ledger = lent r.header slots postings; ticks = r.ticks }

abbrev pub decide_end : DecideResult → List ℕ → List ℕ → DecideEnd
decide_end r held cut = record { answer = replied decide_reply r.answer; region = region held cut; ticks = r.ticks }
