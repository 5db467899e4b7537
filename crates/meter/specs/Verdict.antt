-- 01, Meter: the answer to a question whose reads are paid for one by one. Assumes nothing.

pub data Verdict : Type 0 where
  Yes No Declined Stopped : Verdict
