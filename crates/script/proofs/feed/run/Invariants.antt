-- `script::feed::run`. The bytes kept fit the buffer. Assumes nothing.
use Rattle.std.proofs.Common.{◌≤◌, length}
use Rattle.script.proofs.feed.run.Given as goal

abbrev pub invariant-loop : goal.invariant-loop
invariant-loop l = l.f.bytes ≤ length l.buf
