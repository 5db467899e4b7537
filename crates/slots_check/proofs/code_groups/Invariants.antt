-- `slots_check::code_groups`. From the last code down: those so far are in order, and their groups counted. Assumes nothing.
use Rattle.std.proofs.Common.{◌≡◌, true, ◌+◌, ◌-◌, ◌≤◌, length, drop}
use Rattle.words.specs.Codes.{climbs, runs}
use Rattle.slots_check.proofs.code_groups.Given as goal

abbrev pub invariant-loop-i : goal.invariant-loop-i
invariant-loop-i l = record {
  some : 1 ≤ l.i;
  few : l.count + l.i ≤ length l.codes + 1;
  order : climbs l.atoms l.shift (drop (l.i - 1) l.codes) ≡ true;
  groups : l.count ≡ runs 7 (drop (l.i - 1) l.codes);
}
