-- Each piece is put where it fits.
use Rattle.std.proofs.Common.{◌≤◌, length}
use Rattle.sheet_run.proofs.repeat.Given as goal

abbrev pub invariant-loop : goal.invariant-loop
invariant-loop l = l.at ≤ length l.bytes
