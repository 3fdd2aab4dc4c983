use Rattle.std.proofs.Common.{◌≤◌, length}
use Rattle.sacn_machine.proofs.sys.read_start.Given as goal

-- what was read is within the buffer
abbrev pub invariant-loop : goal.invariant-loop
invariant-loop l = l.filled ≤ length l.buffer
