use Rattle.std.proofs.Common.{◌≡◌, ◌≤◌, ◌+◌, ◌-◌, ◌^◌, min, drop}
use Rattle.sacn_findings.specs.Totals.{times_on}
use Rattle.sacn_findings.proofs.findings.total_of.Given as goal

-- what is counted, and then what the streams that are left add, is all
abbrev pub invariant-loop-stream : goal.invariant-loop-stream
invariant-loop-stream l =
    (l.total.times ≤ 2 ^ 64 - 1)
    × (min (l.total.times + times_on l.cid l.rule (drop l.stream-index l.streams)) (2 ^ 64 - 1) ≡ min (times_on l.cid l.rule l.streams) (2 ^ 64 - 1))
