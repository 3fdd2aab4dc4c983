use Rattle.std.proofs.Common.{◌≡◌, ◌-◌, ◌^◌, min, sum, take}
use Rattle.sacn_tell.proofs.report.total.Given as goal

-- the counts so far
abbrev pub invariant-loop-count : goal.invariant-loop-count
invariant-loop-count l = l.sum ≡ min (sum (take l.count-index l.counts)) (2 ^ 64 - 1)
