use Rattle.std.proofs.Common.{◌≡◌, ◌<◌, ◌≤◌, ℕ, drop, length, get_or}
use Rattle.sacn_node.specs.Cores.{core_slots}
use Rattle.sacn_node.specs.Ports.{octet_at}
use Rattle.sacn_node.proofs.ports.fill_frame.Given as goal

-- the ranges from `at` on are shown
abbrev pub invariant-loop-at : goal.invariant-loop-at
invariant-loop-at l = record {
  within : l.at ≤ length l.ranges;
  long : length l.frame ≡ 513;
  core : l.tables ≡ l.initial.tables;
  shown : (k : ℕ) → k < 513 → get_or l.frame k 0 ≡ octet_at (core_slots l.initial.tables) (drop l.at l.ranges) k;
}

abbrev pub decreases-loop-at : goal.decreases-loop-at
decreases-loop-at l = l.at
