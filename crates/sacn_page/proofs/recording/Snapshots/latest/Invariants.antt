use Rattle.std.proofs.Common.{◌≤◌}
use Rattle.std.specs.Prelude.{vec_len}
use Rattle.sacn_page.proofs.recording.Snapshots.latest.Given as goal

-- so many are still to be looked at
abbrev pub invariant-loop-at : goal.invariant-loop-at
invariant-loop-at l = l.at ≤ vec_len l.self.kept

abbrev pub decreases-loop-at : goal.decreases-loop-at
decreases-loop-at l = l.at
