use Rattle.std.proofs.Common.{◌≡◌, ◌≤◌, ◌+◌, ◌-◌, ◌/◌}
use Rattle.std.specs.Prelude.{vec_len}
use Rattle.sacn_page.proofs.recording.Snapshots.thin.Given as goal

-- of those behind each second one is left
abbrev pub invariant-loop-at : goal.invariant-loop-at
invariant-loop-at l = (vec_len l.self.kept ≡ l.at + (vec_len l.initial.self.kept / 2 - l.at / 2)) × (l.at ≤ vec_len l.initial.self.kept) × (l.self.spacing ≡ l.initial.self.spacing)

abbrev pub decreases-loop-at : goal.decreases-loop-at
decreases-loop-at l = l.at
