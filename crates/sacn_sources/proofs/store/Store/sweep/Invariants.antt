use Rattle.std.proofs.Common.{◌≡◌, ◌≤◌, length, drop}
use Rattle.sacn_sources.specs.Rows.{row_renewed}
use Rattle.sacn_sources.specs.LatestMerge.{loses_live}
use Rattle.sacn_sources.proofs.Sweeps.{swept}
use Rattle.sacn_sources.proofs.store.Store.sweep.Given as goal

-- from `at` on only the sources that are not lost are left
abbrev pub invariant-loop-at : goal.invariant-loop-at
invariant-loop-at l = record {
  within : l.at ≤ length l.initial.self.rows;
  moment : l.self.moment ≡ l.initial.self.moment;
  swept : l.self.rows ≡ swept (row_renewed l.initial.self.moment) l.initial.self.rows l.at;
  live : l.live ≡ loses_live l.initial.self.moment (drop l.at l.initial.self.rows);
}

abbrev pub decreases-loop-at : goal.decreases-loop-at
decreases-loop-at l = l.at
