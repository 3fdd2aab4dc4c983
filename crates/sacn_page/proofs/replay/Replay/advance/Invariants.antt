use Rattle.std.proofs.Common.{◌≤◌, ℕ}
use Rattle.sacn_page.specs.Replays.{IsOnTheWay}
use Rattle.sacn_page.proofs.replay.Replay.advance.Given as goal

-- it is on the way there
abbrev pub invariant-loop : goal.invariant-loop
invariant-loop g l = (l.initial.self.shown ≤ l.until) × IsOnTheWay g.R.Read.remaining l.until l.initial.self l.self
