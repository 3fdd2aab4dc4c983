use Rattle.std.proofs.Common.{◌≡◌, None}
use Rattle.sacn_capture.specs.Streams.{counts_of, to_come}
use Rattle.sacn_tell.specs.KeptLists.{listed_in}
use Rattle.sacn_tell.proofs.Story.{IsUpTo}
use Rattle.sacn_tell.proofs.follow.follow.Given as goal

-- what was heard, and then what is still to come, is all
abbrev pub invariant-loop : goal.invariant-loop
invariant-loop g l = record {
  stopped : l.progress.stopped ≡ None;
  moment : l.follower.network.monitor.moment ≡ l.progress.timeline.now;
  heard : IsUpTo l.port (to_come g.R.Read.remaining l.fn.capture) (to_come g.R.Read.remaining l.capture) l.progress
      (record { frames = counts_of l.capture; book = l.follower.network.monitor; listed = listed_in l.follower.listings });
}
