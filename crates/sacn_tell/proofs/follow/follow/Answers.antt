use Rattle.sacn_capture.specs.Streams.{counts_of, shown_of, to_come}
use Rattle.sacn_tell.specs.KeptLists.{listed_in}
use Rattle.sacn_tell.specs.Story.{Kept}
use Rattle.sacn_tell.proofs.Story.{counts_stay, ended_heard, frame_counted, frame_given, frame_heard, moment_on, nothing_counted, nothing_given, stopped_heard}
use Rattle.sacn_tell.proofs.follow.follow.Goals as goal

pub returns-in-Ok-None : goal.returns-in-Ok-None
returns-in-Ok-None g c =
    let kept : Kept = record { frames = counts_of c.loop.capture; book = c.loop.follower.network.monitor; listed = listed_in c.loop.follower.listings } in
    record {
      told = counts_stay c.args.port (to_come g.R.Read.remaining c.args.capture.now) c.loop.progress kept (counts_of c.loop.capture) _
          (nothing_counted c.next.result _ _ _ c.in-Ok-None.is c.in-Ok-None.field-0-is c.next.follows.holds-at-none.1)
          (ended_heard c.args.port (to_come g.R.Read.remaining c.args.capture.now) (to_come g.R.Read.remaining c.loop.capture) c.loop.progress kept
          c.loop.invariant.heard (nothing_given c.next.result _ _ c.in-Ok-None.is c.in-Ok-None.field-0-is c.next.ensures.told) c.loop.invariant.stopped);
      fault = tt;
    }

pub returns-in-Err : goal.returns-in-Err
returns-in-Err g c =
    let kept : Kept = record { frames = counts_of c.loop.capture; book = c.loop.follower.network.monitor; listed = listed_in c.loop.follower.listings } in
    record {
      told = stopped_heard c.args.port (to_come g.R.Read.remaining c.args.capture.now) (to_come g.R.Read.remaining c.loop.capture) _ c.in-Err.fault c.loop.progress c.stop.result kept _
          c.loop.invariant.heard c.in-Err.ensures.told.1 c.stop.ensures;
      fault = tt;
    }

pub loop-preserved : goal.loop-preserved
loop-preserved g c =
    let new = c.next.follows.lender-at-none in
    let old : Kept = record { frames = counts_of c.loop.capture; book = c.loop.follower.network.monitor; listed = listed_in c.loop.follower.listings } in
    let kept : Kept = record { frames = counts_of new; book = c.take.new.follower.network.monitor; listed = listed_in c.take.new.follower.listings } in
    record {
      stopped = search;
      moment = moment_on c.args.port (shown_of c.in-Ok-Some.frame) c.loop.progress c.take.new.self c.take.ensures.timeline c.take.ensures.elsewhere
          c.loop.follower.network.monitor.moment c.take.new.follower.network.monitor.moment c.loop.invariant.moment c.take.ensures.moment;
      heard = frame_heard c.args.port (shown_of c.in-Ok-Some.frame) c.loop.progress c.take.new.self c.take.ensures.timeline c.take.ensures.elsewhere
          (to_come g.R.Read.remaining c.args.capture.now) (to_come g.R.Read.remaining c.loop.capture) (to_come g.R.Read.remaining new) c.loop.follower.network.monitor.moment old kept
          c.loop.invariant.heard (frame_given c.next.result c.in-Ok-Some.field-0 c.in-Ok-Some.frame _ _ c.in-Ok-Some.is c.in-Ok-Some.field-0-is c.next.follows.holds-at-none.0)
          c.loop.invariant.moment c.in_ok-take-in-Ok-Some.ensures.taken
          (frame_counted c.next.result c.in-Ok-Some.field-0 c.in-Ok-Some.frame _ _ c.in-Ok-Some.is c.in-Ok-Some.field-0-is c.next.follows.holds-at-none.1)
          c.in_ok-take-in-Ok-Some.ensures.listed;
    }
