use Rattle.std.proofs.Common.{Option, Result, subst}
use Rattle.std.specs.Prelude.{option_map}
use Rattle.sacn_capture.specs.declared.faults.CaptureFault.{CaptureFault}
use Rattle.sacn_capture.specs.declared.stream.Record.{Record}
use Rattle.sacn_capture.specs.Check.{map_ok}
use Rattle.sacn_capture.specs.Streams.{Gives, shown_of, to_come}
use Rattle.sacn_page.proofs.Replaying.{fault_stops}
use Rattle.sacn_page.proofs.replay.next_of.Goals as goal

pub returns-in-Err : goal.returns-in-Err
returns-in-Err g c later known =
    let before = to_come g.R.Read.remaining c.args.capture.now in
    let after = to_come g.R.Read.remaining c.next.follows.lender-at-none in
    let gives = subst (λ (r : Result (Option Record) CaptureFault). Gives (map_ok (λ x. option_map shown_of x) r) before after) c.in-Err.is c.next.follows.holds-at-none.0 in
    fault_stops later c.args.port (record { clock = c.args.clock; known = known }) c.in-Err.fault c.stopped_at.result c.args.octets.now.items _ before _ c.stopped_at.ensures gives
