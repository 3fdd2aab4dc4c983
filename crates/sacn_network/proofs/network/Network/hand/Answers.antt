use Rattle.std.proofs.Common.{◌≤◌, length, ap, subst, sym, arith}
use Rattle.sacn_monitor.specs.declared.limits.TheConstants.{MAX_STREAMS}
use Rattle.sacn_monitor.specs.Books.{Book, with_datagram}
use Rattle.sacn_network.specs.Losses.{soonest_loss}
use Rattle.sacn_network.proofs.Tracking.{read_most}
use Rattle.sacn_network.proofs.Waking.{later_end, read_quiet}
use Rattle.sacn_network.proofs.network.Network.hand.Goals as goal

pub invariant_of-self : goal.invariant_of-self
invariant_of-self c =
    let n = c.self.inside in
    let later = later_end c.args.now n.ledger.monitor in
    let quiet = read_quiet n.wake c.args.sender (with_datagram c.args.now n.ledger.monitor) c.args.reading.now (omega (arith, later, c.self.invariant.0)) in
    let kept = rw (← c.take_reading-noted.ensures.noted, ← c.take_reading-noted.ensures.book) at quiet in
    let room = read_most c.args.sender (with_datagram c.args.now n.ledger.monitor) c.args.reading.now c.self.invariant.1 in (
      omega (arith, kept, c.min-self-inside.ensures, c.soonest_loss-soonest.ensures, ap (soonest_loss c.take_reading-noted.result) c.streams.ensures),
      subst (λ (b : Book). length b.streams ≤ MAX_STREAMS) (sym c.take_reading-noted.ensures.book) room,
    )
