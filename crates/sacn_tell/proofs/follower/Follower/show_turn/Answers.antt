use Rattle.std.proofs.Common.{◌∙◌, ap, sym, List}
use Rattle.sacn_monitor.specs.declared.stream.Stream.{Stream}
use Rattle.sacn_monitor.specs.Books.{Book}
use Rattle.sacn_node.specs.Showings.{ports_of}
use Rattle.sacn_tell.specs.Causes.{cause_among, reason_of}
use Rattle.sacn_tell.proofs.Turns.{still_staged, turn_staged, turn_told}
use Rattle.sacn_tell.proofs.follower.Follower.show_turn.Goals as goal

pub returns-then-not-take-clause-stage : goal.returns-then-not-take-clause-stage
returns-then-not-take-clause-stage g c =
    still_staged c.args.now c.args.reading.now c.args.self.now.stage c.in-Some.stage c.in-Some.is c.take.new.self.core (ports_of c.take.new.self.showing) (sym c.if-not-take.ensures.answer) c.take.ensures.core c.take.ensures.ports

pub returns-clause-told : goal.returns-clause-told
returns-clause-told g c =
    let why = c.cause_of-cause.ensures ∙ ap (λ (ss : List Stream). cause_among ss c.args.noted) (c.streams.ensures ∙ ap (λ (b : Book). b.streams) c.monitor.ensures) in
    turn_told c.args.now c.args.reading.now c.args.self.now.stage c.in-Some.stage c.in-Some.is c.show.result c.take.new.self.core (ports_of c.take.new.self.showing) (sym c.if-not-take.ensures.answer) c.take.ensures.core
    c.take.ensures.ports g.O.Write.contents c.args.self.now.writer.teller c.show.new.teller (reason_of c.cause_of-cause.result) (cause_among c.args.self.now.network.monitor.streams c.args.noted) why c.show.ensures.told

pub returns-clause-stage : goal.returns-clause-stage
returns-clause-stage g c =
    turn_staged c.args.now c.args.reading.now c.args.self.now.stage c.in-Some.stage c.in-Some.is c.show.result c.take.new.self.core (ports_of c.take.new.self.showing) (sym c.if-not-take.ensures.answer) c.take.ensures.core
    c.take.ensures.ports c.show.new.self.core (ports_of c.show.new.self.showing) c.show.ensures.core c.show.ensures.ports
