use Rattle.std.proofs.Common.{ap}
use Rattle.sacn_packets.specs.PacketReading.{reading_packet}
use Rattle.sacn_node.proofs.Looks.{taken_showing}
use Rattle.sacn_node.proofs.showing.Showing.take_octets.Goals as goal

pub returns-clause-showing : goal.returns-clause-showing
returns-clause-showing c =
    let told = c.take_and_tell-change.ensures in
    let noted = c.note.ensures in
    taken_showing c.args.self.now c.note.new.self c.args.core.now c.take_and_tell-change.new.self (reading_packet c.args.octets.now) c.args.now _ _
    told.core told.lost told.universe noted.all noted.grows noted.lost noted.named (ap (λ ps. ps.items) noted.ports) noted.news c.requires
