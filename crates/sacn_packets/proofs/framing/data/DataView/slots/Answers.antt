use Rattle.std.proofs.Common.{length, ◌∙◌, ap, arith}
use Rattle.sacn_packets.specs.Data.{Data}
use Rattle.sacn_packets.proofs.LayersRead.{slots_there}
use Rattle.sacn_packets.proofs.framing.data.DataView.slots.Goals as goal

pub returns-clause-slots : goal.returns-clause-slots
returns-clause-slots c =
    let octets = c.self.inside.octets.now in
    rw c.packet_end.ensures (slots_there octets c.self.invariant.laid_out ∙ ap (λ (d : Data). d.slots) c.self.view_is)

pub returns-clause-bound : goal.returns-clause-bound
returns-clause-bound c =
    let octets = c.self.inside.octets.now in
    rw c.packet_end.ensures (omega (arith, ap length (slots_there octets c.self.invariant.laid_out), c.self.invariant.is_data.slots))
