use Rattle.std.proofs.Common.{◌∙◌, ap}
use Rattle.sacn_packets.specs.Data.{Data}
use Rattle.sacn_packets.proofs.LayersRead.{number_there}
use Rattle.sacn_packets.proofs.framing.data.DataView.number.Goals as goal

pub returns : goal.returns
returns c = number_there c.self.inside.octets.now c.self.invariant.laid_out ∙ ap (λ (d : Data). d.number) c.self.view_is
