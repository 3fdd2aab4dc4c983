use Rattle.std.proofs.Common.{◌∙◌, ap}
use Rattle.sacn_packets.specs.Data.{Data}
use Rattle.sacn_packets.proofs.LayersRead.{start_there}
use Rattle.sacn_packets.proofs.framing.data.DataView.start.Goals as goal

pub returns : goal.returns
returns c = start_there c.self.inside.octets.now c.self.invariant.laid_out ∙ ap (λ (d : Data). d.start) c.self.view_is
