use Rattle.std.proofs.Common.{◌∙◌, ap}
use Rattle.sacn_packets.specs.Data.{Data}
use Rattle.sacn_packets.proofs.LayersRead.{name_there}
use Rattle.sacn_packets.proofs.framing.data.DataView.name_field.Goals as goal

pub returns : goal.returns
returns c = c.name_field_in.ensures ∙ name_there c.self.inside.octets.now c.self.invariant.laid_out ∙ ap (λ (d : Data). d.name) c.self.view_is
