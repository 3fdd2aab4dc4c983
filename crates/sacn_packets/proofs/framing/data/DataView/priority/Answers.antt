use Rattle.std.proofs.Common.{◌∙◌, ap, arith}
use Rattle.sacn_packets.specs.Data.{Data}
use Rattle.sacn_packets.proofs.LayersRead.{priority_there}
use Rattle.sacn_packets.proofs.framing.data.DataView.priority.Goals as goal

pub returns-clause-priority : goal.returns-clause-priority
returns-clause-priority c = priority_there c.self.inside.octets.now c.self.invariant.laid_out ∙ ap (λ (d : Data). d.priority) c.self.view_is

pub returns-clause-bound : goal.returns-clause-bound
returns-clause-bound c = omega (arith, priority_there c.self.inside.octets.now c.self.invariant.laid_out, c.self.invariant.is_data.priority)
