use Rattle.std.proofs.Common.{◌∙◌, ap, arith}
use Rattle.sacn_packets.specs.Data.{Data}
use Rattle.sacn_packets.proofs.LayersRead.{universe_there}
use Rattle.sacn_packets.proofs.framing.data.DataView.universe.Goals as goal

pub returns-clause-universe : goal.returns-clause-universe
returns-clause-universe c = c.u16_at.ensures ∙ universe_there c.self.inside.octets.now c.self.invariant.laid_out ∙ ap (λ (d : Data). d.universe) c.self.view_is

pub returns-clause-least : goal.returns-clause-least
returns-clause-least c = omega (arith, c.u16_at.ensures, universe_there c.self.inside.octets.now c.self.invariant.laid_out, c.self.invariant.is_data.universe.0)

pub returns-clause-most : goal.returns-clause-most
returns-clause-most c = omega (arith, c.u16_at.ensures, universe_there c.self.inside.octets.now c.self.invariant.laid_out, c.self.invariant.is_data.universe.1)
