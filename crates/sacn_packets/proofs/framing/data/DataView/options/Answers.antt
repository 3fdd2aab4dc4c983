use Rattle.std.proofs.Common.{ℕ, ◌∙◌, ap}
use Rattle.sacn_packets.specs.Data.{Data}
use Rattle.sacn_packets.specs.FramingText.{is_set}
use Rattle.sacn_packets.proofs.LayersRead.{options_there}
use Rattle.sacn_packets.proofs.framing.data.DataView.options.Goals as goal

pub returns-clause-preview : goal.returns-clause-preview
returns-clause-preview c = ap (λ (octet : ℕ). is_set octet 7) (options_there c.self.inside.octets.now c.self.invariant.laid_out) ∙ ap (λ (d : Data). d.preview) c.self.view_is

pub returns-clause-terminated : goal.returns-clause-terminated
returns-clause-terminated c = ap (λ (octet : ℕ). is_set octet 6) (options_there c.self.inside.octets.now c.self.invariant.laid_out) ∙ ap (λ (d : Data). d.terminated) c.self.view_is
