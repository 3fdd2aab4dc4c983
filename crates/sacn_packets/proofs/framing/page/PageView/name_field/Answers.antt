use Rattle.std.proofs.Common.{◌∙◌, ap}
use Rattle.sacn_packets.specs.Page.{Page}
use Rattle.sacn_packets.proofs.PagesRead.{name_there}
use Rattle.sacn_packets.proofs.framing.page.PageView.name_field.Goals as goal

pub returns : goal.returns
returns c = c.name_field_in.ensures ∙ name_there c.self.inside.octets.now c.self.invariant.laid_out ∙ ap (λ (p : Page). p.name) c.self.view_is
