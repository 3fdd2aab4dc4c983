use Rattle.std.proofs.Common.{◌∙◌, ap}
use Rattle.sacn_packets.specs.Page.{Page}
use Rattle.sacn_packets.proofs.PagesRead.{last_there}
use Rattle.sacn_packets.proofs.framing.page.PageView.last.Goals as goal

pub returns : goal.returns
returns c = last_there c.self.inside.octets.now c.self.invariant.laid_out ∙ ap (λ (p : Page). p.last) c.self.view_is
