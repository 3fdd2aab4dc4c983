use Rattle.std.proofs.Common.{◌∙◌, ap, arith}
use Rattle.sacn_packets.specs.Page.{Page}
use Rattle.sacn_packets.proofs.PagesRead.{page_there}
use Rattle.sacn_packets.proofs.framing.page.PageView.page.Goals as goal

pub returns-clause-page : goal.returns-clause-page
returns-clause-page c = page_there c.self.inside.octets.now c.self.invariant.laid_out ∙ ap (λ (p : Page). p.page) c.self.view_is

pub returns-clause-bound : goal.returns-clause-bound
returns-clause-bound c = omega (arith, page_there c.self.inside.octets.now c.self.invariant.laid_out, c.self.invariant.is_page.page, ap (λ (p : Page). p.last) c.self.view_is)
