use Rattle.std.proofs.Common.{length, ◌∙◌, ap, arith}
use Rattle.sacn_packets.specs.Page.{Page}
use Rattle.sacn_packets.proofs.PagesRead.{count_there}
use Rattle.sacn_packets.proofs.framing.page.PageView.count.Goals as goal

pub returns-clause-count : goal.returns-clause-count
returns-clause-count c =
    rw c.packet_end.ensures (count_there c.self.inside.octets.now c.self.invariant.laid_out ∙ ap (λ (p : Page). length p.numbers) c.self.view_is)

pub returns-clause-bound : goal.returns-clause-bound
returns-clause-bound c =
    rw c.packet_end.ensures (omega (arith, count_there c.self.inside.octets.now c.self.invariant.laid_out, c.self.invariant.is_page.count))
