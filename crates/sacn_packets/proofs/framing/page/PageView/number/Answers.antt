use Rattle.std.proofs.Common.{length, get_or, ◌∙◌, ap, arith}
use Rattle.sacn_packets.specs.Page.{Page}
use Rattle.sacn_packets.proofs.PagesRead.{number_there, count_there}
use Rattle.sacn_packets.proofs.framing.page.PageView.number.Goals as goal

pub u16_at-requires : goal.u16_at-requires
u16_at-requires c =
    let octets = c.self.inside.octets.now in
    let is = c.self.invariant.laid_out in
    omega (arith, c.requires, ap (λ (p : Page). length p.numbers) c.self.view_is, count_there octets is, is.whole, is.least)

pub returns : goal.returns
returns c =
    let octets = c.self.inside.octets.now in
    let is = c.self.invariant.laid_out in
    c.u16_at.ensures ∙ number_there octets c.args.i is (omega (arith, c.requires, ap (λ (p : Page). length p.numbers) c.self.view_is)) ∙ ap (λ (p : Page). get_or p.numbers c.args.i 0) c.self.view_is
