use Rattle.std.proofs.Common.{ℕ, ◌==◌, List, ◌∙◌, ap}
use Rattle.std.specs.List.{before_first}
use Rattle.sacn_packets.specs.Page.{Page}
use Rattle.sacn_packets.proofs.PagesRead.{name_there}
use Rattle.sacn_packets.proofs.framing.page.PageView.name.Goals as goal

pub returns : goal.returns
returns c =
    let field = c.name_in.ensures ∙ name_there c.self.inside.octets.now c.self.invariant.laid_out ∙ ap (λ (p : Page). p.name) c.self.view_is in
    c.up_to_nul.ensures ∙ ap (λ (xs : List ℕ). before_first (λ octet. octet == 0) xs) field
