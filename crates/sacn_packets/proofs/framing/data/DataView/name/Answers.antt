use Rattle.std.proofs.Common.{ℕ, ◌==◌, List, ◌∙◌, ap}
use Rattle.std.specs.List.{before_first}
use Rattle.sacn_packets.specs.Data.{Data}
use Rattle.sacn_packets.proofs.LayersRead.{name_there}
use Rattle.sacn_packets.proofs.framing.data.DataView.name.Goals as goal

pub returns : goal.returns
returns c =
    let field = c.name_in.ensures ∙ name_there c.self.inside.octets.now c.self.invariant.laid_out ∙ ap (λ (d : Data). d.name) c.self.view_is in
    c.up_to_nul.ensures ∙ ap (λ (xs : List ℕ). before_first (λ octet. octet == 0) xs) field
