use Rattle.std.proofs.Common.{Some, sym, ap, ◌∙◌}
use Rattle.std.proofs.lemmas.Bool.{ltb-true}
use Rattle.sacn_node.specs.Setup.{Port}
use Rattle.sacn_node.specs.Ports.{port_of}
use Rattle.sacn_node.proofs.PortPlaces.{found_at}
use Rattle.sacn_node.proofs.ports.find_port.Goals as goal

pub returns-in-Some : goal.returns-in-Some
returns-in-Some c =
    let ps = c.args.ports.now in
    let i = c.from.result in
    let found = c.in-Some.ensures.lookup in
    ap (λ k. port_of k ps) (sym c.if-number.true ∙ c.number.ensures ∙ ap (λ (p : Port). p.number) found.1)
    ∙ found_at ps i _ c.requires (ltb-true i _ (sym found.0))
    ∙ ap Some (sym found.1)
