use Rattle.std.proofs.Common.{List, map, ap, ◌∙◌}
use Rattle.sacn_node.specs.declared.port_frame.PortFrame.{PortFrame}
use Rattle.sacn_node.specs.Setup.{port_numbers}
use Rattle.sacn_node.proofs.Looks.{all_but, unseen_numbers}
use Rattle.sacn_node.proofs.showing.Showing.new.Goals as goal

pub returns-clause-showing : goal.returns-clause-showing
returns-clause-showing c = record {
  numbers = ap (λ (ps : List PortFrame). map (λ p. p.port) ps) c.unseen_ports.ensures.ports ∙ unseen_numbers (port_numbers c.args.core.now.ports);
  current = all_but c.new.result.items c.args.core.now c.unseen_ports.result.items;
  quiet = λ none. absurd (cc);
}
