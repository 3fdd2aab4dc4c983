use Rattle.sacn_node.proofs.PlainAnswers.{keeps_its_ports}
use Rattle.sacn_node.proofs.laws.keeps_its_ports.Goals as goal

pub returns : goal.returns
returns c = keeps_its_ports
