use Rattle.sacn_node.proofs.Looks.{stays}
use Rattle.sacn_node.proofs.port_frame.PortFrame.set.Goals as goal

pub returns-else-self : goal.returns-else-self
returns-else-self c = stays c.args.self.now c.args.frame.now c.is_shown.result c.is_shown.ensures c.if-self.false
