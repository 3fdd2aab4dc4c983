use Rattle.sacn_node.specs.Cores.{node_frame}
use Rattle.sacn_node.proofs.Looks.{stays_current}
use Rattle.sacn_node.proofs.port_frame.PortFrame.look.Goals as goal

pub returns-then-not-may_differ-clause-port : goal.returns-then-not-may_differ-clause-port
returns-then-not-may_differ-clause-port c =
    let p = c.args.self.now in
    stays_current p (node_frame p.port c.args.core.now) (c.requires.current c.if-not-may_differ.true)
