use Rattle.std.proofs.Common.{List, All, sym, subst, ap, ◌∙◌}
use Rattle.sacn_node.specs.declared.setup.SlotRange.{SlotRange}
use Rattle.sacn_node.specs.Setup.{Port}
use Rattle.sacn_node.specs.Ports.{IsShown, port_of}
use Rattle.sacn_node.proofs.Guarantees.{found_has}
use Rattle.sacn_node.proofs.node.NodeCore.frame_now.Goals as goal

pub fill_frame-requires-clause-ranges : goal.fill_frame-requires-clause-ranges
fill_frame-requires-clause-ranges c =
    subst (λ (rs : List SlotRange). All IsShown rs) (sym c.ranges-2.ensures)
    (found_has (λ (p : Port). All IsShown p.ranges) c.args.port c.self.inside.ports.items c.in_ok-port.port.now
    (ap (port_of c.args.port) (sym c.deref.ensures.value) ∙ (rw c.in_ok-port.ensures.ok_part at c.find_port.ensures)) c.self.invariant.0.shown)
