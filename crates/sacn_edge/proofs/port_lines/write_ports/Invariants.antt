use Rattle.std.proofs.Common.{◌≡◌, false, take}
use Rattle.sacn_edge.specs.Additions.{Adds}
use Rattle.sacn_edge.specs.PortLines.{ports_text}
use Rattle.sacn_edge.proofs.port_lines.write_ports.Given as goal

-- the ports so far are written
abbrev pub invariant-loop-port : goal.invariant-loop-port
invariant-loop-port g l = record {
  works : g.O.Out.failed l.out ≡ false;
  told : Adds (g.O.Out.Tells l.initial.out) (g.O.Out.Tells l.out) (ports_text l.fn.moment (take l.port-index l.fn.ports));
}
