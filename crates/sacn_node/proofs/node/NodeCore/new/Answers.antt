use Rattle.std.proofs.Common.{sym, subst, ◌∙◌, ap}
use Rattle.sacn_node.specs.Setup.{universes}
use Rattle.sacn_packets.specs.Universe.{Rising}
use Rattle.sacn_node.proofs.Guarantees.{universes_rise}
use Rattle.sacn_node.proofs.node.NodeCore.new.Goals as goal

pub new-requires-clause-rising : goal.new-requires-clause-rising
new-requires-clause-rising c = subst Rising (sym (c.as_slice.ensures.value ∙ c.in_ok-universes.ensures ∙ ap universes c.ports-ports.ensures.ports)) (universes_rise c.args.setup.now.ports)
