use Rattle.std.proofs.Common.{◌≡◌, ◌≤◌, true, length, rules}
use Rattle.std.specs.List.{list_all}
use Rattle.sacn_node.specs.declared.limits.TheConstants.{MAX_PORTS}
use Rattle.sacn_node.specs.WholeUniverses.{is_universe}
use Rattle.sacn_node.proofs.WholePorts.{whole_keeps_limits}
use Rattle.sacn_node.proofs.setup.whole.setup_of_universes.Goals as goal

pub new-requires : goal.new-requires
new-requires c =
    let good : list_all is_universe c.args.universes.now ≡ true = search rules in
    let few : length c.args.universes.now ≤ MAX_PORTS = search rules in
    rw c.in_ok-ports.ensures (whole_keeps_limits c.args.universes.now good few)
