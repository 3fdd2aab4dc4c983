use Rattle.std.proofs.Common.{map}
use Rattle.toml.specs.View.{view}
use Rattle.sacn_node.proofs.SetupLemmas.{ports_written}
use Rattle.sacn_node.proofs.setup.reading.value_phase.Goals as goal

pub last_phase-requires-clause-ports : goal.last_phase-requires-clause-ports
last_phase-requires-clause-ports c =
    ports_written c.args.version (map view c.port_rows.result.now) c.in_ok-ports.ports.items c.in_ok-ports.ensures
