use Rattle.std.proofs.Common.{◌≤◌, length, map, rules}
use Rattle.std.proofs.lemmas.List.{length-map}
use Rattle.toml.specs.View.{view}
use Rattle.sacn_console.specs.declared.limits.TheConstants.{MAX_DESTINATIONS}
use Rattle.sacn_console.proofs.ShowLemmas.{ports_written}
use Rattle.sacn_console.proofs.show.ports.send_to_in.Goals as goal

pub destinations_of-requires : goal.destinations_of-requires
destinations_of-requires c =
    let few : length c.args.values.now ≤ MAX_DESTINATIONS = search rules in
    ports_written (map view c.args.values.now) c.in_ok-ports.ports.items c.in_ok-ports.ensures (rw length-map few)
