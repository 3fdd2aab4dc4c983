-- The setup of a node that shows whole universes, made without a text (profile).
use Rattle.std.specs.Prelude.{◌&&◌, ◌+◌, ℕ, nat_le, nat_lt, Bool, not, List, [], ◌∷◌, length, if◌then◌else◌, Result, Ok, Err}
use Rattle.std.specs.List.{list_all}
use Rattle.sacn_packets.specs.declared.universe.TheConstants.{MIN_UNIVERSE, MAX_UNIVERSE}
use Rattle.sacn_files.specs.declared.limits.TheConstants.{DEFAULT_UDP_PORT}
use Rattle.sacn_node.specs.declared.limits.TheConstants.{MAX_PORTS, MIN_PORT}
use Rattle.sacn_node.specs.declared.setup.fault.SetupFault.{SetupFault}
use Rattle.sacn_node.specs.declared.setup.fault.SetupFault.TheVariants.{KeyValue, Limit}
use Rattle.sacn_node.specs.Setup.{Port, Setup}
use Rattle.sacn_node.specs.SetupReading.{whole}

abbrev pub is_universe : ℕ → Bool
is_universe u = nat_le MIN_UNIVERSE u && nat_le u MAX_UNIVERSE

-- a port for each universe, numbered from `n` on
abbrev pub whole_ports : ℕ → List ℕ → List Port
whole_ports n [] = []
whole_ports n (u ∷ us) = record { number = n; ranges = whole u ∷ [] } ∷ whole_ports (n + 1) us

abbrev pub setup_of_universes : List ℕ → Result Setup SetupFault
setup_of_universes us =
    if not (list_all is_universe us) then Err KeyValue
    else if nat_lt MAX_PORTS (length us) then Err Limit
    else Ok (record { udp_port = DEFAULT_UDP_PORT; ports = whole_ports MIN_PORT us })
