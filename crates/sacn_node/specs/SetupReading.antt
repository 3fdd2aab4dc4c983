-- A setup's file: its faults by phases, and its value (profile).
use Rattle.std.specs.Prelude.{◌≡◌, ◌⊎◌, ◌&&◌, ◌==◌, ◌||◌, ℕ, nat_le, nat_lt, Bool, not, List, [], ◌∷◌, length, Option, None, Some, if◌then◌else◌, codes, option_and_then, option_map, ok_or, Result, Ok, Err, Vec}
use Rattle.std.specs.declared.alloc.Global.{Global}
use Rattle.std.specs.List.{list_any}
use Rattle.toml.specs.Data.{Data, Members, get_member}
use Rattle.sacn_packets.specs.declared.universe.TheConstants.{MIN_UNIVERSE, MAX_UNIVERSE}
use Rattle.sacn_packets.specs.declared.universe.TheConstants.{SLOTS}
use Rattle.sacn_packets.specs.Results.{◌>>=◌}
use Rattle.sacn_files.specs.declared.limits.TheConstants.{DEFAULT_UDP_PORT, MIN_UDP_PORT, MAX_UDP_PORT}
use Rattle.sacn_files.specs.declared.faults.FileFault.{FileFault}
use Rattle.sacn_files.specs.Document.{version_in}
use Rattle.sacn_files.specs.Keys.{KeyTable, has_known_keys, has_keys, rows_are_known, rows_have_keys, inner_rows_are_known, inner_rows_have_keys}
use Rattle.sacn_files.specs.Values.{rows_at, has_rows, number_in, number_at, array_at, value_or}
use Rattle.sacn_files.specs.Rows.{each}
use Rattle.sacn_files.specs.Lines.{before}
use Rattle.sacn_files.specs.Numbers.{has_repeat, in_order}
use Rattle.sacn_node.specs.declared.limits.TheConstants.{MAX_PORTS, MAX_UNIVERSES, MAX_RANGES, MIN_PORT, MAX_PORT, NEWEST_SETUP}
use Rattle.sacn_node.specs.declared.setup.SlotRange.{SlotRange}
use Rattle.sacn_node.specs.declared.setup.fault.SetupFault.{SetupFault}
use Rattle.sacn_node.specs.declared.setup.fault.SetupFault.TheVariants.{OutOfMemory, Toml, MissingKey, UnknownKey, KeyValue, PortTaken, Limit, RangeEnd, Overlap}
use Rattle.sacn_node.specs.Setup.{Port, Setup, port_numbers, universes, passes_end, has_overlap}
use Rattle.sacn_node.specs.SetupFaults.{setup_fault_of}

-- a value that has to be there, of its kind and in its range
abbrev pub required : {X : Type 0} → Option X → Result X SetupFault
required o = ok_or o KeyValue

-- a call gives this list or this fault, unless a growth was refused
abbrev pub GivesList : {X : Type 0} → Result (Vec X Global) SetupFault → Result (List X) SetupFault → Type 0
GivesList (Ok found) wanted = wanted ≡ Ok found.items
GivesList (Err fault) wanted = (fault ≡ OutOfMemory) ⊎ (wanted ≡ Err fault)

-- the keys of each table: those that it must have, and those that it may have
abbrev pub setup_keys : KeyTable
setup_keys = record { required = codes "version" ∷ []; optional = codes "udp_port" ∷ codes "port" ∷ [] }

abbrev pub port_keys : ℕ → KeyTable
port_keys version = record { required = if version == 1 then codes "number" ∷ codes "universe" ∷ [] else codes "number" ∷ codes "range" ∷ []; optional = [] }

abbrev pub range_keys : KeyTable
range_keys = record { required = codes "universe" ∷ codes "slot" ∷ codes "count" ∷ codes "port_slot" ∷ []; optional = [] }

-- the tables of `port`
abbrev pub port_rows : Members → List Data
port_rows ms = rows_at (codes "port") ms

-- no table has another key; version 1 has no tables below a port
abbrev pub keys_are_known : ℕ → Members → Bool
keys_are_known version ms =
    has_known_keys setup_keys ms && rows_are_known (port_keys version) (port_rows ms)
    && ((version == 1) || inner_rows_are_known (codes "range") range_keys (port_rows ms))

-- each required key is there
abbrev pub keys_are_there : ℕ → Members → Bool
keys_are_there version ms =
    has_keys setup_keys ms && rows_have_keys (port_keys version) (port_rows ms)
    && ((version == 1) || inner_rows_have_keys (codes "range") range_keys (port_rows ms))

abbrev pub universe_at : Data → Option ℕ
universe_at d = number_at MIN_UNIVERSE MAX_UNIVERSE (codes "universe") d

-- a number of slots, or a slot's number
abbrev pub slot_at : List ℕ → Data → Option ℕ
slot_at key d = number_at 1 SLOTS key d

-- a range as version 2 writes it, and the whole of a universe
abbrev pub range_in : Data → Option SlotRange
range_in d =
    option_and_then (λ u. option_and_then (λ s. option_and_then (λ c. option_and_then
    (λ p. Some (record { universe = u; slot = s; count = c; port_slot = p }))
    (slot_at (codes "port_slot") d)) (slot_at (codes "count") d)) (slot_at (codes "slot") d)) (universe_at d)

abbrev pub whole : ℕ → SlotRange
whole u = record { universe = u; slot = 1; count = SLOTS; port_slot = 1 }

-- the ranges of an array, at least one
abbrev pub ranges_in : List Data → Option (List SlotRange)
ranges_in ds = if nat_le 1 (length ds) && nat_le (length ds) MAX_RANGES then each range_in ds else None

-- the ranges of a port: a whole universe in version 1, an array in version 2
abbrev pub ranges_of : ℕ → Data → Option (List SlotRange)
ranges_of version d =
    if version == 1 then option_map (λ u. whole u ∷ []) (universe_at d)
    else option_and_then ranges_in (array_at (codes "range") d)

abbrev pub port_in : ℕ → Data → Result Port SetupFault
port_in version d = do
  number ← required (number_at MIN_PORT MAX_PORT (codes "number") d)
  ranges ← required (ranges_of version d)
  Ok (record { number = number; ranges = ranges })

-- each row's port, in the file's order
abbrev pub ports_in : ℕ → List Data → Result (List Port) SetupFault
ports_in version [] = Ok []
ports_in version (d ∷ ds) = before (port_in version d) (ports_in version ds)

abbrev pub udp_port_of : Members → Option ℕ
udp_port_of ms = value_or DEFAULT_UDP_PORT (number_in MIN_UDP_PORT MAX_UDP_PORT) (get_member (codes "udp_port") ms)

-- the last phase's fault over ports in order of number
abbrev pub order_fault : List Port → Option SetupFault
order_fault ps =
    if nat_lt MAX_UNIVERSES (length (universes ps)) then Some Limit
    else if list_any (λ p. list_any passes_end p.ranges) ps then Some RangeEnd
    else if list_any (λ p. has_overlap p.ranges) ps then Some Overlap
    else None

abbrev pub unless : {X : Type 0} → Option SetupFault → X → Result X SetupFault
unless None x = Ok x
unless (Some fault) x = Err fault

-- the last phase, over the ports in the file's order
abbrev pub last_phase : ℕ → List Port → Result Setup SetupFault
last_phase udp ps =
    if has_repeat (port_numbers ps) then Err PortTaken
    else if nat_lt MAX_PORTS (length ps) then Err Limit
    else unless (order_fault (in_order (λ p. p.number) ps)) (record { udp_port = udp; ports = in_order (λ p. p.number) ps })

-- the values, and then the last phase
abbrev pub value_phase : ℕ → Members → Result Setup SetupFault
value_phase version ms = do
  udp ← required (udp_port_of ms)
  ports ← if has_rows (codes "port") ms then ports_in version (port_rows ms) else Err KeyValue
  last_phase udp ports

-- the phases after the version
abbrev pub after_version : Result ℕ FileFault → Members → Result Setup SetupFault
after_version (Err fault) ms = Err (setup_fault_of fault)
after_version (Ok version) ms =
    if not (keys_are_known version ms) then Err UnknownKey
    else if not (keys_are_there version ms) then Err MissingKey
    else value_phase version ms

-- a setup's value, or the fault of the first phase that fails
abbrev pub setup_in : Members → Result Setup SetupFault
setup_in ms = after_version (version_in NEWEST_SETUP (get_member (codes "version") ms)) ms

-- the same of a text: Toml where it is no document
abbrev pub setup_or_toml : Option Members → Result Setup SetupFault
setup_or_toml None = Err Toml
setup_or_toml (Some ms) = setup_in ms
