-- A world's file: its faults by phases, and its consoles and nodes (profile).
use Rattle.std.specs.Prelude.{◌&&◌, ◌+◌, ℕ, Bool, not, List, [], ◌∷◌, Option, None, Some, if◌then◌else◌, codes, is_some, option_and_then, Result, Ok, Err, Vec}
use Rattle.std.specs.declared.alloc.Global.{Global}
use Rattle.std.specs.List.{list_all}
use Rattle.toml.specs.Data.{Data, Members, get_member, as_table}
use Rattle.sacn_packets.specs.Results.{◌>>=◌}
use Rattle.sacn_files.specs.declared.faults.FileFault.{FileFault}
use Rattle.sacn_files.specs.Document.{version_in}
use Rattle.sacn_files.specs.Keys.{KeyTable, has_known_keys, has_keys, rows_are_known, rows_have_keys}
use Rattle.sacn_files.specs.Lines.{before}
use Rattle.sacn_files.specs.Values.{rows_at, has_rows, number_in, members_or_none, value_or}
use Rattle.sacn_console.specs.Shows.{ShowContent}
use Rattle.sacn_console.specs.ShowReading.{show_in}
use Rattle.sacn_console.specs.declared.show.fault.ShowFault.{ShowFault}
use Rattle.sacn_node.specs.Setup.{Setup}
use Rattle.sacn_node.specs.SetupReading.{setup_in}
use Rattle.sacn_node.specs.declared.setup.fault.SetupFault.{SetupFault}
use Rattle.sacn_schedule.specs.declared.world_file.TheConstants.{NEWEST_WORLD}
use Rattle.sacn_schedule.specs.declared.world_file.fault.WorldTextFault.{WorldTextFault}
use Rattle.sacn_schedule.specs.declared.world_file.fault.WorldTextFault.TheVariants.{OutOfMemory, Toml, MissingKey, UnknownKey, KeyValue, Console, Node, SameCid}
use Rattle.sacn_schedule.specs.WorldFaults.{world_fault_of}
use Rattle.sacn_schedule.specs.Cids.{Desk, has_same_cid}
use Rattle.sacn_schedule.specs.Reads.{GivesAs}

-- the consoles and the nodes
abbrev pub WorldContent : Type 0
WorldContent = List Desk × List Setup

-- the keys of each table: those that it must have, and those that it may have
abbrev pub world_keys : KeyTable
world_keys = record { required = codes "version" ∷ []; optional = codes "console" ∷ codes "node" ∷ [] }

abbrev pub console_keys : KeyTable
console_keys = record { required = codes "show" ∷ []; optional = codes "first" ∷ [] }

abbrev pub node_keys : KeyTable
node_keys = record { required = codes "setup" ∷ []; optional = [] }

abbrev pub console_rows : Members → List Data
console_rows ms = rows_at (codes "console") ms

abbrev pub node_rows : Members → List Data
node_rows ms = rows_at (codes "node") ms

-- no table has another key
abbrev pub keys_are_known : Members → Bool
keys_are_known ms =
    has_known_keys world_keys ms && (rows_are_known console_keys (console_rows ms) && rows_are_known node_keys (node_rows ms))

-- each required key is there
abbrev pub keys_are_there : Members → Bool
keys_are_there ms = has_keys world_keys ms && (rows_have_keys console_keys (console_rows ms) && rows_have_keys node_keys (node_rows ms))

-- the first number of a console; the table that has to stand at a key
abbrev pub first_of : Data → Option ℕ
first_of d = value_or 0 (number_in 0 255) (get_member (codes "first") (members_or_none d))

abbrev pub table_at : List ℕ → Data → Option Members
table_at key d = option_and_then as_table (get_member key (members_or_none d))

-- a console's show, not yet read, with its first number; a node's setup, not yet read
abbrev pub console_in : Data → Option (Members × ℕ)
console_in d = option_and_then (λ first. option_and_then (λ ms. Some (ms, first)) (table_at (codes "show") d)) (first_of d)

abbrev pub node_in : Data → Option Members
node_in d = table_at (codes "setup") d

abbrev pub is_console : Data → Bool
is_console d = is_some (console_in d)

abbrev pub is_node : Data → Bool
is_node d = is_some (node_in d)

-- the values of the world itself: what stands in shows and setups isn't looked at
abbrev pub values_are_good : Members → Bool
values_are_good ms =
    (has_rows (codes "console") ms && has_rows (codes "node") ms)
    && (list_all is_console (console_rows ms) && list_all is_node (node_rows ms))

-- a console of a number, and a node of a number; what isn't one was refused before
abbrev pub with_show : ℕ → ℕ → Result ShowContent ShowFault → Result Desk WorldTextFault
with_show i first (Err fault) = Err (Console i fault)
with_show i first (Ok show) = Ok (show, first)

abbrev pub with_console : ℕ → Option (Members × ℕ) → Result Desk WorldTextFault
with_console i None = Err KeyValue
with_console i (Some c) = with_show i c.1 (show_in c.0)

abbrev pub desk_in : ℕ → Data → Result Desk WorldTextFault
desk_in i d = with_console i (console_in d)

abbrev pub with_setup : ℕ → Result Setup SetupFault → Result Setup WorldTextFault
with_setup i (Err fault) = Err (Node i fault)
with_setup i (Ok setup) = Ok setup

abbrev pub with_node : ℕ → Option Members → Result Setup WorldTextFault
with_node i None = Err KeyValue
with_node i (Some ms) = with_setup i (setup_in ms)

abbrev pub setup_at : ℕ → Data → Result Setup WorldTextFault
setup_at i d = with_node i (node_in d)

-- what each row gives, the first of them having this number; or the first fault
abbrev pub each_from : {X : Type 0} → (ℕ → Data → Result X WorldTextFault) → ℕ → List Data → Result (List X) WorldTextFault
each_from read i [] = Ok []
each_from read i (d ∷ ds) = before (read i d) (each_from read (i + 1) ds)

-- the last phase: the consoles, then the nodes, then two consoles of one CID
abbrev pub last_phase : List Data → List Data → Result WorldContent WorldTextFault
last_phase consoles nodes = do
  desks ← each_from desk_in 0 consoles
  setups ← each_from setup_at 0 nodes
  if has_same_cid desks then Err SameCid else Ok (desks, setups)

-- the values, and then the last phase
abbrev pub value_phase : Members → Result WorldContent WorldTextFault
value_phase ms = if values_are_good ms then last_phase (console_rows ms) (node_rows ms) else Err KeyValue

-- the phases after the version
abbrev pub after_version : Result ℕ FileFault → Members → Result WorldContent WorldTextFault
after_version (Err fault) ms = Err (world_fault_of fault)
after_version (Ok version) ms =
    if not (keys_are_known ms) then Err UnknownKey
    else if not (keys_are_there ms) then Err MissingKey
    else value_phase ms

-- a world's consoles and nodes, or the fault of the first phase that fails
abbrev pub world_in : Members → Result WorldContent WorldTextFault
world_in ms = after_version (version_in NEWEST_WORLD (get_member (codes "version") ms)) ms

-- the same of a text: Toml where it is no document
abbrev pub world_or_toml : Option Members → Result WorldContent WorldTextFault
world_or_toml None = Err Toml
world_or_toml (Some ms) = world_in ms

-- a call gives these consoles and nodes or this fault, unless a request for memory was refused
abbrev pub GivesWorld : Result (Vec Desk Global × Vec Setup Global) WorldTextFault → Result WorldContent WorldTextFault → Type 0
GivesWorld result wanted = GivesAs (λ world. (world.0.items, world.1.items)) OutOfMemory result wanted
